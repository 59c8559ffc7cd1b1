-- A rule slot passes exactly if its rule does and its bytes are the rule's image; and the set that a rule names, by what was read of it.
use Prim.Native.Nat.{ℕ, ◌-◌, ◌≤◌, ◌<◌}
use mathlib.Core.Path.{◌≡◌, ap, ap₂, sym, ◌∙◌}
use mathlib.Core.Bool.{Bool, false}
use mathlib.Core.List.{List, [], ◌++◌, map}
use mathlib.Core.Option.{Option, none, some}
use native.Mathlib.Omega.{arith}
use lib.ListN.{length, take, drop, get_or, take-append-drop}
use lib.Seq.{drop_at, drop-drop, length-take-le}
use lib.Dec.{T, eqb→eq}
use Rattle.meaning.specs.Sizes.{SET-NUMBER-BYTES, CONTENT-BYTES, PREFIX-AT, LENGTH-AT, FILTER-BYTES, SET-AT, RULE-BODY, CONTENT-AT, RULE-WIDTH}
use Rattle.meaning.specs.Basics.{all, is_zero, word, part}
use Rattle.meaning.specs.Filters.{Filter, filter_of, filter_in_range}
use Rattle.meaning.specs.Rules.{Rule}
use Rattle.meaning.specs.Actions.{actions_of}
use Rattle.meaning.specs.Groups.{cas_fit, fit}
use Rattle.meaning.specs.Plan.{sized, code_passes, fits_held}
use Rattle.meaning.proofs.Tests.{and_right, and_both, and_left, each_all, all_at, all_weaken}
use Rattle.buffer.specs.Zeros.{zeros}
use Rattle.filter.specs.Slots.{FilterBytes, prefix_fits, rule_of}
use Rattle.filter.proofs.FilterLaws.{range_prefix_fits, prefix_length}
use Rattle.filter.proofs.RuleLaws.{filter_in_lem}
use Rattle.plan.specs.Layout.{word_bytes, rule_image, slot_of}
use Rattle.plan.proofs.ImageLaws.{rule_back}
use Rattle.examiner.specs.Examined.{set_fits, rule_tests, rule_test}
use Rattle.blocks.proofs.EndianLaws.{Bytes}
use Rattle.examiner.proofs.Bytes.{word_again, last_zeros}
use Rattle.examiner.proofs.SetSlots.{slot_behind, slot_empty, slot_held}

-- A SLOT THAT PASSES

module _ (sets : List (List ℕ)) (s : List ℕ) (size : length s ≡ RULE-WIDTH) (t : T (rule_test sets s)) where
  pub rule_code : T (code_passes (rule_of s).code)
  unfolding rule_test code_passes rule_of
  rule_code =
      let sized-code : T (sized FILTER-BYTES (take FILTER-BYTES s)) = rw (length-take-le FILTER-BYTES s (omega arith)) tt in
      and_both (sized FILTER-BYTES (take FILTER-BYTES s)) (filter_in_range (take FILTER-BYTES s)) sized-code (all_at 0 (rule_tests sets s) t)

  pub rule_fits : T (set_fits sets (rule_of s))
  unfolding rule_test
  rule_fits = all_at 2 (rule_tests sets s) t

  unused : drop RULE-BODY s ≡ zeros (RULE-WIDTH - RULE-BODY)
  unfolding rule_test
  unused = last_zeros RULE-BODY 3 s size (all_at 1 (rule_tests sets s) t)

  pub rule_image_lem : Bytes s → rule_image (rule_of s) ≡ s
  unfolding rule_image rule_of
  rule_image_lem h =
      let behind : word_bytes (word s SET-AT) ++ zeros (RULE-WIDTH - RULE-BODY) ≡ drop FILTER-BYTES s = ap (λ (l : List ℕ). word_bytes (word s SET-AT) ++ l) (sym unused) ∙ word_again s FILTER-BYTES (omega arith) h in
      ap (λ (l : List ℕ). take FILTER-BYTES s ++ l) behind ∙ take-append-drop FILTER-BYTES s

-- slots that pass have prefixes of at most 16 digits
pub prefixes_fit : (sets ss : List (List ℕ)) → T (all (rule_test sets) ss) → T (all prefix_fits ss)
unfolding rule_test rule_of
prefixes_fit sets ss = all_weaken (rule_test sets) prefix_fits ss (λ s t. range_prefix_fits s (all_at 0 (rule_tests sets s) t))

-- AN IMAGE

module _ (sets : List (List ℕ)) (r : Rule) (c : T (code_passes r.code)) (t : T (set_fits sets r)) where
  code_size : length r.code ≡ FILTER-BYTES
  unfolding code_passes
  code_size = eqb→eq (length r.code) FILTER-BYTES (and_left (sized FILTER-BYTES r.code) (filter_in_range r.code) c)

  code_range : T (filter_in_range (rule_of (rule_image r)).code)
  unfolding code_passes
  code_range = rw (rule_back r c) (and_right (sized FILTER-BYTES r.code) (filter_in_range r.code) c)

  none_behind : T (all is_zero (part RULE-BODY 3 (rule_image r)))
  unfolding rule_image zeros
  none_behind =
      let x : List ℕ = r.code ++ (word_bytes r.set ++ zeros (RULE-WIDTH - RULE-BODY)) in
      let three : drop RULE-BODY x ≡ zeros (RULE-WIDTH - RULE-BODY) = sym (drop-drop SET-NUMBER-BYTES FILTER-BYTES x) ∙ ap (drop SET-NUMBER-BYTES) (drop_at r.code (word_bytes r.set ++ zeros (RULE-WIDTH - RULE-BODY)) FILTER-BYTES code_size) in
      rw three tt

  pub rule_passes_lem : T (rule_test sets (rule_image r))
  unfolding rule_test
  rule_passes_lem = each_all (rule_tests sets (rule_image r)) (code_range, (none_behind, (rw (rule_back r c) t, tt)))

-- THE SET THAT A RULE NAMES, by what was read: its number n, and the first byte of its slot

module _ (n : ℕ) (sets : List (List ℕ)) (s : List ℕ) (n-is : n ≡ word s SET-AT) where
  named : (o : Option (List ℕ)) → get_or (map slot_of sets) n none ≡ o → set_fits sets (rule_of s) ≡ fits_held (filter_of s) o
  unfolding set_fits rule_of
  named o e = rw (← n-is, e) (ap (λ (f : Filter). fits_held f o) (filter_in_lem s))

  pub no_set : length sets ≤ n → set_fits sets (rule_of s) ≡ false
  no_set h = named none (slot_behind n sets h)

  -- t is the slot
  module _ (t : List ℕ) (h : n < length sets) (t-is : get_or sets n [] ≡ t) where
    pub empty_set : get_or t 0 0 ≡ 0 → set_fits sets (rule_of s) ≡ false
    empty_set e = named none (slot_empty n sets t h t-is e)

    -- p and l are the lengths of the prefix and of the filter as read, b what the content gave
    pub held_set : (p l : ℕ) (b : Bool) → (get_or t 0 0 ≡ 0 → ⊥) → FilterBytes s → p ≡ get_or s PREFIX-AT 0 → l ≡ get_or s LENGTH-AT 0
        → b ≡ cas_fit p l (actions_of (part CONTENT-AT CONTENT-BYTES t)).cas → b ≡ set_fits sets (rule_of s)
    unfolding fit filter_of
    held_set p l b e bytes p-is l-is b-is =
        let content : List ℕ = part CONTENT-AT CONTENT-BYTES t in
        let size : length (filter_of s).prefix ≡ p = prefix_length s bytes ∙ sym p-is in
        let fits : fit (filter_of s) (actions_of content) ≡ cas_fit p l (actions_of content).cas = ap₂ (λ (x y : ℕ). cas_fit x y (actions_of content).cas) size (sym l-is) in
        b-is ∙ sym (named (some content) (slot_held n sets t h t-is e) ∙ fits)
