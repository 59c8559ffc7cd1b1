-- An entry as it is written, and at the front of a buffer.
use Prim.Native.Nat.{ℕ, ◌≤◌, ◌<◌}
use mathlib.Core.Path.{◌≡◌, refl, ap, ap₂, sym, ◌∙◌}
use mathlib.Core.List.{List, [], ◌∷◌, ◌++◌, append_assoc, append-nil}
use native.Mathlib.Omega.{arith}
use lib.ListN.{length, take, drop, get_or, set, length-append, length-drop}
use lib.Seq.{drop-length, length-take-le}
use borrow.Rule.Slice.PartMut.{put_mid, mid_of}
use Rattle.meaning.specs.Sizes.{FILTER-BYTES, DIFFERENCE-FILTER-AT, LEFT-SET-AT, RIGHT-SET-AT, DIFFERENCE-BYTES}
use Rattle.meaning.specs.Basics.{written_over, bytes_of_word}
use Rattle.meaning.specs.Rules.{Rule}
use Rattle.meaning.specs.Plan.{code_passes, codes_pass}
use Rattle.meaning.specs.History.{no_rule}
use Rattle.meaning.specs.Compare.{entry}
use Rattle.buffer.specs.Bytes.{with_word}
use Rattle.buffer.specs.Slots.{flat}
use Rattle.meaning.proofs.Tests.{all_place}
use Rattle.plan.specs.Layout.{plan_of}
use Rattle.plan.proofs.ImageLaws.{code_size}
use Rattle.plan.proofs.ReadLaws.{sound_is, rule_count_is}
use Rattle.plan.proofs.EditLaws.{word_between}
use Rattle.plan.specs.declared.HeldRule.{HeldRule}
use Rattle.compare.specs.Steps.{PutsEntries}
use Rattle.compare.specs.Standings.{rule_of}

-- AN ENTRY

four : (l : List ℕ) → length l ≡ 4 → l ≡ get_or l 0 0 ∷ get_or l 1 0 ∷ get_or l 2 0 ∷ get_or l 3 0 ∷ []
four [] e = absurd (omega (arith, e))
four (a ∷ []) e = absurd (omega (arith, e))
four (a ∷ b ∷ []) e = absurd (omega (arith, e))
four (a ∷ b ∷ c ∷ []) e = absurd (omega (arith, e))
four (a ∷ b ∷ c ∷ d ∷ []) e = refl
four (a ∷ b ∷ c ∷ d ∷ x ∷ l) e = absurd (omega (arith, e))

-- the filter copied behind the first byte, the two sets put behind it, and the kind over the first byte
pub entry_written : (out copied one two code : List ℕ) (kind left right : ℕ) → length out ≡ DIFFERENCE-BYTES → length code ≡ FILTER-BYTES
    → copied ≡ written_over code (mid_of DIFFERENCE-FILTER-AT FILTER-BYTES out) → one ≡ with_word (put_mid DIFFERENCE-FILTER-AT FILTER-BYTES out copied) LEFT-SET-AT left
    → two ≡ with_word one RIGHT-SET-AT right → set two 0 kind ≡ entry kind code left right
unfolding entry
entry_written [] copied one two code kind left right l k c-is one-is two_is = absurd (omega (arith, l))
entry_written (x ∷ rest) copied one two code kind left right l k c-is one-is two_is =
    let long : length (take FILTER-BYTES rest) ≡ FILTER-BYTES = length-take-le FILTER-BYTES rest (omega (arith, l)) in
    let nothing : drop FILTER-BYTES (take FILTER-BYTES rest) ≡ [] =
    ap (λ n. drop n (take FILTER-BYTES rest)) (sym long) ∙ drop-length (take FILTER-BYTES rest) in
    let whole : copied ≡ code = c-is ∙ rw (k, nothing) (append-nil code) in
    let t : List ℕ = drop FILTER-BYTES rest in
    let tail : t ≡ get_or t 0 0 ∷ get_or t 1 0 ∷ get_or t 2 0 ∷ get_or t 3 0 ∷ [] = four t (length-drop FILTER-BYTES rest ∙ omega (arith, l)) in
    let first : put_mid DIFFERENCE-FILTER-AT FILTER-BYTES (x ∷ rest) copied ≡ (x ∷ code) ++ get_or t 0 0 ∷ get_or t 1 0 ∷ (get_or t 2 0 ∷ get_or t 3 0 ∷ []) =
    ap₂ (λ (a b : List ℕ). x ∷ (a ++ b)) whole tail in
    let one_at : one ≡ (x ∷ code) ++ (bytes_of_word left ++ (get_or t 2 0 ∷ get_or t 3 0 ∷ [])) =
    one-is ∙ (ap (λ (b : List ℕ). with_word b LEFT-SET-AT left) first ∙ word_between (x ∷ code) (get_or t 0 0) (get_or t 1 0) (get_or t 2 0 ∷ get_or t 3 0 ∷ []) LEFT-SET-AT left (omega (arith, k))) in
    let before-right : length ((x ∷ code) ++ bytes_of_word left) ≡ RIGHT-SET-AT = length-append (x ∷ code) (bytes_of_word left) ∙ omega (arith, k) in
    let two_at : two ≡ ((x ∷ code) ++ bytes_of_word left) ++ (bytes_of_word right ++ []) =
    two_is ∙ (ap (λ (b : List ℕ). with_word b RIGHT-SET-AT right) (one_at ∙ sym (append_assoc (x ∷ code) (bytes_of_word left) (get_or t 2 0 ∷ get_or t 3 0 ∷ [])))
    ∙ word_between ((x ∷ code) ++ bytes_of_word left) (get_or t 2 0) (get_or t 3 0) [] RIGHT-SET-AT right before-right) in
    ap (λ (b : List ℕ). set b 0 kind) (two_at ∙ append_assoc (x ∷ code) (bytes_of_word left) (bytes_of_word right ++ []))

-- AT THE FRONT OF A BUFFER

pub entry_put : (e out ys : List ℕ) → ys ≡ e → length ys ≡ DIFFERENCE-BYTES → PutsEntries (e ∷ []) out (put_mid 0 DIFFERENCE-BYTES out ys) DIFFERENCE-BYTES
entry_put e out ys is long =
    let one : ys ≡ flat (e ∷ []) = is ∙ sym (append-nil e) in
    let size : DIFFERENCE-BYTES ≡ length (flat (e ∷ [])) = sym long ∙ ap length one in
    record { bytes = size; buffer = ap₂ (λ (b : List ℕ) (m : ℕ). b ++ drop m out) one size }

pub entry_long : (k : ℕ) (code : List ℕ) (left right : ℕ) → length code ≡ FILTER-BYTES → length (entry k code left right) ≡ DIFFERENCE-BYTES
unfolding entry
entry_long k code left right l = omega (arith, length-append code (bytes_of_word left ++ bytes_of_word right), l)

-- THE ENTRY OF A RULE THAT IS HELD

-- its code has a filter's bytes
code_long : (r : HeldRule) → length (rule_of r).code ≡ FILTER-BYTES
unfolding codes_pass
code_long r =
    let m : List ℕ = r.plan.memory.now in
    let below : r.place.0 < length (plan_of m).rules = omega (arith, rule_count_is m, r.held) in
    code_size (rule_of r).code (all_place (λ (x : Rule). code_passes x.code) (plan_of m).rules no_rule r.place.0 (sound_is m r.plan.sound).plan.codes below)

-- where there is room for what is listed, there is room for an entry
pub entry_room : (r : HeldRule) (k left right : ℕ) (out : List ℕ) → length (flat (entry k (rule_of r).code left right ∷ [])) ≤ length out → DIFFERENCE-BYTES ≤ length out
entry_room r k left right out room =
    let e : List ℕ = entry k (rule_of r).code left right in
    omega (arith, ap length (append-nil e), entry_long k (rule_of r).code left right (code_long r), room)
