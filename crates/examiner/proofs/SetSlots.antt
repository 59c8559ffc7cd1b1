-- A set slot passes exactly if its content does and its bytes are the content's image; and the content of a slot by its place in the area.
use Prim.Native.Nat.{ℕ, ◌≤◌, ◌<◌}
use mathlib.Core.Path.{◌≡◌, ap, sym, ◌∙◌}
use mathlib.Core.Bool.{Bool, true, false}
use mathlib.Core.List.{List, [], ◌∷◌, ◌++◌, map}
use mathlib.Core.Option.{Option, none, some}
use native.Mathlib.Omega.{arith}
use lib.ListN.{length, take, drop, get_or, length-drop, take-append-drop, get_or-map, get_or-eq_default, length-map}
use lib.Seq.{drop-cons, drop-drop, take_at, drop_at, length-take-le}
use lib.Dec.{T, eqb→eq}
use borrow.Author.Tests.{eq-eqb, ne_eqb}
use Rattle.meaning.specs.Sizes.{CONTENT-BYTES, CONTENT-AT, COUNT-AT, SET-WIDTH}
use Rattle.meaning.specs.Basics.{all, all_of, is_zero, part}
use Rattle.std.specs.Prelude.{if◌then◌else◌}
use Rattle.meaning.specs.Actions.{actions_of, content_in_range}
use Rattle.meaning.specs.Groups.{groups_hold}
use Rattle.meaning.specs.Plan.{sized, content_rules, content_passes, slot_passes}
use Rattle.meaning.proofs.Tests.{each_all, all_at}
use Rattle.buffer.specs.Zeros.{zeros}
use Rattle.buffer.proofs.ZeroLaws.{all_zeros}
use Rattle.plan.specs.Layout.{word_bytes, slot_image, slot_of}
use Rattle.examiner.specs.Examined.{held_tests, slot_test}
use Rattle.examiner.proofs.Bytes.{last_zeros}

-- THE TEST

pub empty_slot : (s : List ℕ) → get_or s 0 0 ≡ 0 → slot_test s ≡ all is_zero s
unfolding slot_test
empty_slot s e = rw (eq-eqb (get_or s 0 0) 0 e)

pub held_slot : (s : List ℕ) → (get_or s 0 0 ≡ 0 → ⊥) → slot_test s ≡ all_of (held_tests s)
unfolding slot_test
held_slot s h = rw (ne_eqb (get_or s 0 0) 0 h)

-- A SLOT THAT PASSES

module _ (s : List ℕ) (size : length s ≡ SET-WIDTH) where
  content_size : length (part CONTENT-AT CONTENT-BYTES s) ≡ CONTENT-BYTES
  content_size = length-take-le CONTENT-BYTES (drop CONTENT-AT s) (rw (length-drop CONTENT-AT s) (omega arith))

  -- a held slot: its first byte, its content, and two bytes more
  slot_shape : s ≡ get_or s 0 0 ∷ part CONTENT-AT CONTENT-BYTES s ++ drop COUNT-AT s
  slot_shape =
      let h : 0 < length s = omega arith in
      drop-cons s 0 0 h ∙ ap (λ (l : List ℕ). get_or s 0 0 ∷ l) (sym (take-append-drop CONTENT-BYTES (drop CONTENT-AT s)) ∙ rw (drop-drop CONTENT-BYTES CONTENT-AT s))

  pub slot_content : T (slot_test s) → T (slot_passes (slot_of s))
  unfolding slot_test slot_of content_passes
  slot_content = go (is_zero (get_or s 0 0))
    where
      go : (b : Bool) → T (if b then all is_zero s else all_of (held_tests s)) → T (slot_passes (if b then none else some (part CONTENT-AT CONTENT-BYTES s)))
      go true t = tt
      go false t =
          let sized-content : T (sized CONTENT-BYTES (part CONTENT-AT CONTENT-BYTES s)) = rw content_size tt in
          each_all (content_rules (part CONTENT-AT CONTENT-BYTES s)) (sized-content, (all_at 1 (held_tests s) t, (all_at 2 (held_tests s) t, tt)))

  pub slot_image_lem : T (slot_test s) → slot_image 0 (slot_of s) ≡ s
  unfolding slot_test slot_of zeros
  slot_image_lem = go (is_zero (get_or s 0 0))
    where
      go : (b : Bool) → T (if b then all is_zero s else all_of (held_tests s)) → slot_image 0 (if b then none else some (part CONTENT-AT CONTENT-BYTES s)) ≡ s
      go true t = sym (all_zeros s t ∙ ap zeros size)
      go false t =
          let first : get_or s 0 0 ≡ 1 = eqb→eq (get_or s 0 0) 1 (all_at 0 (held_tests s) t) in
          let none_behind : drop COUNT-AT s ≡ zeros 2 = last_zeros COUNT-AT 2 s size (all_at 3 (held_tests s) t) in
          sym (slot_shape ∙ rw (first, none_behind))

-- AN IMAGE

pub image_passes : (o : Option (List ℕ)) → T (slot_passes o) → T (slot_test (slot_image 0 o))
unfolding slot_test content_passes zeros
image_passes none t = tt
image_passes (some c) t =
    let size : length c ≡ CONTENT-BYTES = eqb→eq (length c) CONTENT-BYTES (all_at 0 (content_rules c) t) in
    let content : take CONTENT-BYTES (c ++ word_bytes 0) ≡ c = take_at c (word_bytes 0) CONTENT-BYTES size in
    let behind : drop CONTENT-BYTES (c ++ word_bytes 0) ≡ word_bytes 0 = drop_at c (word_bytes 0) CONTENT-BYTES size in
    let range : T (content_in_range (take CONTENT-BYTES (c ++ word_bytes 0))) = rw content (all_at 1 (content_rules c) t) in
    let rules : T (groups_hold (actions_of (take CONTENT-BYTES (c ++ word_bytes 0)))) = rw content (all_at 2 (content_rules c) t) in
    let unused : T (all is_zero (take 2 (drop CONTENT-BYTES (c ++ word_bytes 0)))) = rw behind tt in
    each_all (held_tests (1 ∷ c ++ word_bytes 0)) (tt, (range, (rules, (unused, tt))))

-- THE CONTENT AT A PLACE, by its slot t and the first byte of it

module _ (n : ℕ) (sets : List (List ℕ)) where
  pub slot_behind : length sets ≤ n → get_or (map slot_of sets) n none ≡ none
  slot_behind h = get_or-eq_default (map slot_of sets) none (rw (length-map sets slot_of) h)

  module _ (t : List ℕ) (h : n < length sets) (t-is : get_or sets n [] ≡ t) where
    content_at : get_or (map slot_of sets) n none ≡ slot_of t
    unfolding slot_of
    content_at = get_or-map slot_of sets n [] ∙ ap slot_of t-is

    pub slot_empty : get_or t 0 0 ≡ 0 → get_or (map slot_of sets) n none ≡ none
    unfolding slot_of
    slot_empty e = content_at ∙ rw (eq-eqb (get_or t 0 0) 0 e)

    pub slot_held : (get_or t 0 0 ≡ 0 → ⊥) → get_or (map slot_of sets) n none ≡ some (part CONTENT-AT CONTENT-BYTES t)
    unfolding slot_of
    slot_held e = content_at ∙ rw (ne_eqb (get_or t 0 0) 0 e)
