-- A test of every element of a list, by a chain or by a loop in which what is left decides.
use Prim.Native.Nat.{ℕ, suc, ◌+◌, ◌-◌, ◌*◌, ◌≤◌, ◌<◌}
use mathlib.Core.Path.{◌≡◌, refl, ap, ◌∙◌}
use mathlib.Core.List.{List, [], ◌∷◌}
use mathlib.Core.Bool.{Bool, true, false, ◌&&◌}
use native.Mathlib.Numerals.{add-one}
use native.Mathlib.Omega.{arith}
use lib.ListN.{length, take, drop, get_or, drop_of_length-le}
use lib.Seq.{drop-cons}
use Rattle.std.specs.List.{list_all}
use Rattle.meaning.specs.Basics.{all}
use Rattle.buffer.specs.Slots.{slots}
use Rattle.buffer.proofs.SlotLaws.{slot_at, length_slots}

pub and-true : (a : Bool) → (a && true) ≡ a
and-true true = refl
and-true false = refl

pub and-false : (a : Bool) → (a && false) ≡ false
and-false true = refl
and-false false = refl

-- the library's test of every element
pub all_is : {A : Type 0} (ok : A → Bool) (xs : List A) → list_all ok xs ≡ all ok xs
all_is ok [] = refl
all_is ok (x ∷ xs) = ap (λ (b : Bool). ok x && b) (all_is ok xs)

-- the elements before i have passed
abbrev pub Passed : {A : Type 0} → (A → Bool) → List A → ℕ → Type 0
Passed ok xs i = all ok xs ≡ all ok (drop i xs)

module _ {A : Type 0} (ok : A → Bool) (xs : List A) (d : A) (i : ℕ) where
  pub done : length xs ≤ i → Passed ok xs i → all ok xs ≡ true
  done h p = p ∙ rw (drop_of_length-le xs h)

  -- b is what the test of element i gave
  module _ (b : Bool) (leaf : b ≡ ok (get_or xs i d)) (h : i < length xs) (p : Passed ok xs i) where
    turn : all ok xs ≡ (b && all ok (drop (suc i) xs))
    turn = p ∙ rw (drop-cons xs i d h, leaf)

    pub fail : b ≡ false → all ok xs ≡ false
    fail e = turn ∙ rw e

    pub pass : b ≡ true → Passed ok xs (i + 1)
    pass e = turn ∙ rw (e, add-one)

-- the same of slots: the test is asked about the part of w bytes from w * i on
module _ (ok : List ℕ → Bool) (w n i : ℕ) (m : List ℕ) where
  module _ (b : Bool) (leaf : b ≡ ok (take (w * i + w - w * i) (drop (w * i) m))) (h : i < n) (p : Passed ok (slots w n m) i) where
    leaf_at : b ≡ ok (get_or (slots w n m) i [])
    leaf_at =
        let k : w * i + w - w * i ≡ w = omega arith in
        leaf ∙ rw (k, slot_at w i n m h)

    inside : i < length (slots w n m)
    inside = rw (length_slots w n m) h

    pub slot_fail : b ≡ false → all ok (slots w n m) ≡ false
    slot_fail e = fail ok (slots w n m) [] i b leaf_at inside p e

    pub slot_pass : b ≡ true → Passed ok (slots w n m) (i + 1)
    slot_pass e = pass ok (slots w n m) [] i b leaf_at inside p e

  pub slot_done : n ≤ i → Passed ok (slots w n m) i → all ok (slots w n m) ≡ true
  slot_done h p = done ok (slots w n m) [] i (rw (length_slots w n m) h) p
