-- The places of a digit string, tested a part at a time.
use Prim.Native.Nat.{ℕ, zero, suc, min, ◌+◌, ◌-◌, ◌≤◌}
use Rattle.std.proofs.lemmas.List.{take_min, drop_min}
use mathlib.Core.Path.{◌≡◌, refl, sym, ap, ◌∙◌}
use mathlib.Core.List.{List, [], ◌∷◌}
use mathlib.Core.Bool.{Bool, true, false, ◌&&◌, and_assoc, and-false}
use native.Mathlib.Nat.{sub-zero, zero-sub, suc-sub-suc}
use native.Mathlib.Omega.{arith}
use lib.ListN.{length, take, drop, length-drop}
use lib.Seq.{take_all, take-take}
use Rattle.meaning.specs.Basics.{all, is_zero, is_digit}
use Rattle.meaning.proofs.Tests.{is_true, true_is, and_left}
use Rattle.buffer.proofs.ListLaws.{drop_take}
use Rattle.blocks.specs.Places.{places_pass}

-- PARTS

-- digits, and then unused bytes
pub pass_is : (n : ℕ) (s : List ℕ) → places_pass n s ≡ (all is_digit (take n s) && all is_zero (drop n s))
pass_is zero [] = refl
pass_is (suc n) [] = refl
pass_is zero (x ∷ s) = rw (pass_is zero s)
pass_is (suc n) (x ∷ s) = rw (pass_is n s, and_assoc)

-- the places before place i, and those from there on
pub pass_parts : (i n : ℕ) (s : List ℕ) → places_pass n s ≡ (places_pass n (take i s) && places_pass (n - i) (drop i s))
pass_parts zero n s = rw sub-zero
pass_parts (suc i) n [] = refl
pass_parts (suc i) zero (x ∷ s) = rw (pass_parts i zero s, zero-sub, zero-sub, and_assoc)
pass_parts (suc i) (suc n) (x ∷ s) = rw (pass_parts i n s, suc-sub-suc, and_assoc)

-- A BYTE AT A TIME

-- the digits end before place n or where the places do
pub few_is : (n d : ℕ) (s : List ℕ) → d ≡ min n (length s) → places_pass n s ≡ (all is_digit (take d s) && all is_zero (drop d s))
few_is n d s e = pass_is n s ∙ rw (e, take_min n s, drop_min n s)

-- A BLOCK AT A TIME

-- the places before place i have passed
abbrev pub PassedTo : ℕ → List ℕ → ℕ → Type 0
PassedTo n s i = places_pass n (take i s) ≡ true

passed_before : (n : ℕ) (s : List ℕ) (i j : ℕ) → i ≤ j → PassedTo n s j → PassedTo n s i
passed_before n s i j h p =
    let e : (places_pass n (take i s) && places_pass (n - i) (drop i (take j s))) ≡ true = rw (take-take i j s h) at (sym (pass_parts i n (take j s)) ∙ p) in
    is_true _ (and_left (places_pass n (take i s)) _ (true_is _ e))

-- b is what the test of the eight places from i on gave
module _ (n : ℕ) (s : List ℕ) (i : ℕ) (b : Bool) (b-is : b ≡ places_pass (n - i) (take 8 (drop i s))) where
  pub block_fails : b ≡ false → places_pass n s ≡ false
  block_fails e = pass_parts i n s ∙ rw (pass_parts 8 (n - i) (drop i s), sym b-is, e, and-false)

  pub block_passes : b ≡ true → PassedTo n s i → PassedTo n s (i + 8)
  block_passes e p =
      let l : i + 8 - i ≡ 8 = omega arith in
      pass_parts i n (take (i + 8) s) ∙ rw (take-take i (i + 8) s (omega arith), p, drop_take i (i + 8) s (omega arith), l, sym b-is, e)

  -- the last eight, some of which may have passed already
  pub block_last : (j : ℕ) → i ≤ j → length s ≡ i + 8 → PassedTo n s j → b ≡ places_pass n s
  block_last j h l p =
      let d : take 8 (drop i s) ≡ drop i s = take_all 8 (drop i s) (rw length-drop (omega arith)) in
      sym (pass_parts i n s ∙ rw (passed_before n s i j h p) (ap (places_pass (n - i)) (sym d) ∙ sym b-is))
