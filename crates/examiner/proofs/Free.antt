-- A part of bytes is 0 where each of its eights is, as a number, and what is behind them.
use Prim.Native.Nat.{ℕ, zero, suc, ◌+◌, ◌*◌}
use mathlib.Core.Path.{◌≡◌, refl, sym, ap, ◌∙◌}
use mathlib.Core.List.{List, [], ◌∷◌}
use mathlib.Core.Bool.{Bool, true, false, ◌&&◌}
use native.Mathlib.Omega.{arith}
use lib.ListN.{take, drop}
use lib.Seq.{take-take, drop-drop}
use lib.Dec.{eqb, eqb→eq}
use borrow.Author.Tests.{eq-eqb}
use mir.Syntax.{w64}
use Rattle.std.specs.Int.{from_le_bytes}
use Rattle.std.specs.Simd.{first_chunks}
use Rattle.meaning.specs.Basics.{all, is_zero}
use Rattle.meaning.proofs.Tests.{same_tests, true_is, and_left, and_right, and_both}
use Rattle.blocks.specs.Endian.{little_endian}
use Rattle.blocks.proofs.EndianLaws.{eight_is}

-- a number is 0 where its lowest byte is and those above it
sum_zero : (p q : ℕ) → eqb (p * 256 + q) 0 ≡ (eqb q 0 && eqb p 0)
sum_zero p q =
    same_tests (eqb (p * 256 + q) 0) (eqb q 0 && eqb p 0)
    (λ t. let z : p * 256 + q ≡ 0 = eqb→eq (p * 256 + q) 0 t in
    and_both (eqb q 0) (eqb p 0) (true_is (eqb q 0) (eq-eqb q 0 (omega arith))) (true_is (eqb p 0) (eq-eqb p 0 (omega arith))))
    (λ t. let y : q ≡ 0 = eqb→eq q 0 (and_left (eqb q 0) (eqb p 0) t) in
    let z : p ≡ 0 = eqb→eq p 0 (and_right (eqb q 0) (eqb p 0) t) in
    true_is (eqb (p * 256 + q) 0) (eq-eqb (p * 256 + q) 0 (omega arith)))

number_zero : (b : List ℕ) → eqb (little_endian b) 0 ≡ all is_zero b
unfolding little_endian
number_zero [] = refl
number_zero (x ∷ b) = sum_zero (little_endian b) x ∙ ap (λ (t : Bool). is_zero x && t) (number_zero b)

-- eight bytes are 0 as a number
abbrev pub eight_zero : List ℕ → Bool
eight_zero b = eqb (from_le_bytes w64 b) 0

glue : (a b c d : Bool) → (b && c) ≡ d → ((a && b) && c) ≡ (a && d)
glue true b c d e = e
glue false b c d e = refl

both_parts : (n : ℕ) (s : List ℕ) → all is_zero s ≡ (all is_zero (take n s) && all is_zero (drop n s))
both_parts zero [] = refl
both_parts zero (x ∷ s) = refl
both_parts (suc n) [] = refl
both_parts (suc n) (x ∷ s) = sym (glue (is_zero x) (all is_zero (take n s)) (all is_zero (drop n s)) (all is_zero s) (sym (both_parts n s)))

first_eight : (s : List ℕ) → eight_zero (take 8 s) ≡ all is_zero (take 8 s)
first_eight s = ap (λ (n : ℕ). eqb n 0) (eight_is (take 8 s)) ∙ number_zero (take 8 (take 8 s)) ∙ ap (all is_zero) (take-take 8 8 s (omega arith))

pub eights_zero : (k : ℕ) (s : List ℕ) → (all eight_zero (first_chunks 8 k s) && all is_zero (drop (k * 8) s)) ≡ all is_zero s
eights_zero zero s = refl
eights_zero (suc k) s =
    let e : drop (suc k * 8) s ≡ drop (k * 8) (drop 8 s) = rw (drop-drop (k * 8) 8 s) (ap (λ (n : ℕ). drop n s) (omega arith)) in
    rw (e, first_eight s)
    (glue (all is_zero (take 8 s)) (all eight_zero (first_chunks 8 k (drop 8 s))) (all is_zero (drop (k * 8) (drop 8 s))) (all is_zero (drop 8 s)) (eights_zero k (drop 8 s))
    ∙ sym (both_parts 8 s))

-- what is answered by the eights, which are 0 or not, and by what is behind them
module _ (k : ℕ) (s : List ℕ) {fs : List (List ℕ)} {a : Bool} (f : fs ≡ first_chunks 8 k s) (e : a ≡ all eight_zero fs) where
  eights_are : (b : Bool) → a ≡ b → (b && all is_zero (drop (k * 8) s)) ≡ all is_zero s
  eights_are b t = ap (λ (x : Bool). x && all is_zero (drop (k * 8) s)) (sym t ∙ e ∙ ap (all eight_zero) f) ∙ eights_zero k s

  pub rest_decides : {r : Bool} {rest : List ℕ} → rest ≡ drop (k * 8) s → a ≡ true → r ≡ all is_zero rest → r ≡ all is_zero s
  rest_decides b t r = r ∙ ap (all is_zero) b ∙ eights_are true t

  pub eight_decides : a ≡ false → false ≡ all is_zero s
  eight_decides t = eights_are false t
