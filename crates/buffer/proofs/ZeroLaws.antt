-- Runs of unused bytes: their length, their elements, and that a list passes the test for them exactly if it is one.
use Prim.Native.Nat.{ℕ, zero, suc, ◌+◌}
use mathlib.Core.Path.{◌≡◌, refl, ap, ◌∙◌}
use mathlib.Core.List.{List, [], ◌∷◌, ◌++◌}
use lib.ListN.{length, take, drop, length-replicate, replicate-append-replicate}
use lib.Dec.{T, eqb→eq}
use lib.Seq.{take_at, drop_at}
use Rattle.meaning.specs.Basics.{all, is_zero}
use Rattle.meaning.proofs.Tests.{and_left, and_right}
use Rattle.buffer.specs.Zeros.{zeros}

pub length_zeros : (n : ℕ) → length (zeros n) ≡ n
unfolding zeros
length_zeros n = length-replicate n 0

pub zeros_add : (n m : ℕ) → zeros n ++ zeros m ≡ zeros (n + m)
unfolding zeros
zeros_add n m = replicate-append-replicate n m 0

pub take_zeros : (n m : ℕ) → take n (zeros (n + m)) ≡ zeros n
take_zeros n m = rw (← zeros_add n m) (take_at (zeros n) (zeros m) n (length_zeros n))

pub drop_zeros : (n m : ℕ) → drop n (zeros (n + m)) ≡ zeros m
drop_zeros n m = rw (← zeros_add n m) (drop_at (zeros n) (zeros m) n (length_zeros n))

pub zeros_pass : (n : ℕ) → T (all is_zero (zeros n))
unfolding zeros
zeros_pass zero = tt
zeros_pass (suc n) = zeros_pass n

pub all_zeros : (xs : List ℕ) → T (all is_zero xs) → xs ≡ zeros (length xs)
unfolding zeros
all_zeros [] t = refl
all_zeros (x ∷ xs) t =
    ap (λ (y : ℕ). y ∷ xs) (eqb→eq x 0 (and_left (is_zero x) (all is_zero xs) t))
    ∙ ap (λ (ys : List ℕ). 0 ∷ ys) (all_zeros xs (and_right (is_zero x) (all is_zero xs) t))
