-- Tables: an arm of a `match`, and what stands behind a table's end; and the tests that `search` knows.
use Prim.Native.Nat.{ℕ, suc, ◌≤◌}
use native.Mathlib.Omega.{arith}
use mathlib.Core.Path.{◌≡◌, sym}
use mathlib.Core.Bool.{◌||◌, not}
use lib.Dec.{T, ltb, eqb, eqb→eq}
use borrow.Author.Rules.{rules}
use borrow.Author.Tests.{eq-eqb, ne_eqb, le-leb, lt-leb, le-ltb, lt-ltb}
use Rattle.meaning.proofs.Tests.{all_below, at_below, or_other, false_is}

-- two functions that agree from lo to hi, as one computed test shows
pub arm : (f g : ℕ → ℕ) (lo hi : ℕ) → T (all_below (λ c. ltb c lo || eqb (f c) (g c)) (suc hi)) → (c : ℕ) → lo ≤ c → c ≤ hi → g c ≡ f c
arm f g lo hi t c l h =
    let past : T (not (ltb c lo)) = false_is (ltb c lo) (le-ltb c lo l) in
    sym (eqb→eq (f c) (g c) (or_other (ltb c lo) (eqb (f c) (g c)) (at_below (λ k. ltb k lo || eqb (f k) (g k)) (suc hi) t c (omega arith)) past))

-- what the tests on the way say of a definition's own tests
pub ruleset tests = (rules, eq-eqb, ne_eqb, le-leb, lt-leb, le-ltb, lt-ltb)
