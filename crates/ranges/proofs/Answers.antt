-- The library's test of a range of numbers.
use Prim.Native.Nat.{ℕ}
use mathlib.Core.Path.{◌≡◌}
use mathlib.Core.Bool.{false}
use lib.Dec.{leb}
use native.Mathlib.Omega.{arith}
use Rattle.std.proofs.lemmas.Bool.Decides.{nat_tests}
use Rattle.std.specs.Prelude.{Some}
use Rattle.std.specs.Ordering.{nat_cmp, is_le}
use Rattle.std.specs.Range.{range_inclusive_start, range_inclusive_end, range_inclusive_exhausted, range_inclusive_contains}
use Rattle.meaning.specs.Basics.{within}

le_is : (x y : ℕ) → is_le (nat_cmp x y) ≡ leb x y
le_is x y = grind (arith, nat_tests)

pub contains_is : (r : _) (lo hi x : ℕ) → range_inclusive_start r ≡ lo → range_inclusive_end r ≡ hi → range_inclusive_exhausted r ≡ false
    → range_inclusive_contains (λ x y. Some (nat_cmp x y)) r x ≡ within lo hi x
contains_is r lo hi x a b e = rw (e, a, b, le_is lo x, le_is x hi)
