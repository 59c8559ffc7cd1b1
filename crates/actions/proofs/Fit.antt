-- Facts on counts and the fit in the shape that the code needs.
use Prim.Native.Nat.{ℕ, zero, suc, ◌≤◌}
use native.Mathlib.Omega.{arith}
use mathlib.Core.Path.{◌≡◌, refl}
use mathlib.Core.Logic.{◌≢◌}
use mathlib.Core.Bool.{Bool, true, false}
use lib.Dec.{leb, ltb, eqb}
use Rattle.std.specs.Prelude.{if◌then◌else◌}
use Rattle.meaning.specs.Actions.{LAST-COUNTED, FPFX, CA}
use Rattle.meaning.specs.Groups.{fixed_of, sum_fits}

-- a stated length: one that is not 0
pub length_is_more : (len : ℕ) (x : Bool) (f : ℕ) → len ≢ 0 → sum_fits len x f ≡ (if x then ltb f len else eqb f len)
length_is_more zero x f h = absurd (h refl)
length_is_more (suc l) x f h = refl

-- an action takes no more for certain than its count and the prefix allow
pub fixed_small : (most prefix : ℕ) (a : CA) → prefix ≤ most → a.count ≤ most → fixed_of prefix a ≤ most
fixed_small most prefix a p h = go (leb a.code LAST-COUNTED) (eqb a.code FPFX)
  where
    go : (s t : Bool) → (if s then a.count else if t then prefix else 0) ≤ most
    go true t = h
    go false true = p
    go false false = omega arith
