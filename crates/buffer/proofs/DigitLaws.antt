-- The digits of a digit string in its place.
use Prim.Native.Nat.{ℕ, suc, ◌≤◌, ◌<◌}
use mathlib.Core.Path.{◌≡◌}
use mathlib.Core.List.{List}
use lib.ListN.{length, take, drop, get_or}
use lib.Seq.{take-take, drop-cons}
use Rattle.meaning.specs.Basics.{digits_of}

-- the digits of a string of width w that stands at a
pub digits_at_lem : (a w : ℕ) (s : List ℕ) → a < length s → get_or s a 0 ≤ w → digits_of (take (suc w) (drop a s)) ≡ take (get_or s a 0) (drop (suc a) s)
digits_at_lem a w s h k = rw (drop-cons s a 0 h) (take-take (get_or s a 0) w (drop (suc a) s) k)
