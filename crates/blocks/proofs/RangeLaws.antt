-- A digit string's test, by its length byte n and the places behind it.
use Prim.Native.Nat.{ℕ, ◌≤◌}
use mathlib.Core.Path.{◌≡◌}
use mathlib.Core.List.{List, ◌∷◌}
use borrow.Author.Tests.{le-leb}
use Rattle.meaning.specs.Basics.{digits_in_range}
use Rattle.blocks.specs.Places.{places_pass}
use Rattle.blocks.proofs.PlaceLaws.{pass_is}

pub range_is : (lo hi n : ℕ) (places : List ℕ) → lo ≤ n → n ≤ hi → digits_in_range lo hi (n ∷ places) ≡ places_pass n places
range_is lo hi n places low high = rw (le-leb lo n low, le-leb n hi high, pass_is n places)
