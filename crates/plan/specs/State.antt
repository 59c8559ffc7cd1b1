-- Which memories are sound, and the plan that one holds: "sound" as document 01 and docs/LAYOUT.md say.
use Rattle.std.specs.Prelude.{ℕ, Bool, List, [], ◌∷◌, length, take, drop, leb}
use Rattle.std.proofs.Math.Option.{Option, none, some}
use Rattle.meaning.specs.Sizes.{SETS-AT}
use Rattle.meaning.specs.Basics.{all_of, same_bytes}
use Rattle.std.specs.Prelude.{if◌then◌else◌}
use Rattle.meaning.specs.Plan.{Plan, sound}
use Rattle.plan.specs.Layout.{image, size_of, plan_of}

-- it has all that stands before the sets and the size that its rooms need, the plan that it holds is sound, and its bytes are that plan's image
abbrev pub sound_tests : List ℕ → List Bool
sound_tests m = leb SETS-AT (length m) ∷ leb (size_of m) (length m) ∷ sound (plan_of m) ∷ same_bytes (take (size_of m) m) (image (plan_of m)) ∷ []

unfoldable pub sound_of : List ℕ → Bool
sound_of m = all_of (sound_tests m)

-- the plan of a memory; none where it is not sound
unfoldable pub state_of : List ℕ → Option Plan
state_of m = if sound_of m then some (plan_of m) else none

-- the bytes behind the plan, which nobody looks at or changes
abbrev pub rest_of : List ℕ → List ℕ
rest_of m = drop (size_of m) m
