-- What is left of the list decides, from the place reached on. The digits that are left are enough for what is left of the list.
use Prim.Native.Nat.{◌+◌}
use mathlib.Core.Path.{◌≡◌}
use mathlib.Core.Bool.{false}
use Rattle.meaning.specs.Actions.{cas_of}
use Rattle.meaning.specs.Conditioning.{short, stretch_from}
use Rattle.actions.specs.Reading.{actions_left}
use Rattle.conditioning.proofs.span_of.Given as goal

abbrev pub invariant-loop-a : goal.invariant-loop-a
invariant-loop-a l = (l.at + l.left ≡ l.n) × (short l.prefix l.left (actions_left l.a-iterator) ≡ false)
    × (stretch_from l.v l.prefix l.at l.left (actions_left l.a-iterator) ≡ stretch_from l.v l.prefix 0 l.n (cas_of l.cas))
