-- What is left of the list decides, with the digits that are left.
use mathlib.Core.Path.{◌≡◌}
use Rattle.meaning.specs.Actions.{cas_of}
use Rattle.meaning.specs.Conditioning.{short}
use Rattle.actions.specs.Reading.{actions_left}
use Rattle.conditioning.proofs.is_short.Given as goal

abbrev pub invariant-loop-a : goal.invariant-loop-a
invariant-loop-a l = short l.prefix l.left (actions_left l.a-iterator) ≡ short l.prefix l.n (cas_of l.cas)
