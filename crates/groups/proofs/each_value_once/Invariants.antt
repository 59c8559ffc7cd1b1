-- What is left of the list decides: each action and the list behind it.
use mathlib.Core.Path.{◌≡◌}
use lib.ListN.{length}
use Rattle.meaning.specs.Actions.{cas_of}
use Rattle.meaning.specs.Groups.{each_value_once}
use Rattle.actions.specs.Reading.{actions_left}
use Rattle.groups.proofs.each_value_once.Given as goal

abbrev pub invariant-loop-a : goal.invariant-loop-a
invariant-loop-a l = each_value_once (actions_left l.later) ≡ each_value_once (cas_of l.cas)

abbrev pub decreases-loop-a : goal.decreases-loop-a
decreases-loop-a l = length (actions_left l.later)
