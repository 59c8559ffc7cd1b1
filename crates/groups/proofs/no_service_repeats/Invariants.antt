-- What is left of the list decides: each action and the list behind it.
use mathlib.Core.Path.{◌≡◌}
use lib.ListN.{length}
use Rattle.meaning.specs.Actions.{codes_of}
use Rattle.meaning.specs.Groups.{no_service_repeats}
use Rattle.actions.specs.Reading.{codes_left}
use Rattle.groups.proofs.no_service_repeats.Given as goal

abbrev pub invariant-loop-c : goal.invariant-loop-c
invariant-loop-c l = no_service_repeats (codes_left l.later) ≡ no_service_repeats (codes_of l.sas)

abbrev pub decreases-loop-c : goal.decreases-loop-c
decreases-loop-c l = length (codes_left l.later)
