-- What is left of the bytes decides.
use mathlib.Core.Path.{◌≡◌}
use lib.ListN.{length}
use Rattle.meaning.specs.Actions.{cas_in_range}
use Rattle.actions.proofs.cas_in_range.Given as goal

abbrev pub invariant-loop-left : goal.invariant-loop-left
invariant-loop-left l = cas_in_range l.left ≡ cas_in_range l.cas

abbrev pub decreases-loop-left : goal.decreases-loop-left
decreases-loop-left l = length l.left
