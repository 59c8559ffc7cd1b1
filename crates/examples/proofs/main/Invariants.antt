-- At most a thousand files.
use Rattle.std.proofs.Common.{◌-◌, ◌≤◌}
use Rattle.examples.proofs.main.Given as goal

abbrev pub invariant-loop-n : goal.invariant-loop-n
invariant-loop-n l = l.n ≤ 1000

abbrev pub decreases-loop-n : goal.decreases-loop-n
decreases-loop-n l = 1000 - l.n
