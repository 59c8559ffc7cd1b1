-- The steps that were taken extend every run of those that are left (`Going`).
use Prim.Native.Nat.{◌-◌}
use lib.ListN.{length}
use Rattle.record.specs.Promises.{lent}
use Rattle.pump.proofs.Pumping.{Going}
use Rattle.pump.proofs.pump.Given as goal

abbrev pub invariant-loop-end : goal.invariant-loop-end
invariant-loop-end l = Going (lent l.initial.plan l.initial.prices l.initial.districts l.initial.now.whole) l.initial.now l.ended l.input l.initial.output (lent l.plan l.prices l.districts l.now.whole) l.now l.at l.end l.output

abbrev pub decreases-loop-end : goal.decreases-loop-end
decreases-loop-end l = length l.initial.output - l.end
