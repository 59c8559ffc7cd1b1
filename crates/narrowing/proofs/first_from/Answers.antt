-- A byte below d before what is left, and one that is not behind it.
use native.Mathlib.Omega.{arith}
use Rattle.narrowing.proofs.ColumnLaws.{halving_low, halving_high, halving_done}
use Rattle.narrowing.proofs.first_from.Goals as goal

pub loop-left-preserved-then-from-d : goal.loop-left-preserved-then-from-d
loop-left-preserved-then-from-d c = halving_low _ _ _ _ _ _ _ _ _ c.loop-left.invariant (omega arith) (omega arith) c.from.ensures c.if-from-d.true

pub loop-left-preserved : goal.loop-left-preserved
loop-left-preserved c = halving_high _ _ _ _ _ _ _ _ _ c.loop-left.invariant (omega arith) (omega arith) c.from.ensures c.if-from-d.false

pub returns : goal.returns
returns c = halving_done _ _ _ _ _ _ _ c.loop-left.invariant c.loop-left-test.false
