-- A byte below d before what is left, and one that is not behind it.
use Prim.Native.Nat.{◌-◌}
use Rattle.narrowing.proofs.ColumnLaws.{Halving}
use Rattle.narrowing.proofs.first_from.Given as goal

abbrev pub invariant-loop-left : goal.invariant-loop-left
invariant-loop-left l = Halving l.rules l.fn.places.start l.fn.places.end l.column l.d l.left.start l.left.end

abbrev pub decreases-loop-left : goal.decreases-loop-left
decreases-loop-left l = l.left.end - l.left.start
