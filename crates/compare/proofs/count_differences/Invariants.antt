-- What was counted, and what is left to be counted, are all of them.
use Prim.Native.Nat.{◌+◌, ◌-◌}
use Rattle.compare.proofs.Walks.{many, Counting}
use Rattle.compare.proofs.count_differences.Given as goal

abbrev pub invariant-loop-standing : goal.invariant-loop-standing
invariant-loop-standing l = Counting l.left.memory.now l.right.memory.now l.i l.j l.n

abbrev pub decreases-loop-standing : goal.decreases-loop-standing
decreases-loop-standing l = (many l.left.memory.now - l.i) + (many l.right.memory.now - l.j)
