-- What was written, and what is left to be written, are all entries.
use Prim.Native.Nat.{◌+◌, ◌-◌}
use Rattle.compare.proofs.Walks.{many, Writing}
use Rattle.compare.proofs.write_differences.Given as goal

abbrev pub invariant-loop-standing : goal.invariant-loop-standing
invariant-loop-standing l = Writing l.left.memory.now l.right.memory.now l.initial.out l.i l.j l.end l.out

abbrev pub decreases-loop-standing : goal.decreases-loop-standing
decreases-loop-standing l = (many l.left.memory.now - l.i) + (many l.right.memory.now - l.j)
