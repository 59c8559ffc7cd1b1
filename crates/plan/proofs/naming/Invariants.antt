-- What is left to count decides; i is the place of the first rule left.
use Prim.Native.Nat.{◌≤◌, ◌*◌}
use lib.ListN.{length}
use Rattle.meaning.specs.Sizes.{RULE-WIDTH}
use Rattle.plan.proofs.ReadLaws.{Counting}
use Rattle.plan.proofs.naming.Given as goal

abbrev pub invariant-loop-i : goal.invariant-loop-i
invariant-loop-i l = (l.i ≤ l.held) × (l.held ≤ 4096) × (RULE-WIDTH * l.held ≤ length l.area) × (l.n ≤ l.i) × Counting l.set.0 l.area l.held l.i l.n
