-- What is left of the rules decides; i is the place of the first of them.
use Prim.Native.Nat.{◌≤◌, ◌*◌}
use lib.ListN.{length}
use Rattle.meaning.specs.Sizes.{RULE-WIDTH}
use Rattle.set_changes.proofs.FittingLaws.{Fitting}
use Rattle.set_changes.proofs.all_fit.Given as goal

abbrev pub invariant-loop-i : goal.invariant-loop-i
invariant-loop-i l = (l.i ≤ l.count) × (l.count ≤ 4096) × (RULE-WIDTH * l.count ≤ length l.rules) × Fitting l.set.0 l.content l.rules l.count l.i
