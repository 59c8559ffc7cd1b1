-- What is left of the rules decides; i is the place of the second of them.
use Rattle.examiner.proofs.Rises.{Risen}
use Rattle.examiner.proofs.rules_rise.Given as goal

abbrev pub invariant-loop-i : goal.invariant-loop-i
invariant-loop-i l = Risen l.rules l.i
