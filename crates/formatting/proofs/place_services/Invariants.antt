-- At f the values of the codes below are there (`Serving`).
use Rattle.formatting.specs.Tables.{value_at}
use Rattle.formatting.proofs.Tables.{Serving}
use Rattle.formatting.proofs.place_services.Given as goal

abbrev pub invariant-loop-f : goal.invariant-loop-f
invariant-loop-f l = Serving (value_at l.source l.initial.marks) l.served l.source l.marks l.f
