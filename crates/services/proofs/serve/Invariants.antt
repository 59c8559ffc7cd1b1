-- The codes that are left, from the stage reached, decide (`Going`).
use Rattle.actions.specs.Reading.{codes_left}
use Rattle.services.specs.Stages.{served_with}
use Rattle.services.proofs.Going.{Going}
use Rattle.services.proofs.serve.Given as goal

abbrev pub invariant-loop-code : goal.invariant-loop-code
invariant-loop-code l = Going l.initial.actions l.sas l.settings l.lookup (codes_left l.code-iterator) (served_with l.actions l.count l.effect)
