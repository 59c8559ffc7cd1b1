-- The number's own refusal, that of the charge, or the line of the answer with the digits that it holds.
use mathlib.Core.Path.{refl, sym}
use lib.Seq.{length-take-le}
use native.Mathlib.Omega.{arith}
use Rattle.meaning.proofs.Telling.{refusal_number}
use Rattle.charging.proofs.Charging.{holds_inside}
use Rattle.billing.proofs.ChargeLines.{of_record, answered_in, own_line, refused_charge, answered_written}
use Rattle.billing.proofs.answered_line.Goals as goal

pub answer_held-answer-requires : goal.answer_held-answer-requires
answer_held-answer-requires c = record { known = c.requires.0; room = omega arith }

pub returns-then-answer-ne-ACCEPTED : goal.returns-then-answer-ne-ACCEPTED
returns-then-answer-ne-ACCEPTED c = rw c.refused_line.ensures.1
    (own_line c.args.plan.memory.now c.args.plan.sound c.requires.0 c.answer_held-answer.ensures _ _ _ _ (of_record c.requires.1) c.if-answer-ne-ACCEPTED.true c.refused_line.ensures.0)

pub slice_bounds-outgoing-end : goal.slice_bounds-outgoing-end
slice_bounds-outgoing-end c = sym (length-take-le _ _ (holds_inside c.answer_held-answer.ensures))

pub charge-requires : goal.charge-requires
charge-requires c = λ e. c.requires.1.charged_with e

pub returns-in-Err : goal.returns-in-Err
returns-in-Err c = rw c.refused_line-in-Err.ensures.1 (refused_charge c.args.plan.memory.now c.args.plan.sound c.requires.0 c.answer_held-answer.ensures _ _ _ c.if-answer-ne-ACCEPTED.false _ (of_record c.requires.1) c.in-Err.ensures
    (refusal_number c.in-Err.refusal) (rw c.from.ensures at c.refused_line-in-Err.ensures.0))

pub number_line-written-requires : goal.number_line-written-requires
number_line-written-requires c = (answered_in c.args.plan.memory.now c.args.plan.sound c.requires.0 c.answer_held-answer.ensures, c.requires.2)

pub returns-in-Ok : goal.returns-in-Ok
returns-in-Ok c = answered_written c.args.plan.memory.now c.args.plan.sound c.requires.0 c.answer_held-answer.ensures _ _ _ c.if-answer-ne-ACCEPTED.false _ (of_record c.requires.1) c.in-Ok.ensures refl c.number_line-written.ensures
