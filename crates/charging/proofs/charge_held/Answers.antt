-- The number's own refusal, that of the charge, or the answer.
use mathlib.Core.Path.{refl}
use Rattle.meaning.proofs.Telling.{refusal_number}
use Rattle.meaning.specs.Charges.{call_record_of}
use Rattle.charging.proofs.Ranges.{in_range, number_long}
use Rattle.charging.proofs.Charging.{holds_inside, holds_own, holds_refusal, holds_answer}
use Rattle.charging.proofs.charge_held.Goals as goal

pub answer_held-answer-requires : goal.answer_held-answer-requires
answer_held-answer-requires c = record {
  known = record { whole = number_long c.args.body.now c.requires.0.whole; range = (in_range c.args.body.now c.requires.0.range).number };
  room = c.requires.1;
}

pub returns-then-answer-ne-ACCEPTED : goal.returns-then-answer-ne-ACCEPTED
unfolding call_record_of
returns-then-answer-ne-ACCEPTED c = holds_own c.args.plan.memory.now c.args.prices.memory.now c.requires.0 c.answer_held-answer.ensures c.if-answer-ne-ACCEPTED.true

pub slice_bounds-outgoing-end : goal.slice_bounds-outgoing-end
slice_bounds-outgoing-end c = holds_inside c.answer_held-answer.ensures

pub charge-requires : goal.charge-requires
charge-requires c = λ e. record { prices_in = c.args.prices.in_range; chargeable = c.requires.0 }

pub returns-in-Err : goal.returns-in-Err
unfolding call_record_of
returns-in-Err c = rw c.refused.ensures (holds_refusal c.args.plan.memory.now c.args.prices.memory.now c.requires.0 c.answer_held-answer.ensures c.if-answer-ne-ACCEPTED.false
    (c.in-Err.ensures.charges refl) (refusal_number c.in-Err.refusal) refl)

pub returns-in-Ok : goal.returns-in-Ok
unfolding call_record_of
returns-in-Ok c = holds_answer c.args.plan.memory.now c.args.prices.memory.now c.requires.0 c.answer_held-answer.ensures c.if-answer-ne-ACCEPTED.false
    (c.in-Ok.ensures.charges refl) refl
