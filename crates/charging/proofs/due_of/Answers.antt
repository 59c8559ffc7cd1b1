-- By the outcome.
use mathlib.Core.Path.{sym, ◌∙◌}
use native.Mathlib.Omega.{arith}
use Rattle.meaning.specs.Charges.{call_record_of}
use Rattle.charging.proofs.Ranges.{in_range, number_long}
use Rattle.charging.proofs.Dues.{due_responded, due_formatted, due_incoming}
use Rattle.charging.proofs.due_of.Goals as goal

pub returns-then-outcome-from : goal.returns-then-outcome-from
returns-then-outcome-from c = due_responded _ _ _ _ _ (c.if-outcome-from.true ∙ c.from.ensures)

pub quad-seconds-requires : goal.quad-seconds-requires
quad-seconds-requires c = omega (arith, c.requires.0)

pub due_on-requires : goal.due_on-requires
due_on-requires c = omega (arith, c.quad-seconds.ensures.is, (in_range c.args.body.now c.requires.1).seconds)

pub returns-then-outcome-from-2 : goal.returns-then-outcome-from-2
unfolding call_record_of
returns-then-outcome-from-2 c = due_formatted _ _ _ _ _ (c.if-outcome-from-2.true ∙ c.from-2.ensures) (rw (← c.quad-seconds.ensures.is) c.due_on.ensures)

pub digits_in-requires : goal.digits_in-requires
digits_in-requires c = (number_long c.args.body.now c.requires.0, (in_range c.args.body.now c.requires.1).number)

pub due_on-requires-2 : goal.due_on-requires-2
due_on-requires-2 c = omega (arith, c.quad-seconds.ensures.is, (in_range c.args.body.now c.requires.1).seconds)

pub returns : goal.returns
unfolding call_record_of
returns c = due_incoming _ _ _ _ _ (λ e. c.if-outcome-from.false (e ∙ sym c.from.ensures)) (λ e. c.if-outcome-from-2.false (e ∙ sym c.from-2.ensures))
    (rw (← c.quad-seconds.ensures.is, ← c.digits_in.ensures.is) c.due_on-2.ensures)
