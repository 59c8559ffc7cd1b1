-- RANGE, or the line of the answer.
use mathlib.Core.Path.{sym, ◌∙◌}
use native.Mathlib.Omega.{arith}
use Rattle.billing.proofs.ChargeLines.{outside_line}
use Rattle.record.proofs.NumberLines.{at_fits, at_few, at_long, at_size, at_body, at_outside, at_priced}
use Rattle.record.proofs.number_line.Goals as goal

pub overflow_add-end : goal.overflow_add-end
overflow_add-end c = record { fits = omega (arith, at_few c.requires.2) }

pub slice_bounds-number-end : goal.slice_bounds-number-end
slice_bounds-number-end c = at_fits c.requires.2

pub number_in_range-requires : goal.number_in_range-requires
number_in_range-requires c = at_long c.args.at c.args.input.now c.requires.2

pub returns-then-not-number_in_range : goal.returns-then-not-number_in_range
returns-then-not-number_in_range c = rw c.refused_line.ensures.1
    (outside_line _ _ _ _ _ (at_size c.requires.2) (c.requires.0.plan_in.state ∙ c.requires.1) (at_outside c.requires.2 (sym c.number_in_range.ensures ∙ c.if-not-number_in_range.true)) (rw c.from.ensures at c.refused_line.ensures.0))

pub slice_bounds-answered_line-end : goal.slice_bounds-answered_line-end
slice_bounds-answered_line-end c = at_fits c.requires.2

pub answered_line-requires : goal.answered_line-requires
answered_line-requires c = let range = sym c.number_in_range.ensures ∙ c.if-not-number_in_range.false in (
  record { whole = at_long c.args.at c.args.input.now c.requires.2; range = range },
  rw (at_body c.requires.2) (at_priced c.requires.2 c.requires.0.prices_in c.requires.0.ledger_in range),
  c.requires.3,
)

pub returns : goal.returns
returns c = rw (at_body c.requires.2) at c.answered_line.ensures
