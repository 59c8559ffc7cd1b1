-- The fields before the number, then the number.
use mathlib.Core.Path.{sym, ◌∙◌}
use Rattle.charging.proofs.Ranges.{head_out, number_decides, number_long}
use Rattle.charging.proofs.call_in_range.Goals as goal

pub returns-then-not-head_in_range : goal.returns-then-not-head_in_range
returns-then-not-head_in_range c = sym (head_out _ (sym c.head_in_range.ensures ∙ c.if-not-head_in_range.true))

pub number_in_range-requires : goal.number_in_range-requires
number_in_range-requires c = number_long c.args.body.now c.requires

pub returns : goal.returns
returns c = c.number_in_range.ensures ∙ sym (number_decides _ (sym c.head_in_range.ensures ∙ c.if-not-head_in_range.false))
