-- Each answer is that of the first check that refuses.
use Rattle.meaning.specs.Calls.{remove_rule_lines}
use Rattle.meaning.proofs.Telling.{checks, told}
use native.Mathlib.Omega.{arith}
use Rattle.rule_changes.proofs.remove_rule_refusal.Goals as goal

pub returns-then-not-filter_in_range : goal.returns-then-not-filter_in_range
unfolding remove_rule_lines
returns-then-not-filter_in_range c = search checks

pub holds_filter-requires : goal.holds_filter-requires
holds_filter-requires c = record { whole = omega (arith, c.requires); range = told c.filter_in_range.ensures c.if-not-filter_in_range.false }

pub returns-then-not-holds_filter : goal.returns-then-not-holds_filter
unfolding remove_rule_lines
returns-then-not-holds_filter c = search checks

pub returns : goal.returns
unfolding remove_rule_lines
returns c = search checks
