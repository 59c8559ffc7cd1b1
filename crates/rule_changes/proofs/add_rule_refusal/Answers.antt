-- Each answer is that of the first check that refuses.
use Rattle.meaning.specs.Calls.{add_rule_lines}
use Rattle.meaning.proofs.Telling.{checks}
use Rattle.rule_changes.proofs.Given.{in_range}
use Rattle.rule_changes.proofs.add_rule_refusal.Goals as goal

pub returns-then-out_of_range : goal.returns-then-out_of_range
unfolding add_rule_lines
returns-then-out_of_range c = search checks

pub holds_filter-requires : goal.holds_filter-requires
holds_filter-requires c = search in_range

pub returns-then-holds_filter : goal.returns-then-holds_filter
unfolding add_rule_lines
returns-then-holds_filter c = search checks

pub returns-then-not-is_held : goal.returns-then-not-is_held
unfolding add_rule_lines
returns-then-not-is_held c = search checks

pub fits_held-requires : goal.fits_held-requires
fits_held-requires c = search in_range

pub returns-then-not-fits_held : goal.returns-then-not-fits_held
unfolding add_rule_lines
returns-then-not-fits_held c = search checks

pub returns-then-is_full : goal.returns-then-is_full
unfolding add_rule_lines
returns-then-is_full c = search checks

pub returns : goal.returns
unfolding add_rule_lines
returns c = search checks
