-- Each answer is that of the first check that refuses.
use Rattle.meaning.specs.Calls.{change_rule_lines}
use Rattle.meaning.proofs.Telling.{checks}
use Rattle.rule_changes.proofs.Given.{in_range}
use Rattle.rule_changes.proofs.change_rule_refusal.Goals as goal

pub returns-then-out_of_range : goal.returns-then-out_of_range
unfolding change_rule_lines
returns-then-out_of_range c = search checks

pub both_there-requires : goal.both_there-requires
both_there-requires c = search in_range

pub returns-then-not-both_there : goal.returns-then-not-both_there
unfolding change_rule_lines
returns-then-not-both_there c = search checks

pub fits_held-requires : goal.fits_held-requires
fits_held-requires c = search in_range

pub returns-then-not-fits_held : goal.returns-then-not-fits_held
unfolding change_rule_lines
returns-then-not-fits_held c = search checks

pub returns : goal.returns
unfolding change_rule_lines
returns c = search checks
