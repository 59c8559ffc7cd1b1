-- Each answer is that of the first check that refuses.
use Rattle.meaning.specs.Calls.{replace_set_lines}
use Rattle.meaning.proofs.Telling.{checks}
use Rattle.set_changes.proofs.replace_set_refusal.Goals as goal

pub returns-then-out_of_range : goal.returns-then-out_of_range
unfolding replace_set_lines
returns-then-out_of_range c = search checks

pub returns-then-not-keeps_groups : goal.returns-then-not-keeps_groups
unfolding replace_set_lines
returns-then-not-keeps_groups c = search checks

pub returns-then-not-is_held : goal.returns-then-not-is_held
unfolding replace_set_lines
returns-then-not-is_held c = search checks

pub returns-then-not-fits_rules : goal.returns-then-not-fits_rules
unfolding replace_set_lines
returns-then-not-fits_rules c = search checks

pub returns : goal.returns
unfolding replace_set_lines
returns c = search checks
