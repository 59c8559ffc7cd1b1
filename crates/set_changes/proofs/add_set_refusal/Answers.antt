-- Each answer is that of the first check that refuses.
use Rattle.meaning.specs.Calls.{add_set_lines}
use Rattle.meaning.proofs.Telling.{checks}
use Rattle.set_changes.proofs.add_set_refusal.Goals as goal

pub returns-then-out_of_range : goal.returns-then-out_of_range
unfolding add_set_lines
returns-then-out_of_range c = search checks

pub returns-then-not-keeps_groups : goal.returns-then-not-keeps_groups
unfolding add_set_lines
returns-then-not-keeps_groups c = search checks

pub returns-then-is_held : goal.returns-then-is_held
unfolding add_set_lines
returns-then-is_held c = search checks

pub returns : goal.returns
unfolding add_set_lines
returns c = search checks
