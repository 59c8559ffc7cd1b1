-- Each answer is that of the first check that refuses.
use Rattle.meaning.specs.Calls.{remove_set_lines}
use Rattle.meaning.proofs.Telling.{checks}
use Rattle.set_changes.proofs.remove_set_refusal.Goals as goal

pub returns-then-is_over_room : goal.returns-then-is_over_room
unfolding remove_set_lines
returns-then-is_over_room c = search checks

pub returns-then-not-is_held : goal.returns-then-not-is_held
unfolding remove_set_lines
returns-then-not-is_held c = search checks

pub returns-then-is_named : goal.returns-then-is_named
unfolding remove_set_lines
returns-then-is_named c = search checks

pub returns : goal.returns
unfolding remove_set_lines
returns c = search checks
