-- Each answer is that of the first check that refuses.
use Rattle.meaning.specs.Calls.{opening_lines}
use Rattle.meaning.proofs.Telling.{checks}
use Rattle.set_changes.proofs.opening_refusal.Goals as goal

pub returns-then-not-opening_in_range : goal.returns-then-not-opening_in_range
unfolding opening_lines
returns-then-not-opening_in_range c = search checks

pub returns-then-lacks_room : goal.returns-then-lacks_room
unfolding opening_lines
returns-then-lacks_room c = search checks

pub returns : goal.returns
unfolding opening_lines
returns c = search checks
