-- The number first, then the filter.
use mathlib.Core.Path.{ap}
use mathlib.Core.Bool.{not}
use Rattle.meaning.proofs.Telling.{told}
use Rattle.rule_changes.proofs.out_of_range.Goals as goal

pub returns-then-is_over_room : goal.returns-then-is_over_room
returns-then-is_over_room c = rw (told c.is_over_room.ensures c.if-is_over_room.true)

pub returns : goal.returns
returns c = rw (told c.is_over_room.ensures c.if-is_over_room.false) (ap not c.filter_in_range.ensures)
