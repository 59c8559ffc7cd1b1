-- The rooms first, then the settings.
use Rattle.meaning.proofs.Telling.{told}
use Rattle.set_changes.proofs.opening_in_range.Goals as goal

pub returns-then-not-rooms_in_range : goal.returns-then-not-rooms_in_range
returns-then-not-rooms_in_range c = rw (told c.rooms_in_range.ensures c.if-not-rooms_in_range.true)

pub returns : goal.returns
returns c = rw (told c.rooms_in_range.ensures c.if-not-rooms_in_range.false) c.settings_in_range.ensures
