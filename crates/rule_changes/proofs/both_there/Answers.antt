-- The filter first, then the set.
use Rattle.meaning.proofs.Telling.{told}
use Rattle.rule_changes.proofs.both_there.Goals as goal

pub returns-then-not-holds_filter : goal.returns-then-not-holds_filter
returns-then-not-holds_filter c = rw (told c.holds_filter.ensures c.if-not-holds_filter.true)

pub returns : goal.returns
returns c = rw (told c.holds_filter.ensures c.if-not-holds_filter.false) c.is_held.ensures
