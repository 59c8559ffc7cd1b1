-- The set and the content are the body's.
use Rattle.set_changes.proofs.ChangeLaws.{stored}
use Rattle.set_changes.proofs.LineLaws.{below_room}
use Rattle.set_changes.proofs.store_given.Goals as goal

pub store_set-requires : goal.store_set-requires
store_set-requires c = let set = c.set_number in
    (c.requires.0, below_room c.args.plan.now c.args.body.now set.result set.ensures c.requires.2, c.content_given.ensures.size)

pub returns : goal.returns
returns c = stored c.args.plan.now c.args.body.now c.set_number.ensures c.content_given.ensures.is c.store_set.ensures
