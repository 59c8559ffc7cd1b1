-- The set is the body's.
use Rattle.set_changes.proofs.ChangeLaws.{cleared}
use Rattle.set_changes.proofs.LineLaws.{below_room}
use Rattle.set_changes.proofs.clear_given.Goals as goal

pub clear_set-requires : goal.clear_set-requires
clear_set-requires c = (c.requires.0, below_room c.args.plan.now c.args.body.now c.set_number.result c.set_number.ensures c.requires.2)

pub returns : goal.returns
returns c = cleared c.args.plan.now c.args.body.now c.set_number.ensures c.clear_set.ensures
