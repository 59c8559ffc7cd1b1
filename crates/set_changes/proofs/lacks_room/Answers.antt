-- The bytes that the rooms need, as they are read from the body.
use Rattle.set_changes.proofs.LineLaws.{lacks_is}
use Rattle.set_changes.proofs.lacks_room.Goals as goal

pub returns : goal.returns
returns c = lacks_is c.args.size c.args.body.now _ _ c.word.ensures.is c.word-2.ensures.is
