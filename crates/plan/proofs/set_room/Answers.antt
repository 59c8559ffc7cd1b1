-- The rooms' bytes stand in the header.
use mathlib.Core.Path.{◌∙◌}
use Rattle.plan.proofs.ReadLaws.{set_room_read}
use Rattle.plan.proofs.set_room.Goals as goal

pub returns : goal.returns
returns c = record { is = c.word.ensures.is ∙ set_room_read c.args.memory.now; small = c.word.ensures.small }
