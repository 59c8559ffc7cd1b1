-- The rooms' bytes stand in the header.
use mathlib.Core.Path.{◌∙◌}
use Rattle.plan.proofs.ReadLaws.{rule_room_read}
use Rattle.plan.proofs.rule_room.Goals as goal

pub returns : goal.returns
returns c = record { is = c.word.ensures.is ∙ rule_room_read c.args.memory.now; small = c.word.ensures.small }
