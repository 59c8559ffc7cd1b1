use Rattle.std.proofs.Common.{◌∙◌}
use Rattle.blocks.proofs.EndianLaws.{eight_is}
use Rattle.blocks.proofs.eight.Goals as goal

pub returns : goal.returns
returns c = c.from_le_bytes.ensures ∙ eight_is c.args.s.now
