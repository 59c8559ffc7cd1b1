-- The length byte is past the width, or within it.
use Rattle.formatting.proofs.Places.{string_full, string_some}
use Rattle.formatting.proofs.string_at.Goals as goal

pub returns-then-width-n : goal.returns-then-width-n
returns-then-width-n c = string_full c.args.source.now c.args.at c.args.width _ c.requires.0 c.requires.1 c.requires.2 c.from-n.ensures c.if-width-n.true

pub returns : goal.returns
returns c = string_some c.args.source.now c.args.at c.args.width _ c.requires.0 c.requires.1 c.requires.2 c.from-n.ensures c.if-width-n.false
