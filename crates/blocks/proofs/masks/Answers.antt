-- The table is the definition's.
use borrow.Author.Rules.{rules}
use Rattle.blocks.specs.Places.{masks, mask_table}
use Rattle.blocks.proofs.masks.Goals as goal

pub returns : goal.returns
unfolding masks mask_table
returns c = search rules
