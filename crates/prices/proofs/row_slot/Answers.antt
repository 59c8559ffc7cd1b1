-- The prefix and the price are copied to their places in an empty slot.
use mathlib.Core.Path.{refl}
use native.Mathlib.Omega.{arith}
use lib.ListN.{replicate}
use Rattle.meaning.specs.Sizes.{RULE-WIDTH}
use Rattle.buffer.specs.Zeros.{zeros}
use Rattle.prices.proofs.RowEdits.{row_written}
use Rattle.prices.proofs.row_slot.Goals as goal

pub returns : goal.returns
unfolding zeros
returns c =
    row_written (replicate RULE-WIDTH 0) c.copy_from_slice.new.self c.copy_from_slice-2.new.self c.args.body.now c.requires.0 refl c.copy_from_slice.ensures.after c.copy_from_slice-2.ensures.after
    c.requires.1 (λ i. omega (arith, c.type_inv.body i))
