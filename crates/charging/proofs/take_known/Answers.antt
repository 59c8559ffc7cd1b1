-- At most 32 digits are copied.
use native.Mathlib.Omega.{arith}
use lib.ListN.{length-take}
use Rattle.number.proofs.Answering.{holds_few, gives_copied}
use Rattle.charging.proofs.take_known.Goals as goal

pub slice_bounds-copy-end : goal.slice_bounds-copy-end
slice_bounds-copy-end c = omega (arith, holds_few c.charge_held-t.ensures.answer)

pub copy-requires : goal.copy-requires
copy-requires c = rw length-take (omega (arith, holds_few c.charge_held-t.ensures.answer, c.requires.1))

pub returns : goal.returns
returns c = record { answer = gives_copied _ _ c.args.out.now _ _ c.charge_held-t.ensures.answer c.copy.ensures; ledger = c.charge_held-t.ensures.ledger }
