-- The slot is cleared, its content copied, and its first byte made 1.
use native.Mathlib.Omega.{arith}
use lib.ListN.{length-set}
use Rattle.plan.proofs.EditLaws.{set_written}
use Rattle.plan.proofs.write_set.Goals as goal

pub shape_of-slot : goal.shape_of-slot
shape_of-slot c = simp length-set (omega arith)

pub returns : goal.returns
returns c = let clear = c.clear in
    let copy = c.copy in
    set_written c.args.slot.now clear.new.s copy.new.to c.args.content.now c.requires.0 c.requires.1 clear.ensures copy.ensures
