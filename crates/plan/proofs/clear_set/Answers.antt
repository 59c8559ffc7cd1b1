-- The slot of the set is lent and cleared: a slot that is not held is all 0.
use native.Mathlib.Omega.{arith}
use Rattle.plan.proofs.ReadLaws.{numbers}
use Rattle.plan.proofs.EditLaws.{slot_cleared}
use Rattle.plan.proofs.clear_set.Goals as goal

pub slice_bounds-clear-end : goal.slice_bounds-clear-end
slice_bounds-clear-end c = omega (arith, numbers c.args.memory.now c.requires.0)

pub returns : goal.returns
returns c = slot_cleared c.args.memory.now c.args.set.0 _ c.clear.new.s c.requires.0 c.requires.1 c.set_start-a.ensures c.clear.ensures
