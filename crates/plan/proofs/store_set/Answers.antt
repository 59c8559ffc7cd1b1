-- The slot of the set is lent and written.
use native.Mathlib.Omega.{arith}
use mathlib.Core.Option.{some}
use Rattle.plan.proofs.ReadLaws.{numbers}
use Rattle.plan.proofs.EditLaws.{slot_stored}
use Rattle.plan.proofs.store_set.Goals as goal

pub slice_bounds-write_set-end : goal.slice_bounds-write_set-end
slice_bounds-write_set-end c = omega (arith, numbers c.args.memory.now c.requires.0)

pub returns : goal.returns
returns c = slot_stored c.args.memory.now c.args.set.0 _ (some c.args.content.now) c.write_set.new.slot c.requires.0 c.requires.1 c.set_start-a.ensures c.write_set.ensures
