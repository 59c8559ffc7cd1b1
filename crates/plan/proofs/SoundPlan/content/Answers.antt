-- A set that is held has a number under the room, so its slot stands in the memory.
use native.Mathlib.Omega.{arith}
use Rattle.plan.proofs.ReadLaws.{numbers, held_below, content_lent}
use Rattle.plan.proofs.SoundPlan.content.Goals as goal

pub slice_bounds-result-end : goal.slice_bounds-result-end
slice_bounds-result-end c = omega (arith, numbers c.args.self.memory.now c.args.self.sound, held_below c.args.self.memory.now c.args.set.0 c.requires)

pub returns : goal.returns
returns c = content_lent c.args.self.memory.now c.args.set.0 _ c.set_start-slot.ensures c.args.self.sound c.requires
