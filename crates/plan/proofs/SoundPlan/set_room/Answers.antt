-- A sound plan has a header.
use native.Mathlib.Omega.{arith}
use Rattle.plan.proofs.ReadLaws.{numbers}
use Rattle.plan.proofs.SoundPlan.set_room.Goals as goal

pub set_room-requires : goal.set_room-requires
set_room-requires c = let header = (numbers c.args.self.memory.now c.args.self.sound).header in omega (arith, header)
