-- A sound plan has a header.
use native.Mathlib.Omega.{arith}
use Rattle.plan.proofs.ReadLaws.{numbers}
use Rattle.plan.proofs.SoundPlan.is_over_room.Goals as goal

pub is_over_room-requires : goal.is_over_room-requires
is_over_room-requires c = let header = (numbers c.args.self.memory.now c.args.self.sound).header in omega (arith, header)
