-- A sound plan has a header.
use native.Mathlib.Omega.{arith}
use Rattle.plan.proofs.ReadLaws.{numbers}
use Rattle.plan.proofs.SoundPlan.rule_room.Goals as goal

pub rule_room-requires : goal.rule_room-requires
rule_room-requires c = let header = (numbers c.args.self.memory.now c.args.self.sound).header in omega (arith, header)
