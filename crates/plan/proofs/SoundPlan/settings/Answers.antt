-- A sound plan has a header.
use native.Mathlib.Omega.{arith}
use Rattle.plan.proofs.ReadLaws.{numbers}
use Rattle.plan.proofs.SoundPlan.settings.Goals as goal

pub settings-requires : goal.settings-requires
settings-requires c = let header = (numbers c.args.self.memory.now c.args.self.sound).header in omega (arith, header)
