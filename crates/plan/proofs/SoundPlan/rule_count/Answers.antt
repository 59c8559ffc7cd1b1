-- A sound plan has a header.
use native.Mathlib.Omega.{arith}
use Rattle.plan.proofs.ReadLaws.{numbers}
use Rattle.plan.proofs.SoundPlan.rule_count.Goals as goal

pub rule_count-requires : goal.rule_count-requires
rule_count-requires c = let header = (numbers c.args.self.memory.now c.args.self.sound).header in omega (arith, header)
