-- The part that is lent ends with the last rule slot.
use Rattle.plan.proofs.ReadLaws.{rules_lent}
use Rattle.plan.proofs.SoundPlan.rules.Goals as goal

pub returns : goal.returns
returns c = rules_lent c.args.self.memory.now _ _ c.args.self.sound c.rules_start-a.ensures.is c.rule_room.ensures.is
