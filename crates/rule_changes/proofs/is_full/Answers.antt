-- The count and the room as read are the plan's.
use Rattle.rule_changes.proofs.RuleChanges.{full_is}
use Rattle.rule_changes.proofs.is_full.Goals as goal

pub returns : goal.returns
returns c = full_is c.args.plan.memory.now _ _ c.rule_count.ensures.is c.rule_room.ensures.is
