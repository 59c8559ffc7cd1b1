-- The length of a prefix stands before it.
use Rattle.plan.proofs.PlacedRules.{slot_prefix}
use Rattle.plan.proofs.HeldRule.prefix.Goals as goal

pub returns : goal.returns
returns c = slot_prefix _ _ _ c.slot.ensures.slot c.from.ensures
