-- The rule's fields, read from its slot.
use Rattle.listing.proofs.Listed.{rule_read}
use Rattle.listing.proofs.held_at.Goals as goal

pub returns : goal.returns
returns c = rule_read c.args.rule.plan.memory.now c.slot-slot.result.now c.copy.new.to c.args.rule.place.0 _ _ c.slot-slot.ensures.slot c.from-end.ensures c.copy.ensures c.set.ensures
