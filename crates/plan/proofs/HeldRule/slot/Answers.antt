-- The slot at a place of the rule area.
use Rattle.plan.proofs.PlacedRules.{slot_is, slot_code}
use Rattle.plan.proofs.HeldRule.slot.Goals as goal

pub returns : goal.returns
returns c = record {
  slot = slot_is c.args.self.plan.memory.now c.args.self.place.0 c.args.self.held _ c.rules-area.ensures;
  code = slot_code c.args.self.plan.memory.now c.args.self.place.0 c.args.self.held _ c.rules-area.ensures;
}
