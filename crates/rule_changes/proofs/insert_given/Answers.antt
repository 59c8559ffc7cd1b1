-- No rule has the filter, so it goes in at its place.
use Rattle.rule_changes.proofs.RuleChanges.{room_left, absent_within, inserted}
use Rattle.rule_changes.proofs.insert_given.Goals as goal

pub insert_rule-requires : goal.insert_rule-requires
insert_rule-requires c = let m = c.args.plan.now in (
  c.requires.0,
  absent_within m c.args.body.now c.requires.0 c.requires.1 _ c.place_of-place.ensures c.requires.3,
  room_left m c.requires.0 c.requires.4,
  c.code_given.ensures.size,
)

pub returns : goal.returns
returns c = inserted c.args.plan.now c.args.body.now c.requires.0 c.requires.1 _ c.place_of-place.ensures c.requires.3
    c.set_number.ensures c.code_given.ensures.is c.insert_rule.ensures
