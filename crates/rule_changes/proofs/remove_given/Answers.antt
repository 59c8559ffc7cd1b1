-- A rule has the filter, and goes out of its place.
use Rattle.rule_changes.proofs.RuleChanges.{held_below, removed}
use Rattle.rule_changes.proofs.remove_given.Goals as goal

pub remove_rule-requires : goal.remove_rule-requires
remove_rule-requires c = (c.requires.0, held_below c.args.plan.now c.args.body.now c.requires.0 c.requires.1 _ c.place_of-place.ensures c.requires.2)

pub returns : goal.returns
returns c = removed c.args.plan.now c.args.body.now c.requires.0 c.requires.1 _ c.place_of-place.ensures c.requires.2 c.remove_rule.ensures
