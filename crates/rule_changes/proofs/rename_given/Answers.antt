-- A rule has the filter, and names another set.
use Rattle.rule_changes.proofs.RuleChanges.{held_below, renamed}
use Rattle.rule_changes.proofs.rename_given.Goals as goal

pub rename_rule-requires : goal.rename_rule-requires
rename_rule-requires c = (c.requires.0, held_below c.args.plan.now c.args.body.now c.requires.0 c.requires.1 _ c.place_of-place.ensures c.requires.3)

pub returns : goal.returns
returns c = renamed c.args.plan.now c.args.body.now c.requires.0 c.requires.1 _ c.place_of-place.ensures c.requires.3
    c.set_number.ensures c.rename_rule.ensures
