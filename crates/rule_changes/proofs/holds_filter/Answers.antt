-- By the answer of the lookup.
use mathlib.Core.Path.{◌∙◌}
use Rattle.rule_changes.proofs.Given.{filter_held}
use Rattle.rule_changes.proofs.holds_filter.Goals as goal

pub returns : goal.returns
returns c = c.is_ok.ensures.value ∙ filter_held c.args.plan.memory.now c.args.body.now c.args.plan.sound c.requires _ c.find_given.ensures
