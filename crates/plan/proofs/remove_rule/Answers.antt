-- The slot is taken out of the rule area, and the count lowered.
use mathlib.Core.Path.{◌∙◌}
use native.Mathlib.Omega.{arith}
use Rattle.plan.proofs.EditLaws.{rule_removed}
use Rattle.plan.proofs.remove_rule.Goals as goal

pub returns : goal.returns
returns c = c.put_word.ensures
    ∙ rule_removed c.args.memory.now _ c.requires.0 c.rules_start-a.ensures.is _ c.args.place.0 c.rule_count-n.ensures.is c.remove_slot.new.area
    (omega (arith, c.requires.1, c.rule_count-n.ensures.is)) c.remove_slot.ensures
