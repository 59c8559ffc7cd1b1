-- The slot is written, put into the rule area, and the count raised.
use mathlib.Core.Path.{◌∙◌}
use native.Mathlib.Omega.{arith}
use Rattle.plan.specs.Edits.{rule_with}
use Rattle.plan.proofs.EditLaws.{rule_inserted}
use Rattle.plan.proofs.insert_rule.Goals as goal

pub returns : goal.returns
returns c = c.put_word.ensures
    ∙ rule_inserted c.args.memory.now _ c.requires.0 c.rules_start-a.ensures.is _ c.args.place.0 c.rule_count-n.ensures.is
    (rule_with c.args.code.now c.args.set.0) c.write_rule.new.slot c.insert_slot.new.area
    (omega (arith, c.requires.1, c.rule_count-n.ensures.is)) (omega (arith, c.requires.2, c.rule_count-n.ensures.is)) c.write_rule.ensures c.insert_slot.ensures
