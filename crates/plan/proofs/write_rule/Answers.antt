-- The slot is cleared, the filter copied over its front, and the set number put behind it.
use mathlib.Core.Path.{◌∙◌}
use Rattle.plan.proofs.EditLaws.{rule_written}
use Rattle.plan.proofs.write_rule.Goals as goal

pub returns : goal.returns
returns c = c.put_word.ensures
    ∙ rule_written c.args.slot.now c.clear.new.s c.copy.new.to c.args.code.now c.args.set.0 c.requires.0 c.requires.1
    c.clear.ensures c.copy.ensures
