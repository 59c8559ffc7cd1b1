-- The rule's slot is lent, and the set number in it put anew.
use Rattle.plan.proofs.EditLaws.{rule_changed}
use Rattle.plan.proofs.rename_rule.Goals as goal

pub returns : goal.returns
returns c = rule_changed c.args.memory.now _ c.requires.0 c.rules_start.ensures.is c.args.place.0 c.args.set.0 c.put_word.new.b c.requires.1 c.put_word.ensures
