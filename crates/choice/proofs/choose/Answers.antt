-- A sound plan has its rules in order, and the place chosen is one of theirs.
use Rattle.plan.proofs.PlacedRules.{rules_are, order_is}
use Rattle.choice.proofs.Chosen.{place_held}
use Rattle.choice.proofs.choose.Goals as goal

pub choose-requires-clause-rules_rise : goal.choose-requires-clause-rules_rise
choose-requires-clause-rules_rise c = order_is c.args.plan.memory.now _ _ c.args.plan.sound c.rules.ensures c.rule_count.ensures.is

pub invariant_of-result : goal.invariant_of-result
invariant_of-result c = record { held = place_held c.args.plan.memory.now c.args.class c.args.digits.now _ (rw (← rules_are c.args.plan.memory.now _ _ c.rules.ensures c.rule_count.ensures.is) c.choose.ensures) _ c.in_ok-place.was }
