-- One list has ended, or both, or a rule is there on either side.
use mathlib.Core.Path.{ap}
use native.Mathlib.Omega.{arith}
use Rattle.meaning.specs.declared.RulePlace.{RulePlace}
use Rattle.plan.specs.Layout.{plan_of}
use Rattle.plan.proofs.ReadLaws.{rule_count_is}
use Rattle.compare.proofs.Steps.{both_ended, left_ended, right_ended}
use Rattle.compare.proofs.Heads.{rule_stands, left_alone, right_alone}
use Rattle.compare.proofs.stands_at.Goals as goal

pub returns-in-None-None : goal.returns-in-None-None
returns-in-None-None c = both_ended (plan_of c.args.left.memory.now) (plan_of c.args.right.memory.now) c.args.i.0 c.args.j.0
    (omega (arith, rule_count_is c.args.left.memory.now, c.in-None-None.ensures))
    (omega (arith, rule_count_is c.args.right.memory.now, c.in-None-None.ensures'))

pub returns-in-None-Some : goal.returns-in-None-Some
returns-in-None-Some c = right_alone c.args.left.memory.now c.args.right.memory.now c.args.i.0 c.args.j.0 c.in-None-Some.r
    c.in-None-Some.ensures'.0 (ap (λ (k : RulePlace). k.0) c.in-None-Some.ensures'.1)
    (left_ended (plan_of c.args.left.memory.now) (plan_of c.args.right.memory.now) c.args.i.0 c.args.j.0
    (omega (arith, rule_count_is c.args.left.memory.now, c.in-None-Some.ensures))
    (rule_stands c.args.right.memory.now c.args.j c.in-None-Some.r c.in-None-Some.ensures'))

pub returns-in-Some-None : goal.returns-in-Some-None
returns-in-Some-None c = left_alone c.args.left.memory.now c.args.right.memory.now c.args.i.0 c.args.j.0 c.in-Some-None.l
    c.in-Some-None.ensures.0 (ap (λ (k : RulePlace). k.0) c.in-Some-None.ensures.1)
    (right_ended (plan_of c.args.left.memory.now) (plan_of c.args.right.memory.now) c.args.i.0 c.args.j.0
    (rule_stands c.args.left.memory.now c.args.i c.in-Some-None.l c.in-Some-None.ensures)
    (omega (arith, rule_count_is c.args.right.memory.now, c.in-Some-None.ensures')))
