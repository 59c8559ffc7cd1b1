-- No rule, or what the rule chosen gives.
use Rattle.reads.proofs.NumberReads.{number_none, rule_applies, number_chosen}
use Rattle.reads.proofs.conditioned_known.Goals as goal

pub conditioned_at-requires : goal.conditioned_at-requires
conditioned_at-requires c =
    record {
      applies = rule_applies c.args.plan.memory.now c.args.class c.args.digits.now c.args.out.now c.choose.result c.choose.ensures.place c.choose.ensures.plan _ c.in-Some.is c.requires.0;
      in_bounds = c.requires.1;
    }

pub returns-in-None : goal.returns-in-None
returns-in-None c = number_none c.args.plan.memory.now c.args.class c.args.digits.now c.args.out.now c.choose.result c.choose.ensures.place c.in-None.is

pub returns-in-Some : goal.returns-in-Some
returns-in-Some c = number_chosen c.args.plan.memory.now c.args.class c.args.digits.now c.args.out.now c.choose.result c.choose.ensures.place c.choose.ensures.plan _ c.in-Some.is
    _ _ c.conditioned_at.ensures
