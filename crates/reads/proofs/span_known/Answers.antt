-- No rule, or the stretch that the rule chosen and its set give.
use Rattle.reads.proofs.Spans.{covers_none, covers_chosen}
use Rattle.reads.proofs.span_known.Goals as goal

pub returns-in-None : goal.returns-in-None
returns-in-None c = covers_none c.args.plan.memory.now c.args.class c.args.digits.now c.args.value c.choose.result c.choose.ensures.place c.in-None.is

pub returns-in-Some : goal.returns-in-Some
returns-in-Some c = covers_chosen c.args.plan.memory.now c.args.class c.args.digits.now c.args.value c.choose.result c.choose.ensures.place c.choose.ensures.plan _ c.in-Some.is
    _ _ _ _ c.content.ensures c.cas_of-cas.ensures c.prefix.ensures c.span_in.ensures
