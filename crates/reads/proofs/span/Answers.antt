-- Nothing where a check refuses, or what the choice gives.
use Rattle.meaning.proofs.Telling.{told}
use Rattle.reads.proofs.Spans.{span_plan, span_given}
use Rattle.reads.proofs.span.Goals as goal

pub returns-in_default : goal.returns-in_default
returns-in_default c = span_plan c.args.plan.now c.args.class c.args.digits.now c.args.value c.in_default.ensures.1

pub returns : goal.returns
returns c = span_given c.args.plan.now c.args.class c.args.digits.now c.args.value c.in-Ok.plan c.in-Ok.ensures
    (told c.dialled_in_range.ensures c.if-not-dialled_in_range.false) (told c.is_conditioned.ensures c.if-not-is_conditioned.false) _ c.span_known.ensures
