-- CUT only where the input has ended.
use Rattle.record.proofs.StepLines.{cut_wants, cut_ends}
use Rattle.record.proofs.cut_record.Goals as goal

pub returns-then-not-ended : goal.returns-then-not-ended
returns-then-not-ended c = cut_wants c.args.ended c.args.output.now (c.if-not-ended.true)

pub returns : goal.returns
returns c = cut_ends _ (c.if-not-ended.false) c.refused.ensures
