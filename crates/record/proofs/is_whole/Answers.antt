-- A record has a byte for its kind, and its body.
use Rattle.record.proofs.StepLines.{empty_not_whole, whole_test}
use Rattle.record.proofs.is_whole.Goals as goal

pub returns-then-input-eq0 : goal.returns-then-input-eq0
returns-then-input-eq0 c = empty_not_whole c.args.input.now c.if-input-eq0.true

pub returns : goal.returns
returns c = whole_test c.args.input.now c.body_length.result c.if-input-eq0.false c.body_length.ensures.is
