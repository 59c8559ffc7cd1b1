-- The run's promise, and the line of what it answers.
use Rattle.record.proofs.CallLines.{edit_line}
use Rattle.record.proofs.edit_record.Goals as goal

pub returns : goal.returns
returns c = edit_line c.args.plan.now c.args.run c.requires.0 c.args.body.now c.args.edit c.requires.1 c.change-answer.ensures c.accepted_line-written.ensures
    c.line_of.ensures
