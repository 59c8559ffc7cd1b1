-- The run's promise, and the line of what it answers.
use mathlib.Core.Path.{◌∙◌}
use Rattle.record.proofs.CallLines.{was_open, now_open, opening_line}
use Rattle.record.proofs.opening_record.Goals as goal
use Rattle.record.proofs.opening_record.Goals.{then-run, else-run}

pub returns : goal.returns
returns c = opening_line c.args.plan.now c.args.run c.requires.0 c.args.body.now c.open-answer.result c.if-run.opened c.requires.1 c.open-answer.ensures
    c.accepted_line-written.ensures
    (elim c.if-run.branch [
      | then-run w ↦ was_open _ w.if-run.true w.opened-is
      | else-run w ↦ now_open w.if-run.false (w.opened-is ∙ w.is_ok-opened.ensures.value)
    ])
    c.line_of.ensures
