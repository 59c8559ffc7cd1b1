-- One line.
use Rattle.record.proofs.ReadLines.{read_refs}
use Rattle.record.proofs.refs_record.Goals as goal

pub returns : goal.returns
returns c = read_refs c.args.plan.now c.args.run c.args.body.now c.refs_line-written.ensures c.line_of.ensures
