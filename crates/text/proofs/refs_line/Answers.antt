-- By the answer.
use Rattle.text.proofs.Lines.{named}
use Rattle.text.proofs.LineTexts.{counted_is, not_counted_is}
use Rattle.text.proofs.refs_line.Goals as goal

pub returns-in-Ok : goal.returns-in-Ok
returns-in-Ok c = named (counted_is c.in-Ok.is) c.write_counted.ensures

pub returns-in-Err : goal.returns-in-Err
returns-in-Err c = named (not_counted_is c.in-Err.is c.from.ensures) c.no_line.ensures
