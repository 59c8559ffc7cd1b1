-- What is lent is cleared.
use mathlib.Core.Path.{refl}
use borrow.Author.Rules.{rules}
use Rattle.stream.proofs.Beginning.{no_records}
use Rattle.stream.proofs.begin.Goals as goal

pub returns : goal.returns
returns c = record { run_is = refl; no_plan = c.clear.ensures; no_rows = c.clear-2.ensures; no_records = no_records c.clear-3.ensures c.clear-arg-3-1.given.0.1 }
