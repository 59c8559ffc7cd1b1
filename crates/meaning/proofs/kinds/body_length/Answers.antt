-- A byte that is no kind has no body.
use mathlib.Core.Path.{sym}
use native.Mathlib.Omega.{arith}
use Rattle.meaning.proofs.Telling.{no_body}
use Rattle.meaning.proofs.kinds.body_length.Goals as goal

pub returns-in-Err : goal.returns-in-Err
returns-in-Err c = record { is = sym (no_body c.args.kind (rw c.in-Err.is at c.try_from.ensures)); most = omega arith }
