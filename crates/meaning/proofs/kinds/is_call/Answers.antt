-- A byte that is no kind is no call's.
use mathlib.Core.Path.{sym}
use Rattle.meaning.proofs.Telling.{no_call}
use Rattle.meaning.proofs.kinds.is_call.Goals as goal

pub returns-in-Err : goal.returns-in-Err
returns-in-Err c = sym (no_call c.args.kind (rw c.in-Err.is at c.try_from.ensures))
