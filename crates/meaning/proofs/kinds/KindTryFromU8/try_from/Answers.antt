-- A byte that no arm takes is above the first kinds, and none of C-11's.
use native.Mathlib.Omega.{arith}
use Rattle.meaning.proofs.Telling.{no_kind}
use Rattle.meaning.proofs.kinds.KindTryFromU8.try_from.Goals as goal

pub returns-in_default : goal.returns-in_default
returns-in_default c = no_kind c.args.b (λ h. omega arith) (λ h. omega arith)
