use native.Mathlib.Omega.{arith}
use Rattle.text.proofs.Lines.{named, over}
use Rattle.text.proofs.LineTexts.{accepted_is}
use Rattle.text.proofs.accepted_line.Goals as goal

pub returns-in-Ok : goal.returns-in-Ok
returns-in-Ok c = named (accepted_is c.in-Ok.is) (over _ (omega (arith, c.requires)) c.copy.ensures)
