-- At i the digits before i are written (`Seam`).
use mathlib.Core.List.{map}
use Rattle.meaning.specs.Records.{digit_text}
use Rattle.buffer.proofs.Moves.{Seam}
use Rattle.text.proofs.few_to_text.Given as goal

abbrev pub invariant-loop-i : goal.invariant-loop-i
invariant-loop-i l = Seam (map digit_text l.digits) l.initial.out l.i l.out
