-- At i the digits before i are written (`Seam`); each block moves the seam behind itself.
use Prim.Native.Nat.{◌≤◌}
use mathlib.Core.List.{map}
use lib.ListN.{length}
use Rattle.meaning.specs.Records.{digit_text}
use Rattle.buffer.proofs.Moves.{Seam}
use Rattle.text.proofs.digits_to_text.Given as goal

abbrev pub invariant-loop-i : goal.invariant-loop-i
invariant-loop-i l = (l.i ≤ length l.digits) × (8 ≤ length l.digits) × (length l.digits ≤ length l.out) × Seam (map digit_text l.digits) l.initial.out l.i l.out
