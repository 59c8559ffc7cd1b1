-- No more digits than a byte has.
use native.Mathlib.Omega.{arith}
use Rattle.text.proofs.Lines.{decimal_short}
use Rattle.text.proofs.write_length.Goals as goal

pub write_number-requires : goal.write_number-requires
write_number-requires c = omega (arith, decimal_short c.from.result (omega arith))
