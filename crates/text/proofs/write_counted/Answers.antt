-- The number stands behind the word.
use native.Mathlib.Omega.{arith}
use Rattle.text.proofs.Lines.{decimal_short}
use Rattle.text.proofs.write_counted.Goals as goal

pub write_number-requires : goal.write_number-requires
write_number-requires c = omega (arith, decimal_short c.args.n c.requires.0, c.requires.1)
