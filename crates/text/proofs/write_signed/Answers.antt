-- The sign, and the number behind it.
use native.Mathlib.Omega.{arith}
use Rattle.text.proofs.Losses.{size_short}
use Rattle.text.proofs.write_signed.Goals as goal

pub write_number-requires : goal.write_number-requires
write_number-requires c = omega (arith, size_short c.args.x c.ranges.x c.unsigned_abs-n.ensures.value c.requires.0, c.requires.1)

pub write_number-requires-2 : goal.write_number-requires-2
write_number-requires-2 c = omega (arith, size_short c.args.x c.ranges.x c.unsigned_abs-n.ensures.value c.requires.0, c.requires.1)
