-- The prefix stands behind the number.
use Prim.Native.Nat.{◌+◌}
use lib.ListN.{length}
use native.Mathlib.Omega.{arith}
use Rattle.text.proofs.Lines.{decimal_short, number_short, room_behind}
use Rattle.text.proofs.write_class_and_prefix.Goals as goal

pub write_number-at-requires : goal.write_number-at-requires
write_number-at-requires c = omega (arith, decimal_short c.from.result (omega arith), c.requires.1)

pub write_prefix-requires : goal.write_prefix-requires
write_prefix-requires c = let w = c.write_number-at.ensures in
    (c.requires.0, room_behind w (length c.args.prefix.now + 2) (omega (arith, w.count_is, number_short c.from.result 32 (omega arith), c.requires.1)))
