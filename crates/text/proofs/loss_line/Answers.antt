-- The loss stands behind the district.
use native.Mathlib.Omega.{arith}
use Rattle.text.proofs.Lines.{decimal_short, number_short, room_behind}
use borrow.Author.Rules.{rules}
use Rattle.text.proofs.loss_line.Goals as goal

pub write_number-at-requires : goal.write_number-at-requires
write_number-at-requires c = omega (arith, decimal_short c.args.district c.requires.0, c.requires.2)

pub write_signed-requires : goal.write_signed-requires
write_signed-requires c = let w = c.write_number-at.ensures in
    (search rules, room_behind w 16 (omega (arith, w.count_is, number_short c.args.district 32 c.requires.0, c.requires.2)))
