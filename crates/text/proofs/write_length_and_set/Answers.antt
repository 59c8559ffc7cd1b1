-- The number stands behind the length.
use native.Mathlib.Omega.{arith}
use Rattle.text.proofs.Lines.{decimal_short, room_behind}
use Rattle.text.proofs.LineTexts.{length_short}
use borrow.Author.Rules.{rules}
use Rattle.text.proofs.write_length_and_set.Goals as goal

pub write_number-requires : goal.write_number-requires
write_number-requires c = let w = c.write_length-at.ensures in
    let r = room_behind w 6 (omega (arith, w.count_is, length_short c.args.len (search rules), c.requires.1)) in
    omega (arith, r, decimal_short c.args.set c.requires.0)
