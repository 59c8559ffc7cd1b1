-- The second half stands behind the first.
use native.Mathlib.Omega.{arith}
use Rattle.text.proofs.Lines.{named, room_behind, text_behind}
use Rattle.text.proofs.LineTexts.{half_short, listed_is}
use borrow.Author.Rules.{rules}
use Rattle.text.proofs.listed_line.Goals as goal

pub write_length_and_set-requires : goal.write_length_and_set-requires
write_length_and_set-requires c =
    let w = c.write_class_and_prefix-at.ensures in
    let l = half_short c.args.rule _ c.from-digits.ensures c.requires.0 (search rules) in
    (search rules, room_behind w 12 (omega (arith, w.count_is, l, c.requires.1)))

pub returns : goal.returns
returns c = named (listed_is c.args.rule _ c.from-digits.ensures c.from-set.ensures) (text_behind c.write_class_and_prefix-at.ensures c.write_length_and_set.ensures)
