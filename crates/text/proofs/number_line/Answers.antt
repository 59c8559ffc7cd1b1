-- The refusal's line, or the head and the digits behind it.
use Rattle.text.specs.Writes.{answer_in}
use Rattle.text.proofs.Lines.{named, text_behind}
use Rattle.text.proofs.LineTexts.{refused_is, answered_is}
use Rattle.text.proofs.number_line.Goals as goal

pub returns-then-answer-ne-ACCEPTED : goal.returns-then-answer-ne-ACCEPTED
returns-then-answer-ne-ACCEPTED c = let a = c.args in
    named (refused_is (answer_in a.answer a.digits.now) c.if-answer-ne-ACCEPTED.true) c.no_line.ensures

pub returns : goal.returns
returns c = let w = c.write_head.ensures in
    named (answered_is c.args.answer c.args.digits.now c.requires.0 c.if-answer-ne-ACCEPTED.false) (text_behind w c.write_digits.ensures)
