-- By whether there are digits.
use Rattle.text.proofs.DigitTexts.{some_digits}
use Rattle.text.proofs.write_digits.Goals as goal

pub returns : goal.returns
returns c = some_digits c.args.none c.args.behind c.args.digits.now c.args.out.now c.if-n-eq0.false c.requires.1 c.digits_to_text.ensures
