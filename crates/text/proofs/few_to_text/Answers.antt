-- At i the digits before i are written (`Seam`).
use Rattle.text.proofs.DigitTexts.{texts_more}
use Rattle.text.proofs.few_to_text.Goals as goal

pub loop-i-preserved : goal.loop-i-preserved
loop-i-preserved c = texts_more c.args.digits.now c.loop-i.invariant c.loop-i-test.true c.digit_text.ensures
