-- No sum carries from one byte to the next.
use native.Mathlib.Omega.{arith}
use borrow.Author.Rules.{rules}
use Rattle.blocks.specs.Endian.{little_endian}
use Rattle.text.proofs.EightDigits.{letters, letters_few, eight_below, eight_texts}
use Rattle.text.proofs.text_of_eight.Goals as goal

pub overflow_add-letters : goal.overflow_add-letters
unfolding little_endian
overflow_add-letters c = omega (arith, eight_below c.args.x (search rules) c.requires)

pub overflow_add-result : goal.overflow_add-result
unfolding little_endian
overflow_add-result c = omega (arith, eight_below c.args.x (search rules) c.requires)

pub overflow_mul-result : goal.overflow_mul-result
unfolding little_endian letters
overflow_mul-result c = omega (arith, letters_few 8 c.args.x)

pub overflow_add-result-2 : goal.overflow_add-result-2
unfolding little_endian letters
overflow_add-result-2 c = omega (arith, eight_below c.args.x (search rules) c.requires, letters_few 8 c.args.x)

pub returns : goal.returns
unfolding little_endian letters
returns c = eight_texts c.args.x (search rules) c.requires
