-- The digits end before place n or where the places do (`few_is`).
use Rattle.std.proofs.Common.{◌≡◌, take, true, false, sym, ◌∙◌}
use Rattle.meaning.specs.Basics.{all, is_digit}
use Rattle.buffer.proofs.ListLaws.{rest_is}
use Rattle.blocks.proofs.PlaceLaws.{few_is}
use Rattle.blocks.proofs.few_pass.Goals as goal

pub returns-then-all_digits : goal.returns-then-all_digits
returns-then-all_digits c = let s = c.args.s.now in
    let d = c.min-digits.result in
    let passed : all is_digit (take d s) ≡ true = sym c.all_digits.ensures ∙ c.if-all_digits.true in
    c.all_zero.ensures ∙ rw (rest_is d s) (sym (few_is c.args.n d s c.min-digits.ensures ∙ rw passed))

pub returns-else-all_digits : goal.returns-else-all_digits
returns-else-all_digits c = let s = c.args.s.now in
    let d = c.min-digits.result in
    let failed : all is_digit (take d s) ≡ false = sym c.all_digits.ensures ∙ c.if-all_digits.false in
    c.if-all_digits.false ∙ sym (few_is c.args.n d s c.min-digits.ensures ∙ rw failed)
