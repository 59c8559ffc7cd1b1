-- The four tests in a row are those of the range.
use mathlib.Core.Path.{sym, ◌∙◌}
use Rattle.std.proofs.Common.{arith, ne_eqb}
use Rattle.filter.proofs.FilterLaws.{range_last}
use Rattle.filter.proofs.filter_in_range.Goals as goal
use Rattle.filter.proofs.filter_in_range.Goals.{then-is_ok, else-is_ok, then-digits_in_range, else-digits_in_range}

pub returns-else-len-le32 : goal.returns-else-len-le32
returns-else-len-le32 c =
    c.if-len-le32.false ∙ sym (range_last c.args.code.now _ _ c.if-is_ok.value c.if-digits_in_range.value c.try_from.ensures c.is_ok.ensures.value
    (elim c.if-is_ok.branch [ then-is_ok w ↦ grind arith | else-is_ok w ↦ grind arith ])
    (elim c.if-digits_in_range.branch [ then-digits_in_range w ↦ grind arith | else-digits_in_range w ↦ grind arith ]) ∙ rw c.if-len-le32.false)

pub returns-then-len-eq0 : goal.returns-then-len-eq0
returns-then-len-eq0 c =
    sym (range_last c.args.code.now _ _ c.if-is_ok.value c.if-digits_in_range.value c.try_from.ensures c.is_ok.ensures.value
    (elim c.if-is_ok.branch [ then-is_ok w ↦ grind arith | else-is_ok w ↦ grind arith ])
    (elim c.if-digits_in_range.branch [ then-digits_in_range w ↦ grind arith | else-digits_in_range w ↦ grind arith ]) ∙ rw c.if-len-le32.true (rw c.if-len-eq0.true))

pub returns-else-len-eq0 : goal.returns-else-len-eq0
returns-else-len-eq0 c =
    sym (range_last c.args.code.now _ _ c.if-is_ok.value c.if-digits_in_range.value c.try_from.ensures c.is_ok.ensures.value
    (elim c.if-is_ok.branch [ then-is_ok w ↦ grind arith | else-is_ok w ↦ grind arith ])
    (elim c.if-digits_in_range.branch [ then-digits_in_range w ↦ grind arith | else-digits_in_range w ↦ grind arith ]) ∙ rw (c.if-len-le32.true, ne_eqb _ _ c.if-len-eq0.false))
