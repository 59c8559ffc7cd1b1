-- What is left of the rules decides; i is the place of the second of them.
use mathlib.Core.Path.{refl, sym, ◌∙◌}
use Rattle.std.proofs.Common.{arith}
use Rattle.examiner.proofs.Rises.{risen_all, risen_more, risen_not}
use Rattle.examiner.proofs.rules_rise.Goals as goal

pub loop-i-init : goal.loop-i-init
loop-i-init c = refl

pub returns-then-is_ge : goal.returns-then-is_ge
returns-then-is_ge c =
    let l = c.loop-i in
    sym (risen_not c.args.rules.now l.i l.invariant c.order_filters.result (omega (arith, l.auto.i)) c.loop-i-test.true c.order_filters.ensures (sym c.is_ge.ensures ∙ c.if-is_ge.true))

pub loop-i-preserved : goal.loop-i-preserved
loop-i-preserved c =
    let l = c.loop-i in
    risen_more c.args.rules.now l.i l.invariant c.order_filters.result (omega (arith, l.auto.i)) c.loop-i-test.true c.order_filters.ensures (sym c.is_ge.ensures ∙ c.if-is_ge.false)

pub returns : goal.returns
returns c =
    let l = c.loop-i in
    sym (risen_all c.args.rules.now l.i l.invariant (omega arith))
