-- The places left hold every rule that may still weigh more than the best so far; places are left, or digits.
use mathlib.Core.Path.{refl, sym, ◌∙◌}
use native.Mathlib.Omega.{arith}
use Rattle.narrowing.proofs.Narrowing.{class_reached, none_left, own_better, own_worse, below_16, number_ends, digit_reached}
use Rattle.narrowing.proofs.choose_among.Goals as goal
use Rattle.narrowing.proofs.choose_among.Goals.{then-most-w, else-most-w}

pub loop-left-init : goal.loop-left-init
loop-left-init c = class_reached c.requires.rule_area c.requires.rules_rise refl c.requires.narrowed

pub loop-left-preserved-then-from-j : goal.loop-left-preserved-then-from-j
loop-left-preserved-then-from-j c =
    let l = c.loop-left in
    let t = c.loop-left-test.true in
    let e = sym c.from.ensures ∙ c.if-from-j.true in
    elim c.if-most-w.branch [
      | then-most-w w ↦ rw (w.best-is, w.most-is) (own_better c.requires.rule_area c.requires.rules_rise l.invariant t e refl c.weigh_length-w.ensures w.if-most-w.true)
      | else-most-w w ↦ rw (w.best-is, w.most-is) (own_worse c.requires.rule_area c.requires.rules_rise l.invariant t e refl c.weigh_length-w.ensures w.if-most-w.false)
    ]

pub returns-in_default : goal.returns-in_default
returns-in_default c =
    sym (number_ends c.requires.rule_area c.requires.rules_rise c.loop-left.invariant c.loop-left-test.true
    (λ e. c.if-from-j.false (c.from.ensures ∙ e)) c.in_default.ensures.lookup.3)

pub loop-left-smaller : goal.loop-left-smaller
loop-left-smaller c =
    let n = c.narrow-left.ensures in
    omega (
      arith,
      n.start.low,
      n.end.high,
      below_16 c.requires.rule_area c.requires.rules_rise c.loop-left.invariant c.loop-left-test.true (λ e. c.if-from-j.false (c.from.ensures ∙ e)),
    )

pub loop-left-preserved : goal.loop-left-preserved
loop-left-preserved c =
    let h = c.in-Some.ensures.lookup.3 in
    digit_reached c.requires.rule_area c.requires.rules_rise c.loop-left.invariant c.loop-left-test.true
    (λ e. c.if-from-j.false (c.from.ensures ∙ e)) h.0 (h.1 0) c.narrow-left.ensures

pub returns : goal.returns
returns c = sym (none_left c.requires.rule_area c.requires.rules_rise c.loop-left.invariant c.loop-left-test.false)
