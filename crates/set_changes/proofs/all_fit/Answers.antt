-- What is left of the rules decides; i is the place of the first of them.
use Prim.Native.Nat.{zero-le}
use mathlib.Core.Path.{ap, sym}
use native.Mathlib.Omega.{arith}
use Rattle.meaning.specs.declared.SetNumber.{SetNumber}
use Rattle.filter.proofs.RuleLaws.{slot_bytes}
use Rattle.set_changes.proofs.FittingLaws.{fitting_none, fitting_other, fitting_misfit, fitting_fits, fitting_all}
use Rattle.set_changes.proofs.all_fit.Goals as goal
use Rattle.set_changes.proofs.all_fit.Goals.{else-named-set-via-then-named-set+else-not-fits, else-named-set-via-else-named-set}

pub loop-i-init : goal.loop-i-init
loop-i-init c = (zero-le, c.requires.rule_area.few, c.requires.rule_area.room, fitting_none c.args.set.0 c.args.content.now c.args.rules.now c.args.count)

pub fits-requires : goal.fits-requires
fits-requires c =
    record {
      content_len = c.requires.content_len;
      filter_bytes = slot_bytes c.args.count c.loop-i.i c.args.rules.now c.requires.rule_area c.loop-i-test.true;
    }

pub returns-then-not-fits : goal.returns-then-not-fits
returns-then-not-fits c = let l = c.loop-i in
    let a = c.args in
    let e = ap (λ (s : SetNumber). s.0) c.set_at-named.ensures in
    sym (fitting_misfit a.set.0 a.content.now a.rules.now a.count l.i l.invariant.3 _ c.loop-i-test.true e
    c.if-named-set.true _ c.fits.ensures (c.if-not-fits.true))

pub loop-i-preserved : goal.loop-i-preserved
loop-i-preserved c = let l = c.loop-i in
    let a = c.args in
    let t = c.loop-i-test.true in
    let e = ap (λ (s : SetNumber). s.0) c.set_at-named.ensures in
    elim c.else-named-set.branch [
      | else-named-set-via-then-named-set+else-not-fits w ↦ (omega arith, l.invariant.1, l.invariant.2, fitting_fits a.set.0 a.content.now a.rules.now a.count l.i l.invariant.3 _ t e w.if-named-set.true _ w.fits.ensures w.if-not-fits.false)
      | else-named-set-via-else-named-set w ↦ (omega arith, l.invariant.1, l.invariant.2, fitting_other a.set.0 a.content.now a.rules.now a.count l.i l.invariant.3 _ t e w.if-named-set.false)
    ]

pub returns : goal.returns
returns c = let l = c.loop-i in
    let a = c.args in
    sym (fitting_all a.set.0 a.content.now a.rules.now a.count l.i l.invariant.3 c.loop-i-test.false)
