-- All that is lent is examined once.
use mathlib.Core.Path.{refl, ap}
use mathlib.Core.Bool.{not}
use native.Mathlib.Omega.{arith}
use Rattle.meaning.proofs.Telling.{told}
use Rattle.record.specs.Promises.{lent}
use Rattle.record.proofs.StepLines.{no_room_unfit, prices_unfit, ledger_unfit, fit_house, all_fit}
use Rattle.record.proofs.step.Goals as goal

pub returns-then-plan-lt-RUN_BYTES : goal.returns-then-plan-lt-RUN_BYTES
returns-then-plan-lt-RUN_BYTES c = (no_room_unfit (lent c.args.plan.now c.args.prices.now c.args.districts.now c.args.whole) (omega (arith, c.if-plan-lt-RUN_BYTES.true)), refl, refl)

pub returns-then-not-in_range : goal.returns-then-not-in_range
returns-then-not-in_range c = (prices_unfit (lent c.args.plan.now c.args.prices.now c.args.districts.now c.args.whole) (told c.in_range.ensures c.if-not-in_range.true), refl, refl)

pub returns-then-not-in_range-2 : goal.returns-then-not-in_range-2
returns-then-not-in_range-2 c = (ledger_unfit (lent c.args.plan.now c.args.prices.now c.args.districts.now c.args.whole) (told c.in_range-2.ensures c.if-not-in_range-2.true), refl, refl)

pub step_known-requires : goal.step_known-requires
step_known-requires c = fit_house (lent c.args.plan.now c.args.prices.now c.args.districts.now c.args.whole)
    c.if-plan-lt-RUN_BYTES.false c.in_range.ensures (ap not c.if-not-in_range.false) c.told-districts c.in_range-2.ensures
    (ap not c.if-not-in_range-2.false) c.sound.ensures

pub returns : goal.returns
returns c = let fit =
    all_fit (lent c.args.plan.now c.args.prices.now c.args.districts.now c.args.whole)
    c.if-plan-lt-RUN_BYTES.false c.in_range.ensures (ap not c.if-not-in_range.false) c.told-districts c.in_range-2.ensures
    (ap not c.if-not-in_range-2.false) c.sound.ensures in
    (fit, c.step_known.ensures)
