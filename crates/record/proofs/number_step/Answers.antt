-- The record is cut, refused before its number is looked at, or answered.
use mathlib.Core.Path.{refl, ap, sym, ◌∙◌}
use Rattle.std.specs.Prelude.{Ok}
use native.Mathlib.Omega.{arith}
use Prim.Native.Nat.{ℕ, ◌+◌}
use Rattle.record.specs.Promises.{lent}
use Rattle.meaning.specs.Ledger.{ledger_of}
use Rattle.record.proofs.NumberLines.{number_kind, place_cut, place_refused, refused_fits, place_at, refused_at, at_few, at_end, at_fits}
use Rattle.record.proofs.MonthLines.{answered_line}
use Rattle.record.proofs.StepLines.{number_cut_step, number_whole_step}
use Rattle.record.proofs.number_step.Goals as goal

pub number_line-entered-requires : goal.number_line-entered-requires
number_line-entered-requires c = let at = place_at c.args.run.opened c.args.kind c.args.input.now c.number_place.ensures _ (c.in-Ok-Some.is ∙ ap Ok c.in-Ok-Some.field-0-is) in
    (c.requires.0, at.0, at.1, c.requires.4)

pub overflow_add-at : goal.overflow_add-at
overflow_add-at c = let at = place_at c.args.run.opened c.args.kind c.args.input.now c.number_place.ensures _ (c.in-Ok-Some.is ∙ ap Ok c.in-Ok-Some.field-0-is) in
    record { fits = omega (arith, at_few at.1) }

pub returns-in-Ok-None : goal.returns-in-Ok-None
returns-in-Ok-None c = number_cut_step (lent c.args.plan.now c.args.prices.now c.args.districts.now c.args.run.whole) c.args.run.lines c.args.ended c.args.input.now c.args.output.now
    c.requires.1 c.requires.4 c.args.kind c.requires.2 (number_kind c.args.kind c.requires.3) (place_cut c.args.run.opened c.args.kind c.args.input.now c.number_place.ensures (c.in-Ok-None.is ∙ ap Ok c.in-Ok-None.field-0-is)) c.cut_record.ensures

pub returns-in-Err : goal.returns-in-Err
returns-in-Err c = let place = c.number_place.ensures in
    let refused = place_refused c.args.run.opened c.args.kind c.args.input.now place _ c.in-Err.is in
    let line = answered_line c.args.plan.now c.args.prices.now c.args.districts.now c.args.run c.requires.0 c.args.kind _ _ _ c.requires.3
    (refused_at c.args.plan.now c.args.prices.now (ledger_of c.args.districts.now c.args.run.whole) c.requires.3 refused c.requires.0.plan_in.state c.refused-written.ensures)
    (ap (λ (j : ℕ). 1 + j) c.body_length-taken.ensures.is) refl c.line_of-in-Err.ensures in
    number_whole_step (lent c.args.plan.now c.args.prices.now c.args.districts.now c.args.run.whole) c.args.run.lines c.args.ended c.args.input.now c.args.output.now
    c.requires.1 c.requires.4 c.args.kind c.requires.2 (number_kind c.args.kind c.requires.3) (refused_fits refused) line

pub returns-in-Ok-Some : goal.returns-in-Ok-Some
returns-in-Ok-Some c = let at = place_at c.args.run.opened c.args.kind c.args.input.now c.number_place.ensures _ (c.in-Ok-Some.is ∙ ap Ok c.in-Ok-Some.field-0-is) in
    number_whole_step (lent c.args.plan.now c.args.prices.now c.args.districts.now c.args.run.whole) c.args.run.lines c.args.ended c.args.input.now c.args.output.now
    c.requires.1 c.requires.4 c.args.kind c.requires.2 (number_kind c.args.kind c.requires.3) (omega (arith, at_fits at.1, at_end at.1))
    (answered_line c.args.plan.now c.args.prices.now c.args.districts.now c.args.run c.requires.0 c.args.kind _ _ _ c.requires.3 c.number_line-entered.ensures (at_end at.1) (sym at.0) c.line_of.ensures)
