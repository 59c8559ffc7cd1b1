-- Each way out is the turn's.
use mathlib.Core.Path.{refl, ap, sym, ◌∙◌}
use Rattle.meaning.specs.Calls.{is_kind, body_length}
use Rattle.meaning.proofs.Telling.{told, kind_is, kind_told, kind_untold}
use Rattle.record.specs.Numbers.{has_number}
use Rattle.record.specs.Promises.{lent}
use Rattle.record.proofs.StepLines.{nothing_ends, nothing_wants, no_room, unknown_ends, cut_step, body_lent, whole_step}
use Rattle.record.proofs.step_known.Goals as goal

pub returns-then-ended : goal.returns-then-ended
returns-then-ended c = nothing_ends (lent c.args.plan.now c.args.prices.now c.args.districts.now c.args.run.whole) c.args.run.lines c.args.ended c.args.input.now c.args.output.now c.if-input-eq0.true c.if-ended.true

pub returns-then-input-eq0 : goal.returns-then-input-eq0
returns-then-input-eq0 c = nothing_wants (lent c.args.plan.now c.args.prices.now c.args.districts.now c.args.run.whole) c.args.run.lines c.args.ended c.args.input.now c.args.output.now c.if-input-eq0.true c.if-ended.false

pub returns-then-output-lt-LONGEST_LINE : goal.returns-then-output-lt-LONGEST_LINE
returns-then-output-lt-LONGEST_LINE c = no_room (lent c.args.plan.now c.args.prices.now c.args.districts.now c.args.run.whole) c.args.run.lines c.args.ended c.args.input.now c.args.output.now c.if-input-eq0.false c.if-output-lt-LONGEST_LINE.true

pub number_step-requires : goal.number_step-requires
number_step-requires c = (c.requires, c.if-input-eq0.false, refl, told c.has_number.ensures c.if-has_number.true, c.if-output-lt-LONGEST_LINE.false)

pub returns-then-has_number : goal.returns-then-has_number
returns-then-has_number c = c.number_step.ensures

pub returns-in_default : goal.returns-in_default
returns-in_default c = unknown_ends (lent c.args.plan.now c.args.prices.now c.args.districts.now c.args.run.whole) c.args.run.lines c.args.ended c.args.input.now c.args.output.now
    c.if-input-eq0.false c.if-output-lt-LONGEST_LINE.false (kind_untold _ c.try_from.ensures c.in_default.is) c.refused.ensures

pub returns-then-input-end : goal.returns-then-input-end
returns-then-input-end c = let kind = kind_told c.try_from.ensures c.in-Ok.is in
    cut_step (lent c.args.plan.now c.args.prices.now c.args.districts.now c.args.run.whole) c.args.run.lines c.args.ended c.args.input.now c.args.output.now
    c.if-input-eq0.false c.if-output-lt-LONGEST_LINE.false (ap is_kind (sym kind) ∙ kind_is c.in-Ok.kind) _ (c.body_length-end.ensures.is ∙ ap body_length kind)
    c.if-input-end.true c.cut_record.ensures

pub whole_record-requires : goal.whole_record-requires
whole_record-requires c = let kind = kind_told c.try_from.ensures c.in-Ok.is in (
  c.requires,
  ap has_number kind ∙ told c.has_number.ensures c.if-has_number.false,
  body_lent (lent c.args.plan.now c.args.prices.now c.args.districts.now c.args.run.whole) c.args.run.lines c.args.ended c.args.input.now c.args.output.now
      c.if-input-eq0.false c.if-output-lt-LONGEST_LINE.false (ap is_kind (sym kind) ∙ kind_is c.in-Ok.kind) _ (c.body_length-end.ensures.is ∙ ap body_length kind) c.if-input-end.false
      ∙ ap body_length (sym kind),
  c.if-output-lt-LONGEST_LINE.false,
)

pub returns : goal.returns
returns c = let kind = kind_told c.try_from.ensures c.in-Ok.is in
    whole_step (lent c.args.plan.now c.args.prices.now c.args.districts.now c.args.run.whole) c.args.run.lines c.args.ended c.args.input.now c.args.output.now
    c.if-input-eq0.false c.if-output-lt-LONGEST_LINE.false (ap is_kind (sym kind) ∙ kind_is c.in-Ok.kind) _ (c.body_length-end.ensures.is ∙ ap body_length kind)
    c.if-input-end.false (rw kind at c.whole_record.ensures)
