-- No plan, the next rule of the listing, or its end.
use mathlib.Core.Path.{refl, ◌∙◌}
use native.Mathlib.Omega.{arith}
use borrow.Author.Tests.{not-true, not-false}
use Rattle.record.proofs.ReadLines.{list_no_plan, listing_few, goes_on, is_over, list_end, next_in, list_next}
use Rattle.record.proofs.list_record.Goals as goal

pub returns-then-not-run : goal.returns-then-not-run
returns-then-not-run c = list_no_plan c.args.plan.now c.args.run (c.requires.0 ∙ (not-true _ c.if-not-run.true)) (not-true _ c.if-not-run.true) c.refused-written.ensures
    c.line_of.ensures

pub listed_line-written-requires : goal.listed_line-written-requires
listed_line-written-requires c = let sound = c.requires.0 ∙ (not-false _ c.if-not-run.false) in
    let here = goes_on c.args.plan.now c.args.run sound (not-false _ c.if-not-run.false) _ c.rule_known.ensures _ c.in-Ok.is in
    (next_in c.args.plan.now c.args.run sound (not-false _ c.if-not-run.false) _ here.0 here.1, c.requires.1)

pub overflow_add-run : goal.overflow_add-run
overflow_add-run c = let sound = c.requires.0 ∙ (not-false _ c.if-not-run.false) in
    let here = goes_on c.args.plan.now c.args.run sound (not-false _ c.if-not-run.false) _ c.rule_known.ensures _ c.in-Ok.is in
    omega (arith, here.0, listing_few c.args.plan.now c.args.run sound (not-false _ c.if-not-run.false) _ refl)

pub returns-in-Ok : goal.returns-in-Ok
returns-in-Ok c = let sound = c.requires.0 ∙ (not-false _ c.if-not-run.false) in
    let here = goes_on c.args.plan.now c.args.run sound (not-false _ c.if-not-run.false) _ c.rule_known.ensures _ c.in-Ok.is in
    list_next c.args.plan.now c.args.run sound (not-false _ c.if-not-run.false) _ here.0 here.1 c.listed_line-written.ensures c.line_of-in-Ok.ensures

pub end_line-ended-requires : goal.end_line-ended-requires
end_line-ended-requires c = let few = listing_few c.args.plan.now c.args.run (c.requires.0 ∙ (not-false _ c.if-not-run.false)) (not-false _ c.if-not-run.false) _ c.count_known.ensures in
    (omega (arith, few), c.requires.1)

pub returns-in-Err : goal.returns-in-Err
returns-in-Err c = let sound = c.requires.0 ∙ (not-false _ c.if-not-run.false) in
    let over = is_over c.args.plan.now c.args.run sound (not-false _ c.if-not-run.false) _ c.rule_known.ensures _ c.in-Err.is in
    list_end c.args.plan.now c.args.run sound (not-false _ c.if-not-run.false) _ c.count_known.ensures (rw c.count_known.ensures over) c.end_line-ended.ensures c.line_of-in-Err.ensures
