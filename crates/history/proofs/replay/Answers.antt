-- The calls that are left decide (`Going`); each turn carries out the next.
use Prim.Native.Nat.{◌-◌}
use mathlib.Core.Path.{◌≡◌, sym, ◌∙◌}
use native.Mathlib.Omega.{arith}
use lib.ListN.{length}
use borrow.Author.Rules.{rules}
use borrow.Author.Tests.{not-true, not-false}
use Rattle.history.proofs.Going.{Going, going_start, going_full, going_stops, going_whole, going_more}
use Rattle.history.proofs.replay.Goals as goal

pub loop-done-init : goal.loop-done-init
loop-done-init c = let a = c.args in
    going_start a.plan.now a.calls.now a.numbers.now

pub returns-then-not-is_whole : goal.returns-then-not-is_whole
returns-then-not-is_whole c = going_stops c.loop-done.invariant (sym c.is_whole.ensures ∙ c.if-not-is_whole.true)

pub bounds-calls-at : goal.bounds-calls-at
bounds-calls-at c = (going_whole c.loop-done.invariant (sym c.is_whole.ensures ∙ c.if-not-is_whole.false)).inside

pub slice_bounds-carry_out-end : goal.slice_bounds-carry_out-end
slice_bounds-carry_out-end c = let whole = going_whole c.loop-done.invariant (sym c.is_whole.ensures ∙ c.if-not-is_whole.false) in
    omega (arith, whole.fits, c.body_length.ensures.is)

pub loop-done-preserved : goal.loop-done-preserved
loop-done-preserved c = let whole = sym c.is_whole.ensures ∙ c.if-not-is_whole.false in
    going_more c.loop-done.invariant _ _ _ _ (omega arith) whole c.body_length.ensures.is (c.carry_out.ensures.call (going_whole c.loop-done.invariant whole).kind) c.answer_number.ensures

pub returns : goal.returns
returns c = let g = c.loop-done.invariant in
    let all : c.loop-done.done ≡ length c.loop-done.numbers = omega (arith, g.room, g.long) in
    rw (← all) (going_full g (omega (arith, g.long)))
