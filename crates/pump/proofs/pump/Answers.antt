-- The steps that were taken extend every run of those that are left (`Going`).
use native.Mathlib.Omega.{arith}
use Rattle.record.specs.Promises.{lent}
use Rattle.pump.proofs.Pumping.{going_start, output_size, plan_size, list_size, line_goes, line_takes, line_fits, line_less, wants_stops, full_stops, end_stops, end_fits}
use Rattle.pump.proofs.pump.Goals as goal

pub loop-end-init : goal.loop-end-init
loop-end-init c = going_start (lent c.args.plan.now c.args.prices.now c.args.districts.now c.args.run.whole) c.args.run c.args.ended c.args.input.now
    c.args.output.now c.requires

pub step_known-requires : goal.step_known-requires
step_known-requires c = c.loop-end.invariant.in_house

pub overflow_add-at : goal.overflow_add-at
overflow_add-at c = let most = line_takes c.loop-end.invariant c.step_known.ensures c.in-Wrote.is in
    record { fits = omega (arith, most, c.well_formed.1.1.1.1.1.0) }

pub overflow_add-end : goal.overflow_add-end
overflow_add-end c = let most = line_fits c.loop-end.invariant c.step_known.ensures c.in-Wrote.is in
    record { fits = omega (arith, most, c.well_formed.1.1.1.1.1.1.0) }

pub loop-end-smaller : goal.loop-end-smaller
loop-end-smaller c = line_less c.loop-end.invariant c.step_known.ensures c.in-Wrote.is

pub loop-end-preserved : goal.loop-end-preserved
loop-end-preserved c = line_goes c.loop-end.invariant c.step_known.ensures c.in-Wrote.is

pub shape_of-plan-in-Wants : goal.shape_of-plan-in-Wants
shape_of-plan-in-Wants c = plan_size c.loop-end.invariant c.step_known.ensures

pub shape_of-prices-in-Wants : goal.shape_of-prices-in-Wants
shape_of-prices-in-Wants c = list_size c.loop-end.invariant c.step_known.ensures

pub shape_of-output-in-Wants : goal.shape_of-output-in-Wants
shape_of-output-in-Wants c = output_size c.loop-end.invariant c.step_known.ensures

pub returns-in-Wants : goal.returns-in-Wants
returns-in-Wants c = rw c.stopped.ensures (wants_stops c.loop-end.invariant c.step_known.ensures c.in-Wants.is)

pub shape_of-plan-in-Full : goal.shape_of-plan-in-Full
shape_of-plan-in-Full c = plan_size c.loop-end.invariant c.step_known.ensures

pub shape_of-prices-in-Full : goal.shape_of-prices-in-Full
shape_of-prices-in-Full c = list_size c.loop-end.invariant c.step_known.ensures

pub shape_of-output-in-Full : goal.shape_of-output-in-Full
shape_of-output-in-Full c = output_size c.loop-end.invariant c.step_known.ensures

pub returns-in-Full : goal.returns-in-Full
returns-in-Full c = rw c.stopped-in-Full.ensures (full_stops c.loop-end.invariant c.step_known.ensures c.in-Full.is)

pub overflow_add-end-in-Ends : goal.overflow_add-end-in-Ends
overflow_add-end-in-Ends c = let most = end_fits c.loop-end.invariant c.step_known.ensures c.in-Ends.is in
    record { fits = omega (arith, most, c.well_formed.1.1.1.1.1.1.0) }

pub shape_of-plan-in-Ends : goal.shape_of-plan-in-Ends
shape_of-plan-in-Ends c = plan_size c.loop-end.invariant c.step_known.ensures

pub shape_of-prices-in-Ends : goal.shape_of-prices-in-Ends
shape_of-prices-in-Ends c = list_size c.loop-end.invariant c.step_known.ensures

pub shape_of-output-in-Ends : goal.shape_of-output-in-Ends
shape_of-output-in-Ends c = output_size c.loop-end.invariant c.step_known.ensures

pub returns-in-Ends : goal.returns-in-Ends
returns-in-Ends c = rw c.stopped-in-Ends.ensures (end_stops c.loop-end.invariant c.step_known.ensures c.in-Ends.is)

pub shape_of-plan : goal.shape_of-plan
shape_of-plan c = c.loop-end.invariant.size

pub shape_of-prices : goal.shape_of-prices
shape_of-prices c = c.loop-end.invariant.list_size

pub returns : goal.returns
returns c = absurd (omega (arith, c.loop-end.invariant.room, c.loop-end.invariant.long))
