-- Between two turns a chain of them has been taken (`Copying`).
use mathlib.Core.Path.{◌≡◌, ap, ◌∙◌}
use lib.ListN.{length}
use mir.Syntax.{w32}
use mir.Val.{to_z}
use borrow.Author.Rules.{rules}
use Rattle.buffer.specs.Zeros.{zeros}
use Rattle.record.specs.Promises.{lent}
use Rattle.stream.proofs.Copying.{Copying, first_is, copying_start, copying_more, copying_last, copying_spent, never, as_lent}
use Rattle.stream.specs.declared.Rest.{Rest}
use Rattle.stream.specs.declared.Turned.TheVariants.{Goes}
use Rattle.stream.proofs.copy.Goals as goal

pub loop-turns-init : goal.loop-turns-init
loop-turns-init g c = let e = c.begin-run.ensures in
    copying_start (length c.args.plan.now) (first_is e.run_is c.new.ensures c.new-2.ensures) e.no_plan (e.no_rows ∙ ap zeros c.requires.in_bounds.1) e.no_records
    c.requires.in_bounds.0 c.requires.in_bounds.2 c.requires.in_bounds.3 c.requires.small_buffers.0 c.requires.small_buffers.1

pub turn-t-requires : goal.turn-t-requires
turn-t-requires g c = c.loop-turns.invariant.ready

pub shape_of-plan-in_default : goal.shape_of-plan-in_default
shape_of-plan-in_default g c = search (rules, c.loop-turns.invariant.plan_size)

pub shape_of-prices-in_default : goal.shape_of-prices-in_default
shape_of-prices-in_default g c = search (rules, c.loop-turns.invariant.list_size)

pub shape_of-input-in_default : goal.shape_of-input-in_default
shape_of-input-in_default g c = search (rules, c.loop-turns.invariant.input_size)

pub shape_of-output-in_default : goal.shape_of-output-in_default
shape_of-output-in_default g c = search (rules, c.loop-turns.invariant.output_size)

pub returns-in_default : goal.returns-in_default
returns-in_default g c = let t = c.turn-t in
    let none : (next : Rest) → t.result ≡ Goes next → ⊥ = λ next e. c.in_default.not-Goes next e in
    as_lent c.ranges.from c.ranges.to c.begin-run.auto.plan (copying_last c.loop-turns.invariant t.ensures none)

pub loop-turns-preserved : goal.loop-turns-preserved
loop-turns-preserved g c = let t = c.turn-t in
    copying_more c.loop-turns.invariant t.ensures c.in-Goes.is c.loop-turns-test.true t.auto.plan t.auto.prices t.auto.input t.auto.output

pub shape_of-plan : goal.shape_of-plan
shape_of-plan g c = search (rules, c.loop-turns.invariant.plan_size)

pub shape_of-prices : goal.shape_of-prices
shape_of-prices g c = search (rules, c.loop-turns.invariant.list_size)

pub shape_of-input : goal.shape_of-input
shape_of-input g c = search (rules, c.loop-turns.invariant.input_size)

pub shape_of-output : goal.shape_of-output
shape_of-output g c = search (rules, c.loop-turns.invariant.output_size)

pub returns : goal.returns
returns g c = as_lent c.ranges.from c.ranges.to c.begin-run.auto.plan (copying_spent c.loop-turns.invariant (search rules))
