-- A memory that holds no plan, a buffer that is too small, or the inner call.
use native.Mathlib.Omega.{arith}
use Rattle.std.proofs.lemmas.Result.{err_from_is_err_and}
use Rattle.reads.proofs.SetReads.{content_plan, content_room, content_known}
use Rattle.reads.proofs.set_content.Goals as goal

pub returns-in_err-plan : goal.returns-in_err-plan
returns-in_err-plan c = let p = err_from_is_err_and c.from_residual.result c.from_residual.ensures.1 in
    rw (p.1, p.2) (content_plan c.args.plan.now c.args.set.0 c.args.out.now _ c.in_err-plan.ensures.0 c.in_err-plan.ensures.1)

pub returns-then-out-lt-SET_BODY : goal.returns-then-out-lt-SET_BODY
returns-then-out-lt-SET_BODY c = content_room c.args.plan.now c.args.set.0 c.args.out.now c.in_ok-plan.plan c.in_ok-plan.ensures (omega (arith, c.if-out-lt-SET_BODY.true))

pub returns : goal.returns
returns c = content_known c.args.plan.now c.args.set.0 c.args.out.now c.in_ok-plan.plan c.in_ok-plan.ensures _ _ c.set_content_known.ensures
