-- A memory that holds no plan, a buffer that is too small, a number out of range, or the inner call.
use native.Mathlib.Omega.{arith}
use Rattle.std.proofs.lemmas.Result.{err_from_is_err_and}
use Rattle.meaning.proofs.Telling.{told}
use Rattle.reads.proofs.NumberReads.{number_plan, number_room, number_range, number_known}
use Rattle.reads.proofs.conditioned.Goals as goal

pub returns-in_err-plan : goal.returns-in_err-plan
returns-in_err-plan c = let p = err_from_is_err_and c.from_residual.result c.from_residual.ensures.1 in
    rw (p.1, p.2) (number_plan c.args.plan.now c.args.class c.args.digits.now c.args.out.now _ c.in_err-plan.ensures.0 c.in_err-plan.ensures.1)

pub returns-then-out-lt-DIGIT_ROOM : goal.returns-then-out-lt-DIGIT_ROOM
returns-then-out-lt-DIGIT_ROOM c = number_room c.args.plan.now c.args.class c.args.digits.now c.args.out.now c.in_ok-plan.plan c.in_ok-plan.ensures (omega (arith, c.if-out-lt-DIGIT_ROOM.true))

pub returns-then-not-dialled_in_range : goal.returns-then-not-dialled_in_range
returns-then-not-dialled_in_range c = number_range c.args.plan.now c.args.class c.args.digits.now c.args.out.now c.in_ok-plan.plan c.in_ok-plan.ensures c.if-out-lt-DIGIT_ROOM.false
    (told c.dialled_in_range.ensures c.if-not-dialled_in_range.true)

pub returns : goal.returns
returns c = number_known c.args.plan.now c.args.class c.args.digits.now c.args.out.now c.in_ok-plan.plan c.in_ok-plan.ensures c.if-out-lt-DIGIT_ROOM.false
    (told c.dialled_in_range.ensures c.if-not-dialled_in_range.false) _ _ c.conditioned_known.ensures
