-- A memory that is not sound, or the comparison of two that are.
use Rattle.std.proofs.lemmas.Result.{err_from_is_err_and}
use Rattle.compare.proofs.Compared.{left_unsound, right_unsound, both_sound}
use Rattle.compare.proofs.compare.Goals as goal

pub returns-in_err-left : goal.returns-in_err-left
returns-in_err-left c = let p = err_from_is_err_and c.from_residual.result c.from_residual.ensures.1 in
    rw (p.1, p.2) (left_unsound c.args.left.now c.args.right.now c.args.out.now _ c.in_err-left.ensures.0 c.in_err-left.ensures.1)

pub returns-in_err-right : goal.returns-in_err-right
returns-in_err-right c = let p = err_from_is_err_and c.from_residual-in_err-right.result c.from_residual-in_err-right.ensures.1 in
    rw (p.1, p.2) (right_unsound c.args.left.now c.args.right.now c.args.out.now c.in_ok-left.left c.in_ok-left.ensures _ c.in_err-right.ensures.0 c.in_err-right.ensures.1)

pub returns : goal.returns
returns c = both_sound c.args.left.now c.args.right.now c.args.out.now c.in_ok-left.left c.in_ok-left.ensures c.in_ok-right.right c.in_ok-right.ensures _ _ c.compare_known.ensures
