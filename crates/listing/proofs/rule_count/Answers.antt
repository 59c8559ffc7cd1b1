-- A memory that holds no plan, or the count of one that is sound.
use Rattle.std.proofs.lemmas.Result.{err_from_is_err_and}
use Rattle.listing.proofs.Listed.{count_plan, count_given}
use Rattle.listing.proofs.rule_count.Goals as goal

pub returns-in_err-plan : goal.returns-in_err-plan
returns-in_err-plan c = let p = err_from_is_err_and c.from_residual.result c.from_residual.ensures.1 in
    rw (p.1, p.2) (count_plan c.args.plan.now _ c.in_err-plan.ensures.0 c.in_err-plan.ensures.1)

pub returns : goal.returns
returns c = count_given c.args.plan.now c.in_ok-plan.plan _ c.in_ok-plan.ensures c.count_known.ensures
