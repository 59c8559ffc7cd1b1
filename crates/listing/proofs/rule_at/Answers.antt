-- A memory that holds no plan, or the rule of one that is sound.
use Rattle.std.proofs.lemmas.Result.{err_from_is_err_and}
use Rattle.listing.proofs.Listed.{listed_plan, listed_known}
use Rattle.listing.proofs.rule_at.Goals as goal

pub returns-in_err-plan : goal.returns-in_err-plan
returns-in_err-plan c = let p = err_from_is_err_and c.from_residual.result c.from_residual.ensures.1 in
    rw (p.1, p.2) (listed_plan c.args.plan.now c.args.place.0 _ c.in_err-plan.ensures.0 c.in_err-plan.ensures.1)

pub returns : goal.returns
returns c = listed_known c.args.plan.now c.args.place.0 c.in_ok-plan.plan _ c.in_ok-plan.ensures c.rule_known.ensures
