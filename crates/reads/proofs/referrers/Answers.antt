-- A memory that holds no plan, or the count over one that is sound.
use mathlib.Core.Path.{◌∙◌}
use Rattle.std.proofs.lemmas.Result.{err_from_is_err_and}
use Rattle.reads.proofs.SetReads.{count_plan, count_known}
use Rattle.reads.proofs.referrers.Goals as goal

pub returns-in_err-plan : goal.returns-in_err-plan
returns-in_err-plan c = let p = err_from_is_err_and c.from_residual.result c.from_residual.ensures.1 in
    rw (p.1, p.2) (count_plan c.args.plan.now c.args.set.0 _ c.in_err-plan.ensures.0 c.in_err-plan.ensures.1)

pub returns : goal.returns
returns c = c.referrers_known.ensures ∙ count_known c.args.plan.now c.args.set.0 c.in_ok-plan.plan c.in_ok-plan.ensures
