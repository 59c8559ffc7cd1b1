-- A place behind the last, or the rule that is there.
use mathlib.Core.Path.{ap, ◌∙◌}
use Rattle.std.specs.Result.{result_ok}
use Rattle.std.proofs.lemmas.Result.{err_from_is_err_and}
use Rattle.listing.proofs.Listed.{none_there, one_there}
use Rattle.listing.proofs.rule_known.Goals as goal

pub returns-in_err-rule : goal.returns-in_err-rule
returns-in_err-rule c = let p = err_from_is_err_and c.from_residual.result c.from_residual.ensures.1 in
    rw (p.1, p.2) (none_there c.args.plan.memory.now c.args.place _ c.rule.ensures _ c.ok_or.ensures.value _ c.in_err-rule.was)

pub returns : goal.returns
returns c = one_there c.args.plan.memory.now c.args.place _ c.rule.ensures _ (c.ok_or.ensures.ok_part ∙ ap result_ok c.in_ok-rule.was) _ c.held_at.ensures
