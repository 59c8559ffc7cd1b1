-- A set is named exactly if the rules naming it are not 0.
use mathlib.Core.Path.{ap, ◌∙◌}
use Rattle.meaning.specs.Plan.{referrers}
use Rattle.meaning.specs.declared.SetNumber.{SetNumber}
use Rattle.plan.specs.Layout.{plan_of}
use Rattle.set_changes.proofs.LineLaws.{in_use}
use Rattle.set_changes.proofs.is_named.Goals as goal

pub returns : goal.returns
returns c = let p = plan_of c.args.plan.memory.now in
    in_use p _ _ (c.referrers.ensures ∙ ap (λ (n : SetNumber). referrers p n.0) c.set_number.ensures)
