-- The number as read is the set's.
use mathlib.Core.Path.{ap, ◌∙◌}
use Rattle.meaning.specs.Basics.{is_some}
use Rattle.meaning.specs.Plan.{held}
use Rattle.meaning.specs.declared.SetNumber.{SetNumber}
use Rattle.plan.specs.Layout.{plan_of}
use Rattle.changes.proofs.is_held.Goals as goal

pub returns : goal.returns
returns c = let m = c.args.plan.memory.now in
    c.is_held.ensures ∙ ap (λ (n : SetNumber). is_some (held (plan_of m) n.0)) c.set_number.ensures
