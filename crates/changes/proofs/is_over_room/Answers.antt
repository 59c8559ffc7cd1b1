-- The number as read is the set's.
use mathlib.Core.Path.{ap, ◌∙◌}
use Rattle.meaning.specs.Reads.{over_room}
use Rattle.meaning.specs.declared.SetNumber.{SetNumber}
use Rattle.plan.specs.Layout.{plan_of}
use Rattle.changes.proofs.is_over_room.Goals as goal

pub returns : goal.returns
returns c = let m = c.args.plan.memory.now in
    c.is_over_room.ensures ∙ ap (λ (n : SetNumber). over_room (plan_of m) n.0) c.set_number.ensures
