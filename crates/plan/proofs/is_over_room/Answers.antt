-- The room as read is the plan's.
use mathlib.Core.Path.{ap}
use lib.Dec.{leb}
use Rattle.plan.specs.Layout.{plan_of}
use Rattle.plan.proofs.is_over_room.Goals as goal

pub returns : goal.returns
unfolding plan_of
returns c = ap (λ n. leb n c.args.set.0) c.set_room.ensures.is
