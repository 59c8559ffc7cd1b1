-- The part of the header is the definition's own.
use mathlib.Core.Path.{refl}
use Rattle.plan.specs.Layout.{plan_of}
use Rattle.plan.proofs.settings.Goals as goal

pub returns : goal.returns
unfolding plan_of
returns c = refl
