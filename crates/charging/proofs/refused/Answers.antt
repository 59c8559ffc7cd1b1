-- The number, and every other field 0.
use mathlib.Core.Path.{ap}
use Rattle.meaning.specs.declared.Answered.{Answered}
use Rattle.charging.specs.Promises.{taken_as}
use Rattle.charging.proofs.refused.Goals as goal

pub returns : goal.returns
returns c = ap (λ (a : Answered). taken_as a c.args.whole) c.refuse.ensures
