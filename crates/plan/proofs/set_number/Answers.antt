-- The two bytes as a number, which fits.
use mathlib.Core.Path.{ap}
use Rattle.meaning.specs.Answers.{set_of}
use Rattle.plan.proofs.set_number.Goals as goal

pub returns : goal.returns
returns c = ap set_of c.word.ensures.is
