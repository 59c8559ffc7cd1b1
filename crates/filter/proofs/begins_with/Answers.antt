-- The library's test of a prefix.
use mathlib.Core.Path.{◌∙◌}
use Rattle.filter.proofs.FilterLaws.{begins_as}
use Rattle.filter.proofs.begins_with.Goals as goal

pub returns : goal.returns
returns c = c.starts_with.ensures.value ∙ begins_as c.args.prefix.now c.args.digits.now
