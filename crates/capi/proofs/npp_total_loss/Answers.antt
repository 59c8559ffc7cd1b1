-- The fields of the loss that is read.
use mathlib.Core.Path.{ap, ◌∙◌}
use borrow.Author.Rules.{rules}
use Rattle.capi.specs.Given.{loss_as}
use Rattle.capi.proofs.npp_total_loss.Goals as goal

pub returns : goal.returns
returns c = c.from.ensures ∙ ap loss_as c.total_loss.ensures
