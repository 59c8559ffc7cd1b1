-- A byte is a kind exactly if it is one of them.
use mathlib.Core.Path.{◌∙◌}
use Rattle.meaning.proofs.Telling.{kind_known}
use Rattle.meaning.proofs.kinds.is_kind.Goals as goal

pub returns : goal.returns
returns c = c.is_ok.ensures.value ∙ kind_known c.args.kind c.try_from.result c.try_from.ensures
