-- What the byte says as an outgoing class decides.
use mathlib.Core.Path.{ap, ◌∙◌}
use Rattle.std.specs.Prelude.{Ok}
use Rattle.number.proofs.Classes.{class_is}
use Rattle.number.proofs.outgoing_class.Goals as goal

pub returns-in-Ok-Given : goal.returns-in-Ok-Given
returns-in-Ok-Given c = c.from.ensures ∙ class_is c.args.set c.args.incoming _ _ c.try_from.ensures (c.in-Ok-Given.is ∙ ap Ok c.in-Ok-Given.field-0-is)

pub returns-in-Ok-AsIncoming : goal.returns-in-Ok-AsIncoming
returns-in-Ok-AsIncoming c = class_is c.args.set c.args.incoming _ _ c.try_from.ensures (c.in-Ok-AsIncoming.is ∙ ap Ok c.in-Ok-AsIncoming.field-0-is)

pub returns-in-Err : goal.returns-in-Err
returns-in-Err c = class_is c.args.set c.args.incoming _ _ c.try_from.ensures c.in-Err.is
