-- KIND for a byte that is no call's; else the call of its kind.
use mathlib.Core.Path.{refl, ap, ◌∙◌}
use Rattle.std.specs.Prelude.{Ok}
use Rattle.meaning.specs.Calls.{is_call}
use Rattle.meaning.proofs.Telling.{kind_told, kind_untold, no_call}
use Rattle.changes.proofs.PromiseLaws.{opens_kind, edits_kind, no_kind, other_kind}
use Rattle.provision.proofs.carry_out.Goals as goal

pub returns-in-Ok-Opening : goal.returns-in-Ok-Opening
returns-in-Ok-Opening c = opens_kind (kind_told c.try_from.ensures (c.in-Ok-Opening.is ∙ ap Ok c.in-Ok-Opening.field-0-is)) c.opening.ensures

pub returns-in-Ok-Edit : goal.returns-in-Ok-Edit
returns-in-Ok-Edit c = edits_kind _ (kind_told c.try_from.ensures (c.in-Ok-Edit.is ∙ ap Ok c.in-Ok-Edit.field-0-is)) c.change.ensures

pub returns-in-Ok-Number : goal.returns-in-Ok-Number
unfolding is_call
returns-in-Ok-Number c = other_kind (kind_told c.try_from.ensures (c.in-Ok-Number.is ∙ ap Ok c.in-Ok-Number.field-0-is)) refl

pub returns-in-Ok-Refs : goal.returns-in-Ok-Refs
unfolding is_call
returns-in-Ok-Refs c = other_kind (kind_told c.try_from.ensures (c.in-Ok-Refs.is ∙ ap Ok c.in-Ok-Refs.field-0-is)) refl

pub returns-in-Ok-List : goal.returns-in-Ok-List
unfolding is_call
returns-in-Ok-List c = other_kind (kind_told c.try_from.ensures (c.in-Ok-List.is ∙ ap Ok c.in-Ok-List.field-0-is)) refl

pub returns-in-Ok-Call : goal.returns-in-Ok-Call
unfolding is_call
returns-in-Ok-Call c = other_kind (kind_told c.try_from.ensures (c.in-Ok-Call.is ∙ ap Ok c.in-Ok-Call.field-0-is)) refl

pub returns-in-Ok-Price : goal.returns-in-Ok-Price
unfolding is_call
returns-in-Ok-Price c = other_kind (kind_told c.try_from.ensures (c.in-Ok-Price.is ∙ ap Ok c.in-Ok-Price.field-0-is)) refl

pub returns-in-Ok-Losses : goal.returns-in-Ok-Losses
unfolding is_call
returns-in-Ok-Losses c = other_kind (kind_told c.try_from.ensures (c.in-Ok-Losses.is ∙ ap Ok c.in-Ok-Losses.field-0-is)) refl

pub returns-in-Err : goal.returns-in-Err
returns-in-Err c = no_kind (no_call c.args.kind (kind_untold c.args.kind c.try_from.ensures c.in-Err.is))
