-- An edit is refused over no plan, and made over one.
use mathlib.Core.Path.{◌∙◌}
use Rattle.run.proofs.RunLaws.{changed_edit, unopened}
use Rattle.run.proofs.change.Goals as goal

pub returns-then-not-opened : goal.returns-then-not-opened
returns-then-not-opened c = unopened c.args.edit c.args.plan.now c.args.body.now c.requires.1 (c.requires.0.state ∙ c.if-not-opened.true)

pub change_known-requires : goal.change_known-requires
change_known-requires c = record { sound = c.requires.0.state ∙ c.if-not-opened.false; whole = c.requires.1 }

pub returns : goal.returns
returns c = changed_edit c.args.edit c.args.plan.now c.args.body.now _ _ c.change_known.ensures
