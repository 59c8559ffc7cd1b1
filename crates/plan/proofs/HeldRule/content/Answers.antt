-- A rule of a sound plan names a set that is held.
use mathlib.Core.Path.{◌≡◌, sym, subst}
use mathlib.Core.Bool.{true}
use Rattle.meaning.specs.Basics.{is_some}
use Rattle.meaning.specs.Plan.{held}
use Rattle.meaning.specs.declared.SetNumber.{SetNumber}
use Rattle.plan.specs.Layout.{plan_of}
use Rattle.plan.specs.Readings.{Content}
use Rattle.plan.proofs.PlacedRules.{named_held, content_named}
use Rattle.plan.proofs.HeldRule.content.Goals as goal

pub content-requires : goal.content-requires
content-requires c = subst (λ (s : SetNumber). is_some (held (plan_of c.args.self.plan.memory.now) s.0) ≡ true) (sym c.set.ensures) (named_held c.args.self.plan.memory.now c.args.self.place.0 c.args.self.held c.args.self.plan.sound)

pub returns : goal.returns
returns c = content_named c.args.self.plan.memory.now c.args.self.place.0 c.args.self.held _ c.args.self.plan.sound
    (subst (λ (s : SetNumber). Content (plan_of c.args.self.plan.memory.now) s.0 c.content.result.now) c.set.ensures c.content.ensures)
