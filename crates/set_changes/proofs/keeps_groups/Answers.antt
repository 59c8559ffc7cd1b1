-- The content is the body's.
use mathlib.Core.List.{List}
use Prim.Native.Nat.{ℕ}
use mathlib.Core.Path.{ap, ◌∙◌}
use Rattle.meaning.specs.Actions.{actions_of}
use Rattle.meaning.specs.Groups.{groups_hold}
use Rattle.set_changes.proofs.keeps_groups.Goals as goal

pub returns : goal.returns
returns c = c.groups_hold.ensures ∙ ap (λ (x : List ℕ). groups_hold (actions_of x)) c.content_given.ensures.is
