-- The rules of the area are the plan's.
use mathlib.Core.Path.{ap, ◌∙◌}
use mathlib.Core.List.{List}
use Prim.Native.Nat.{ℕ}
use Rattle.meaning.specs.Basics.{count}
use Rattle.meaning.specs.Rules.{Rule, names}
use Rattle.meaning.specs.Plan.{referrers}
use Rattle.filter.specs.Slots.{rules_of}
use Rattle.plan.proofs.SoundPlan.referrers.Goals as goal

pub naming-requires : goal.naming-requires
naming-requires c = rw c.rule_count.ensures.is c.rules.ensures.area

pub returns : goal.returns
unfolding referrers
returns c = let rules = c.rules in
    let n = c.args.set.0 in
    c.naming.ensures
    ∙ ap (λ (k : ℕ). count (names n) (rules_of k rules.result.now)) c.rule_count.ensures.is
    ∙ ap (λ (rs : List Rule). count (names n) rs) rules.ensures.rules
