-- The rule at a place stands in the area's slot of that number.
use mathlib.Core.Path.{ap, sym, ◌∙◌}
use mathlib.Core.List.{List}
use native.Mathlib.Omega.{arith}
use lib.ListN.{get_or}
use Rattle.meaning.specs.Rules.{Rule}
use Rattle.meaning.specs.History.{no_rule}
use Rattle.meaning.specs.Answers.{set_of}
use Rattle.plan.specs.Layout.{rule_count}
use Rattle.plan.proofs.ReadLaws.{rule_there}
use Rattle.plan.proofs.HeldRule.set.Goals as goal

pub set_at-requires : goal.set_at-requires
set_at-requires c = omega (arith, c.rules.ensures.area.room)

pub returns : goal.returns
returns c = let k = c.args.self.place.0 in
    let rules = c.rules in
    c.set_at.ensures
    ∙ ap (λ (r : Rule). set_of r.set) (sym (rule_there (rule_count c.args.self.plan.memory.now) k rules.result.now c.args.self.held) ∙ ap (λ (rs : List Rule). get_or rs k no_rule) rules.ensures.rules)
