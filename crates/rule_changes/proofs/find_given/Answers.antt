-- The rules of the plan are those of its rule area.
use mathlib.Core.Path.{ap₂, ◌∙◌}
use mathlib.Core.List.{List}
use Prim.Native.Nat.{ℕ}
use Rattle.meaning.specs.Filters.{filter_of}
use Rattle.meaning.specs.Rules.{Rule}
use Rattle.filter.specs.Place.{filter_place}
use Rattle.plan.proofs.PlacedRules.{area_is, rules_are}
use Rattle.rule_changes.proofs.Given.{code_bytes}
use Rattle.rule_changes.proofs.find_given.Goals as goal

pub find-requires : goal.find-requires
find-requires c =
    record {
      rule_area = area_is c.args.plan.memory.now _ _ c.rules.ensures c.rule_count.ensures.is;
      filter_bytes = rw c.code_given.ensures.is (code_bytes c.args.body.now c.requires.whole c.requires.range);
    }

pub returns : goal.returns
returns c = c.find.ensures
    ∙ ap₂ (λ (code : List ℕ) (rules : List Rule). filter_place (filter_of code) rules) c.code_given.ensures.is
    (rules_are c.args.plan.memory.now _ _ c.rules.ensures c.rule_count.ensures.is)
