-- The choice over a sound plan.
use Rattle.std.specs.Prelude.{ℕ, ◌≡◌, List, Option}
use Rattle.meaning.specs.Rules.{chosen_place}
use Rattle.meaning.specs.Answers.{place_chosen}
use Rattle.meaning.specs.declared.RulePlace.{RulePlace}
use Rattle.plan.specs.Layout.{plan_of}

-- the place of the rule chosen, over a sound plan
abbrev pub ChoicePromise : List ℕ → ℕ → List ℕ → Option RulePlace → Type 0
ChoicePromise m class ds c = place_chosen c ≡ chosen_place class ds (plan_of m).rules
