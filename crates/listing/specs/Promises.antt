-- What the listing promises, for any plan memory and any place.
use Rattle.std.specs.Prelude.{ℕ, ◌≡◌, List, Result}
use Rattle.meaning.specs.Reads.{rule_count, rule_at_place}
use Rattle.meaning.specs.Answers.{count_of, rule_given, rule_wanted}
use Rattle.meaning.specs.declared.Refusal.{Refusal}
use Rattle.meaning.specs.declared.ListedRule.{ListedRule}
use Rattle.plan.specs.State.{state_of}

abbrev pub CountPromise : List ℕ → Result ℕ Refusal → Type 0
CountPromise m r = count_of r ≡ rule_count (state_of m)

-- every field of the rule at a place of the listing
abbrev pub ListedPromise : List ℕ → ℕ → Result ListedRule Refusal → Type 0
ListedPromise m k r = rule_given r ≡ rule_wanted (rule_at_place (state_of m) k)
