-- A rule that is chosen for a number in range, over a sound plan.
use Rattle.std.specs.Prelude.{ℕ, ◌≡◌, true, List}
use Rattle.std.proofs.Math.Option.{some}
use Rattle.meaning.specs.Settings.{dialled_in_range}
use Rattle.meaning.specs.Rules.{chosen}
use Rattle.plan.specs.Layout.{plan_of}
use Rattle.plan.specs.Readings.{rule_placed}

-- the rule at place k is the one chosen for the digits, in their class
pub record Applies (m : List ℕ) (k : ℕ) (ds : List ℕ) : Type 0 where
  pub class : ℕ
  pub in_range : dialled_in_range class ds ≡ true
  pub rule : chosen class ds (plan_of m).rules ≡ some (rule_placed m k)
