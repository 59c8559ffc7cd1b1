-- What is known of the rule chosen over a sound plan.
use Prim.Native.Nat.{ℕ, ◌<◌}
use mathlib.Core.Path.{◌≡◌, ap, sym, ◌∙◌}
use mathlib.Core.Bool.{true}
use mathlib.Core.List.{List}
use mathlib.Core.Option.{Option, none, some}
use native.Mathlib.Omega.{arith}
use lib.ListN.{length}
use lib.Dec.{T}
use Rattle.std.specs.Prelude.{Option as Optional, Some, None, IfSome, option_map}
use Rattle.meaning.specs.Filters.{fits_number}
use Rattle.meaning.specs.Rules.{Rule, filter_in, chosen_place, chosen, rule_at}
use Rattle.meaning.specs.History.{no_rule}
use Rattle.meaning.specs.Answers.{place_chosen}
use Rattle.meaning.specs.declared.RulePlace.{RulePlace}
use Rattle.meaning.proofs.Choice.{Choice, no_rule as noneFits, the_rule, choice}
use Rattle.buffer.proofs.ListLaws.{element_at}
use Rattle.filter.proofs.RuleLaws.{chosen_within}
use Rattle.plan.specs.Layout.{rule_count, plan_of}
use Rattle.plan.specs.declared.HeldRule.{HeldRule}
use Rattle.plan.specs.State.{sound_of}
use Rattle.plan.proofs.ReadLaws.{sound_is, rule_count_is}
use Rattle.choice.specs.Chosen.{ChoicePromise}
use Rattle.plan.specs.Readings.{rule_placed}

-- the place of a rule chosen is that of a rule held
pub place_held : (m : List ℕ) (class : ℕ) (ds : List ℕ) (o : Optional RulePlace) → ChoicePromise m class ds o → (k : RulePlace) → o ≡ Some k → k.0 < rule_count m
place_held m class ds o c k q = rw (rule_count_is m) (chosen_within class ds (plan_of m).rules k.0 (sym c ∙ ap place_chosen q))

-- the rule at place k is the one chosen
pub record ChosenAt (m : List ℕ) (class : ℕ) (ds : List ℕ) (k : ℕ) : Type 0 where
  pub below : k < rule_count m
  pub is : chosen class ds (plan_of m).rules ≡ some (rule_placed m k)
  pub fits : T (fits_number (filter_in (rule_placed m k)) class ds)

pub chosen_at : (m : List ℕ) (class : ℕ) (ds : List ℕ) (k : ℕ) → sound_of m ≡ true → chosen_place class ds (plan_of m).rules ≡ some k → ChosenAt m class ds k
unfolding chosen
chosen_at m class ds k e c =
    let within : k < length (plan_of m).rules = chosen_within class ds (plan_of m).rules k c in
    let is : rule_at (plan_of m).rules (chosen_place class ds (plan_of m).rules) ≡ some (rule_placed m k) =
    ap (rule_at (plan_of m).rules) c ∙ element_at (plan_of m).rules k no_rule within in
    record { below = rw (rule_count_is m) within; is = is; fits = go (choice class ds (plan_of m).rules (sound_is m e).plan.order) is }
  where
    go : {o : Option Rule} → Choice class ds (plan_of m).rules o → o ≡ some (rule_placed m k) → T (fits_number (filter_in (rule_placed m k)) class ds)
    go (noneFits n) q = absurd (let z : ◌≡◌ {A = ℕ} 0 1 = cc in omega arith)
    go (the_rule x b) q = let same : x ≡ rule_placed m k = cc in rw (← same) b.fits

-- no rule is chosen
pub none_chosen : (m : List ℕ) (class : ℕ) (ds : List ℕ) → chosen_place class ds (plan_of m).rules ≡ none → chosen class ds (plan_of m).rules ≡ none
unfolding chosen
none_chosen m class ds e = ap (rule_at (plan_of m).rules) e

-- what the choice gives: no rule, or the one chosen, of the same plan
module _ (m : List ℕ) (class : ℕ) (ds : List ℕ) (o : Optional HeldRule) (place : ChoicePromise m class ds (option_map (λ (r : HeldRule). r.place) o)) where
  pub no_rule_given : o ≡ None → chosen class ds (plan_of m).rules ≡ none
  no_rule_given q = none_chosen m class ds (sym place ∙ ap (λ (x : Optional HeldRule). place_chosen (option_map (λ (r : HeldRule). r.place) x)) q)

  module _ (plan : IfSome o (λ (r : HeldRule). r.plan.memory.now ≡ m)) (r : HeldRule) (q : o ≡ Some r) where
    pub plan_given : r.plan.memory.now ≡ m
    plan_given = rw q at plan

    pub place_given : chosen_place class ds (plan_of r.plan.memory.now).rules ≡ some r.place.0
    place_given = rw plan_given (sym place ∙ ap (λ (x : Optional HeldRule). place_chosen (option_map (λ (y : HeldRule). y.place) x)) q)

    pub rule_given : ChosenAt r.plan.memory.now class ds r.place.0
    rule_given = chosen_at r.plan.memory.now class ds r.place.0 r.plan.sound place_given
