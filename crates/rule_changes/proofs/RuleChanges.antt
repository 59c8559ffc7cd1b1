-- What an accepted call about a rule makes of the plan, in words of the place that the lookup gives.
use Prim.Native.Nat.{ℕ, ◌≤◌, ◌<◌}
use mathlib.Core.Path.{◌≡◌, refl, ap, ap₂, sym, ◌∙◌}
use mathlib.Core.Bool.{true, false}
use mathlib.Core.List.{List, ◌++◌}
use native.Mathlib.Omega.{arith}
use lib.ListN.{length}
use lib.Dec.{eqb}
use borrow.Author.Tests.{eqb-false}
use Rattle.meaning.specs.Filters.{Filter, filter_of}
use Rattle.meaning.specs.Rules.{Rule, insert, rename, without}
use Rattle.meaning.specs.Plan.{rooms_in, with_rules}
use Rattle.meaning.specs.Calls.{code_given, set_given, rule_given, holds_filter}
use Rattle.meaning.specs.Answers.{set_of}
use Rattle.meaning.specs.declared.SetNumber.{SetNumber}
use Rattle.meaning.specs.declared.RulePlace.{RulePlace}
use Rattle.buffer.specs.Slots.{insert_at, remove_at}
use Rattle.filter.specs.Place.{filter_place}
use Rattle.filter.proofs.PlaceLaws.{AbsentAt, HeldAt}
use Rattle.plan.specs.Layout.{image, rule_count, rule_room, plan_of}
use Rattle.plan.specs.State.{sound_of, rest_of}
use Rattle.plan.specs.Edits.{rule_with, renamed_at}
use Rattle.plan.proofs.ReadLaws.{rule_count_is, numbers, sound_is}
use Rattle.rule_changes.specs.Places.{place_number, GivesFilter}
use Rattle.rule_changes.proofs.Given.{placed_absent, placed_held}

-- the rules of a plan replaced: what is left of the memory by two names of them
other_rules : (m : List ℕ) {rs ss : List Rule} → rs ≡ ss → image (with_rules rs (plan_of m)) ++ rest_of m ≡ image (with_rules ss (plan_of m)) ++ rest_of m
other_rules m e = ap (λ (x : List Rule). image (with_rules x (plan_of m)) ++ rest_of m) e

-- there is room for one more rule where they are not as many as the room
pub room_left : (m : List ℕ) → sound_of m ≡ true → eqb (length (plan_of m).rules) (rooms_in (plan_of m)).rules ≡ false → rule_count m < rule_room m
unfolding plan_of
room_left m s e =
    let full = eqb-false (length (plan_of m).rules) (rule_room m) e in
    let most : rule_count m ≤ rule_room m = (numbers m s).count_most in
    let count : rule_count m ≡ length (plan_of m).rules = rule_count_is m in
    omega (arith, full)

-- the count of rules and the room for them as read
pub full_is : (m : List ℕ) (n k : ℕ) → n ≡ rule_count m → k ≡ rule_room m → eqb n k ≡ eqb (length (plan_of m).rules) (rooms_in (plan_of m)).rules
unfolding plan_of
full_is m n k a e = ap₂ eqb (a ∙ rule_count_is m) e

module _ (m b : List ℕ) (s : sound_of m ≡ true) (g : GivesFilter b) (k : RulePlace) (k-is : k.0 ≡ place_number (filter_place (filter_of (code_given b)) (plan_of m).rules)) where
  abbrev f : Filter
  f = filter_of (code_given b)

  -- a rule has the filter
  module _ (there : holds_filter (plan_of m) (code_given b) ≡ true) where
    held_here : HeldAt f (plan_of m).rules k.0
    held_here = rw k-is (placed_held f (plan_of m).rules (sound_is m s).plan.order there)

    pub held_below : k.0 < rule_count m
    held_below = rw (rule_count_is m) held_here.within

    pub removed : {after : List ℕ} → after ≡ image (with_rules (remove_at k.0 (plan_of m).rules) (plan_of m)) ++ rest_of m
        → after ≡ image (with_rules (without f (plan_of m).rules) (plan_of m)) ++ rest_of m
    removed e = e ∙ other_rules m (sym held_here.removed)

    pub renamed : {n : SetNumber} {after : List ℕ} → n ≡ set_of (set_given b) → after ≡ image (with_rules (renamed_at k.0 n.0 (plan_of m).rules) (plan_of m)) ++ rest_of m
        → after ≡ image (with_rules (rename f (set_given b) (plan_of m).rules) (plan_of m)) ++ rest_of m
    renamed n-is e = e ∙ other_rules m (ap (λ (x : SetNumber). renamed_at k.0 x.0 (plan_of m).rules) n-is ∙ sym (held_here.renamed (set_given b)))

  -- none has
  module _ (none : holds_filter (plan_of m) (code_given b) ≡ false) where
    absent_here : AbsentAt f (plan_of m).rules k.0
    absent_here = rw k-is (placed_absent f (plan_of m).rules (sound_is m s).plan.order none)

    pub absent_within : k.0 ≤ rule_count m
    absent_within = rw (rule_count_is m) absent_here.within

    pub inserted : {n : SetNumber} {code after : List ℕ} → n ≡ set_of (set_given b) → code ≡ code_given b
        → after ≡ image (with_rules (insert_at k.0 (rule_with code n.0) (plan_of m).rules) (plan_of m)) ++ rest_of m
        → after ≡ image (with_rules (insert (rule_given b) (plan_of m).rules) (plan_of m)) ++ rest_of m
    inserted n-is code_is e =
        e ∙ other_rules m (ap₂ (λ (x : SetNumber) (c : List ℕ). insert_at k.0 (rule_with c x.0) (plan_of m).rules) n-is code_is
        ∙ sym (absent_here.inserted (rule_given b) refl))
