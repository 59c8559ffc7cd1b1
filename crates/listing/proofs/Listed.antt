-- How many rules are listed and the rule at a place, by what was read of the plan.
use Prim.Native.Nat.{ℕ, zero, suc, ◌+◌, ◌-◌, ◌≤◌, ◌<◌}
use mathlib.Core.Path.{◌≡◌, refl, ap, sym, ◌∙◌}
use mathlib.Core.Bool.{false}
use mathlib.Core.List.{List, ◌++◌}
use mathlib.Core.Option.{none, some}
use native.Mathlib.Nat.{sub-zero}
use native.Mathlib.Omega.{arith}
use Rattle.std.specs.Prelude.{Option as Optional, Some, None, Result, Ok, Err, MatchOption, ok_or}
use Rattle.std.proofs.lemmas.Option.{MatchOption-at_some}
use lib.ListN.{length, take, drop, get_or, get_elem?, replicate, length-map, get_or-map}
use Rattle.meaning.specs.Sizes.{CLASS-AT, PREFIX-AT, PREFIX-DIGITS-AT, LENGTH-AT}
use Rattle.meaning.specs.Basics.{written_over, padded}
use Rattle.meaning.specs.Refusals.{RANGE}
use Rattle.meaning.specs.Filters.{Filter, filter_of}
use Rattle.meaning.specs.Rules.{filter_in}
use Rattle.meaning.specs.Plan.{Plan}
use Rattle.meaning.specs.History.{no_rule}
use Rattle.meaning.specs.Reads.{listed, listing, listed_or, rule_at_place}
use Rattle.meaning.specs.Answers.{set_of, rule_listed, rule_given, rule_wanted}
use Rattle.meaning.specs.declared.SetNumber.{SetNumber}
use Rattle.meaning.specs.declared.RulePlace.{RulePlace}
use Rattle.meaning.specs.declared.Refusal.TheVariants.{Plan as NoPlan, Range}
use Rattle.meaning.specs.declared.Refusal.{Refusal}
use Rattle.meaning.specs.declared.ListedRule.{ListedRule}
use Rattle.buffer.proofs.ListLaws.{element_at, no_element}
use Rattle.filter.proofs.FilterLaws.{prefix_is}
use Rattle.plan.specs.Layout.{rule_count, plan_of}
use Rattle.plan.specs.State.{sound_of}
use Rattle.plan.proofs.ReadLaws.{rule_count_is}
use Rattle.plan.proofs.ImageLaws.{state_some, state_none}
use Rattle.plan.specs.declared.SoundPlan.{SoundPlan}
use Rattle.plan.specs.declared.HeldRule.{HeldRule}
use Rattle.plan.specs.Readings.{RuleSlot, rule_placed}
use Rattle.plan.proofs.PlacedRules.{slot_prefix}
use Rattle.listing.specs.Promises.{CountPromise, ListedPromise}

-- LISTS

module _ {A : Type 0} where
  drop_replicate : (k n : ℕ) (a : A) → drop k (replicate n a) ≡ replicate (n - k) a
  drop_replicate zero n a = simp sub-zero
  drop_replicate (suc k) zero a = let e : zero - suc k ≡ 0 = omega arith in rw e
  drop_replicate (suc k) (suc n) a = let e : suc n - suc k ≡ n - k = omega arith in rw e (drop_replicate k n a)

-- THE COUNT

-- as many as the plan's count says
pub length_listing : (m : List ℕ) → rule_count m ≡ length (listing (plan_of m))
unfolding listing
length_listing m = rule_count_is m ∙ sym (length-map (plan_of m).rules listed)

-- a memory that holds no plan, and one that holds the plan p
module _ (m : List ℕ) where
  pub count_plan : (f : Refusal) → f ≡ NoPlan → sound_of m ≡ false → CountPromise m (Err f)
  count_plan f q e = rw (q, state_none m e)

  pub count_given : (p : SoundPlan) (n : ℕ) → p.memory.now ≡ m → n ≡ length (listing (plan_of p.memory.now)) → CountPromise m (Ok n)
  count_given p n same is = rw (← same, state_some p.memory.now p.sound, is)

-- THE RULE AT A PLACE

module _ (m : List ℕ) (k : ℕ) where
  pub listed_plan : (f : Refusal) → f ≡ NoPlan → sound_of m ≡ false → ListedPromise m k (Err f)
  listed_plan f q e = rw (q, state_none m e)

  pub listed_known : (p : SoundPlan) (r : Result ListedRule Refusal) → p.memory.now ≡ m
      → rule_given r ≡ rule_wanted (rule_at_place (some (plan_of p.memory.now)) k) → ListedPromise m k r
  listed_known p r same is = rw (← same, state_some p.memory.now p.sound) is

-- a place behind the last
pub place_over : (p : Plan) (k : ℕ) → length (listing p) ≤ k → rule_at_place (some p) k ≡ (RANGE, none)
place_over p k h = rw (no_element (listing p) k h)

-- a place that is there
pub place_there : (m : List ℕ) (k : ℕ) → k < rule_count m → rule_at_place (some (plan_of m)) k ≡ (0, some (listed (rule_placed m k)))
unfolding listing
place_there m k h =
    let l : k < length (listing (plan_of m)) = rw (← length_listing m) h in
    let e : get_elem? (listing (plan_of m)) k ≡ some (listed (rule_placed m k)) =
    element_at (listing (plan_of m)) k (listed no_rule) l ∙ ap some (get_or-map listed (plan_of m).rules k no_rule) in
    ap listed_or e

-- what the plan gives at a place: no rule, or the one that is there
module _ (m : List ℕ) (place : RulePlace) (o : Optional HeldRule)
    (gives : MatchOption o (rule_count m ≤ place.0) (λ (r : HeldRule). (r.plan.memory.now ≡ m) × (r.place ≡ place))) where
  pub none_there : (r : Result HeldRule Refusal) → r ≡ ok_or o Range → (f : Refusal) → r ≡ Err f → rule_given (Err f) ≡ rule_wanted (rule_at_place (some (plan_of m)) place.0)
  none_there r e f q = go o gives (sym e ∙ q)
    where
      go : (x : Optional HeldRule) → MatchOption x (rule_count m ≤ place.0) (λ (y : HeldRule). (y.plan.memory.now ≡ m) × (y.place ≡ place))
          → ok_or x Range ≡ Err f → rule_given (Err f) ≡ rule_wanted (rule_at_place (some (plan_of m)) place.0)
      go None g z =
          let same : Range ≡ f = cc in
          let over : length (listing (plan_of m)) ≤ place.0 = rw (← length_listing m) g in
          rw (← same, place_over (plan_of m) place.0 over)
      go (Some x) g z = absurd cc

  pub one_there : (rule : HeldRule) → o ≡ Some rule → (l : ListedRule) → l ≡ rule_listed (listed (rule_placed rule.plan.memory.now rule.place.0))
      → rule_given (Ok l) ≡ rule_wanted (rule_at_place (some (plan_of m)) place.0)
  one_there rule q l e =
      let same = MatchOption-at_some _ (λ (r : HeldRule). (r.plan.memory.now ≡ m) × (r.place ≡ place)) rule q gives in
      rw (← same.0, ← same.1, place_there rule.plan.memory.now rule.place.0 rule.held, e)

-- digits copied over unused bytes are filled up
pub copied_padded : (n : ℕ) (xs : List ℕ) → written_over xs (replicate n 0) ≡ padded n xs
copied_padded n xs = ap (λ (ys : List ℕ). xs ++ ys) (drop_replicate (length xs) n 0)

-- as it is read from its slot: n is its prefix's length, and `copied` its prefix over unused bytes
pub rule_read : (m s copied : List ℕ) (k n : ℕ) (set : SetNumber) → RuleSlot (rule_placed m k) s → n ≡ get_or s PREFIX-AT 0
    → copied ≡ written_over (take (PREFIX-DIGITS-AT + n - PREFIX-DIGITS-AT) (drop PREFIX-DIGITS-AT s)) (replicate 16 0) → set ≡ set_of (rule_placed m k).set
    → record { class = get_or s CLASS-AT 0; digits = get_or s PREFIX-AT 0; prefix = copied; length = get_or s LENGTH-AT 0; set = set } ≡ rule_listed (listed (rule_placed m k))
unfolding filter_of
rule_read m s copied k n set slot n-is copied_is set_is =
    let f : Filter = filter_in (rule_placed m k) in
    let c : get_or s CLASS-AT 0 ≡ f.class = ap (λ (g : Filter). g.class) slot.filter in
    let d : get_or s PREFIX-AT 0 ≡ length f.prefix = (slot_prefix (rule_placed m k) s (get_or s PREFIX-AT 0) slot refl).is in
    let w : PREFIX-DIGITS-AT + n - PREFIX-DIGITS-AT ≡ get_or s PREFIX-AT 0 = omega (arith, n-is) in
    let ds : take (PREFIX-DIGITS-AT + n - PREFIX-DIGITS-AT) (drop PREFIX-DIGITS-AT s) ≡ f.prefix =
    ap (λ (j : ℕ). take j (drop PREFIX-DIGITS-AT s)) w ∙ (sym (prefix_is s slot.bytes) ∙ ap (λ (g : Filter). g.prefix) slot.filter) in
    let p : copied ≡ padded 16 f.prefix = copied_is ∙ (ap (λ (xs : List ℕ). written_over xs (replicate 16 0)) ds ∙ copied_padded 16 f.prefix) in
    let l : get_or s LENGTH-AT 0 ≡ f.len = ap (λ (g : Filter). g.len) slot.filter in
    λ i. record { class = c i; digits = d i; prefix = p i; length = l i; set = set_is i }
