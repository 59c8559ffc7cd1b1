-- What a body that gives a filter in range says, over a sound plan: the filter's bytes, and its place among the plan's rules.
use Prim.Native.Nat.{ℕ, ◌≤◌}
use mathlib.Core.Path.{◌≡◌, refl, ap, sym, ◌∙◌}
use mathlib.Core.Bool.{Bool, true, false, ◌||◌, not, true≢false}
use mathlib.Core.List.{List}
use mathlib.Core.Option.{Option, none, some}
use native.Mathlib.Omega.{arith}
use lib.ListN.{length, take}
use lib.Seq.{take-take, length-take-le}
use lib.Dec.{T}
use Rattle.meaning.specs.Sizes.{FILTER-BYTES, RULE-BODY}
use Rattle.meaning.specs.Basics.{any, is_some}
use Rattle.meaning.specs.Filters.{Filter, filter_of, filter_in_range}
use Rattle.meaning.specs.Rules.{Rule, has_filter, rules_in_order}
use Rattle.meaning.specs.Plan.{fits_held}
use Rattle.meaning.specs.Calls.{code_given, holds_filter}
use Rattle.std.specs.Prelude.{Result, Ok, Err, is_ok}
use Rattle.meaning.specs.declared.RulePlace.{RulePlace}
use Rattle.meaning.proofs.Tests.{is_true, true_is, false_is, or_right_false, not_not}
use Rattle.filter.specs.Slots.{FilterBytes}
use Rattle.filter.specs.Place.{Place, held, absent, filter_place, place_given}
use Rattle.filter.proofs.FilterLaws.{range_bytes}
use Rattle.filter.proofs.PlaceLaws.{AbsentAt, HeldAt, absent_at, held_at_lem}
use Rattle.plan.specs.Layout.{plan_of}
use Rattle.plan.specs.State.{sound_of}
use Rattle.plan.proofs.ReadLaws.{sound_is}
use Rattle.rule_changes.specs.Places.{place_number, GivesFilter}

-- RANGE passed
pub in_range : {b : List ℕ} {r : Bool} (over : Bool) → length b ≡ RULE-BODY → r ≡ (over || not (filter_in_range (code_given b))) → r ≡ false → GivesFilter b
in_range {b} over size e h =
    let range : Bool = filter_in_range (code_given b) in
    record { whole = omega arith; range = is_true range (not_not range (or_right_false over (not range) (false_is (over || not range) (sym e ∙ h)))) }

-- the bytes of a filter in range
pub code_bytes : (b : List ℕ) → FILTER-BYTES ≤ length b → filter_in_range (code_given b) ≡ true → FilterBytes (code_given b)
code_bytes b h e =
    let size : length (take FILTER-BYTES b) ≡ FILTER-BYTES = length-take-le FILTER-BYTES b h in
    let same : take FILTER-BYTES (take FILTER-BYTES b) ≡ take FILTER-BYTES b = take-take FILTER-BYTES FILTER-BYTES b (omega arith) in
    range_bytes (take FILTER-BYTES b) (omega arith) (true_is _ (ap filter_in_range same ∙ e))

-- a set that is not held fits no filter
pub none_fits : (f : Filter) (o : Option (List ℕ)) → is_some o ≡ false → false ≡ fits_held f o
none_fits f none e = refl
none_fits f (some c) e = absurd (true≢false e)

module _ (m b : List ℕ) (s : sound_of m ≡ true) (g : GivesFilter b) where
  abbrev f : Filter
  f = filter_of (code_given b)

  order : T (rules_in_order (plan_of m).rules)
  order = (sound_is m s).plan.order

  -- by the answer of the lookup
  module _ (r : Result RulePlace RulePlace) (e : place_given r ≡ filter_place (filter_of (code_given b)) (plan_of m).rules) where
    pub filter_held : is_ok r ≡ holds_filter (plan_of m) (code_given b)
    filter_held = go r refl
      where
        go : (x : Result RulePlace RulePlace) → r ≡ x → is_ok x ≡ holds_filter (plan_of m) (code_given b)
        go (Ok k) q = sym (held_at_lem f (plan_of m).rules k.0 order (sym e ∙ ap place_given q)).some_has
        go (Err k) q = sym (absent_at f (plan_of m).rules k.0 order (sym e ∙ ap place_given q)).none_has

-- where no rule has the filter, and where one has
module _ (f : Filter) (rs : List Rule) (order : T (rules_in_order rs)) where
  pub placed_absent : any (has_filter f) rs ≡ false → AbsentAt f rs (place_number (filter_place f rs))
  placed_absent e = go (filter_place f rs) (λ k q. absent_at f rs k order q) (λ k q. held_at_lem f rs k order q)
    where
      go : (p : Place) → ((k : ℕ) → p ≡ absent k → AbsentAt f rs k) → ((k : ℕ) → p ≡ held k → HeldAt f rs k) → AbsentAt f rs (place_number p)
      go (held k) a h = absurd (let z : true ≡ false = sym (h k refl).some_has ∙ e in true≢false z)
      go (absent k) a h = a k refl

  pub placed_held : any (has_filter f) rs ≡ true → HeldAt f rs (place_number (filter_place f rs))
  placed_held e = go (filter_place f rs) (λ k q. absent_at f rs k order q) (λ k q. held_at_lem f rs k order q)
    where
      go : (p : Place) → ((k : ℕ) → p ≡ absent k → AbsentAt f rs k) → ((k : ℕ) → p ≡ held k → HeldAt f rs k) → HeldAt f rs (place_number p)
      go (held k) a h = h k refl
      go (absent k) a h = absurd (let z : true ≡ false = sym e ∙ (a k refl).none_has in true≢false z)
