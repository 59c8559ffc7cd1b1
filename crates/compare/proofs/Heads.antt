-- What stands at two places of two plans, by what was read there.
use Prim.Native.Nat.{ℕ, ◌<◌, Ordering}
use mathlib.Core.Path.{◌≡◌, refl, ap, ap₂, sym, ◌∙◌}
use mathlib.Core.Bool.{Bool, true, false, not}
use mathlib.Core.List.{List}
use native.Mathlib.Omega.{arith}
use lib.ListN.{length}
use Rattle.meaning.specs.Basics.{same_bytes}
use Rattle.meaning.specs.Filters.{filter_of, compare_filters}
use Rattle.meaning.specs.Rules.{Rule, filter_in}
use Rattle.meaning.specs.Plan.{Plan, held}
use Rattle.meaning.specs.Compare.{LEFT-ONLY, RIGHT-ONLY, same_content, differ}
use Rattle.meaning.specs.Answers.{ordering_of}
use Rattle.std.specs.declared.cmp.Ordering.{Ordering as Compared}
use Rattle.std.specs.declared.cmp.Ordering.TheVariants.{Less, Equal, Greater}
use Rattle.meaning.specs.declared.RulePlace.{RulePlace}
use Rattle.plan.specs.declared.HeldRule.{HeldRule}
use Rattle.plan.specs.Layout.{plan_of}
use Rattle.plan.specs.Readings.{RuleSlot, NamedContent}
use Rattle.plan.proofs.ReadLaws.{rule_count_is}
use Rattle.compare.specs.Steps.{kind_by, kind_at, rule_in, same_content_at, entry_by, listed_by}
use Rattle.compare.specs.Standings.{StandsAt}
use Rattle.compare.specs.declared.Standing.{Standing}
use Rattle.compare.specs.declared.Standing.TheVariants.{LeftOnly, RightOnly, InBoth, Alike}
use Rattle.compare.proofs.Steps.{both_there}

-- a rule that a plan gave for a place is there
pub rule_stands : (m : List ℕ) (k : RulePlace) (r : HeldRule) → (r.plan.memory.now ≡ m) × (r.place ≡ k) → k.0 < length (plan_of m).rules
rule_stands m k r is = rw (← is.0, ← is.1, ← rule_count_is r.plan.memory.now) r.held

-- as its kind says
module _ (left right : List ℕ) (i j : ℕ) where
  abbrev Kind : ℕ → Type 0
  Kind k = k ≡ kind_at (plan_of left) (plan_of right) i j

  pub left_alone : (x : HeldRule) → x.plan.memory.now ≡ left → x.place.0 ≡ i → Kind LEFT-ONLY → StandsAt left right i j (LeftOnly x)
  unfolding listed_by entry_by
  left_alone x m k is = record { kind = is; listed = rw (← m, ← k) refl }

  pub right_alone : (y : HeldRule) → y.plan.memory.now ≡ right → y.place.0 ≡ j → Kind RIGHT-ONLY → StandsAt left right i j (RightOnly y)
  unfolding listed_by entry_by
  right_alone y m k is = record { kind = is; listed = rw (← m, ← k) refl }

-- two contents that were read
pub contents_same : {p q : Plan} {x y : Rule} {c d : List ℕ} {b : Bool} → NamedContent p x c → NamedContent q y d → b ≡ same_bytes c d
    → b ≡ same_content (held p x.set) (held q y.set)
contents_same left right is = is ∙ sym (ap₂ same_content left.is right.is)

-- two rules
module _ (one other : HeldRule) where
  abbrev left : List ℕ
  left = one.plan.memory.now

  abbrev right : List ℕ
  right = other.plan.memory.now

  abbrev i : ℕ
  i = one.place.0

  abbrev j : ℕ
  j = other.place.0

  abbrev Stands : Standing → Type 0
  Stands = StandsAt left right i j

  abbrev p : Plan
  p = plan_of left

  abbrev q : Plan
  q = plan_of right

  abbrev x : Rule
  x = rule_in p i

  abbrev y : Rule
  y = rule_in q j

  by_kind : (o : Ordering) (b : Bool) → compare_filters (filter_in x) (filter_in y) ≡ o → differ p q x y ≡ b → kind_by o b ≡ kind_at p q i j
  by_kind o b o_is b-is =
      let l : i < length p.rules = omega (arith, rule_count_is left, one.held) in
      let r : j < length q.rules = omega (arith, rule_count_is right, other.held) in
      sym (both_there p q i j l r ∙ ap₂ kind_by o_is b-is)

  module _ (s t : List ℕ) (o : Compared) (left-slot : RuleSlot x s) (right-slot : RuleSlot y t) (o_is : ordering_of o ≡ compare_filters (filter_of s) (filter_of t)) where
    order_is : compare_filters (filter_in x) (filter_in y) ≡ ordering_of o
    order_is = sym (o_is ∙ ap₂ compare_filters left-slot.filter right-slot.filter)

    pub stands_before : o ≡ Less → Stands (LeftOnly one)
    stands_before e = left_alone left right i j one refl refl (by_kind Ordering.lt (differ p q x y) (order_is ∙ ap ordering_of e) refl)

    pub stands_after : o ≡ Greater → Stands (RightOnly other)
    stands_after e = right_alone left right i j other refl refl (by_kind Ordering.gt (differ p q x y) (order_is ∙ ap ordering_of e) refl)

    module _ (e : o ≡ Equal) (b : Bool) (b-is : b ≡ same_content_at p q i j) where
      differ_is : differ p q x y ≡ not b
      unfolding differ
      differ_is = ap not (sym b-is)

      pub stand_alike : b ≡ true → Stands Alike
      unfolding listed_by
      stand_alike same = record { kind = by_kind Ordering.eq false (order_is ∙ ap ordering_of e) (differ_is ∙ ap not same); listed = refl }

      pub stand_both : b ≡ false → Stands (InBoth one other)
      unfolding listed_by entry_by
      stand_both n = record { kind = by_kind Ordering.eq true (order_is ∙ ap ordering_of e) (differ_is ∙ ap not n); listed = refl }
