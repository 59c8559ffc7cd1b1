-- How two lists of rules merge (C-20): one step; and, where both are in listing order, as a relation.
use Prim.Native.Nat.{ℕ, suc, ◌+◌, ◌≤◌, Ordering}
use mathlib.Core.Path.{◌≡◌, refl, ap, sym, subst, ◌∙◌}
use mathlib.Core.Logic.{◌≢◌}
use mathlib.Core.Bool.{Bool, true, false, not}
use mathlib.Core.List.{List, [], ◌∷◌}
use mathlib.Core.Option.{Option, none, some}
use native.Mathlib.Omega.{arith}
use lib.ListN.{length}
use lib.Dec.{T, T_not}
use Rattle.meaning.specs.Basics.{all}
use Rattle.std.specs.Prelude.{if◌then◌else◌}
use Rattle.meaning.specs.Filters.{Filter, compare_filters}
use Rattle.meaning.specs.Rules.{Rule, filter_in, rules_in_order}
use Rattle.meaning.specs.Plan.{Plan, held}
use Rattle.meaning.specs.Compare.{Difference, left_only, right_only, both, same_content, differ, merge}
use Rattle.meaning.proofs.ListingOrder.{flip, filters}
use Rattle.meaning.proofs.Tests.{true_is, false_is, and_left, and_right, and_both, not_not, all_weaken, same_self, same_bytes_lem}
use Rattle.meaning.proofs.RuleLists.{before, before_trans}

-- ONE STEP

module _ (p q : Plan) where
  -- the cases of a step: how the two filters compare, and whether the contents differ
  pub by_order : (x y : Rule) (xs ys : List Rule) (P : Ordering → Bool → List Difference → Type 0)
      → ((b : Bool) → P Ordering.lt b (left_only x ∷ merge p q xs (y ∷ ys)))
      → P Ordering.eq true (both x y ∷ merge p q xs ys)
      → P Ordering.eq false (merge p q xs ys)
      → ((b : Bool) → P Ordering.gt b (right_only y ∷ merge p q (x ∷ xs) ys))
      → P (compare_filters (filter_in x) (filter_in y)) (differ p q x y) (merge p q (x ∷ xs) (y ∷ ys))
  by_order x y xs ys P less differing alike more = go (compare_filters (filter_in x) (filter_in y)) (differ p q x y)
    where
      go : (o : Ordering) (b : Bool)
          → P o b
          (elim o [
            | Ordering.lt ↦ left_only x ∷ merge p q xs (y ∷ ys)
            | Ordering.eq ↦ (if b then both x y ∷ merge p q xs ys else merge p q xs ys)
            | Ordering.gt ↦ right_only y ∷ merge p q (x ∷ xs) ys
          ])
      go Ordering.lt b = less b
      go Ordering.eq true = differing
      go Ordering.eq false = alike
      go Ordering.gt b = more b

  -- there are at most as many as there are on both sides
  pub merge_few : (xs ys : List Rule) → length (merge p q xs ys) ≤ length xs + length ys
  merge_few [] [] = omega arith
  merge_few [] (y ∷ ys) = omega (arith, merge_few [] ys)
  merge_few (x ∷ xs) [] = omega (arith, merge_few xs [])
  merge_few (x ∷ xs) (y ∷ ys) =
      by_order x y xs ys (λ o b ds. length ds ≤ suc (length xs) + suc (length ys))
      (λ b. omega (arith, merge_few xs (y ∷ ys))) (omega (arith, merge_few xs ys)) (omega (arith, merge_few xs ys))
      (λ b. omega (arith, merge_few (x ∷ xs) ys))

-- TWO LISTS IN ORDER

heads_behind : (r : Rule) (rs : List Rule) → T (rules_in_order (r ∷ rs)) → T (all (before (filter_in r)) rs)
heads_behind r rs t = and_left (all (before (filter_in r)) rs) (rules_in_order rs) t

tail_order : (r : Rule) (rs : List Rule) → T (rules_in_order (r ∷ rs)) → T (rules_in_order rs)
tail_order r rs t = and_right (all (before (filter_in r)) rs) (rules_in_order rs) t

-- what stands before the first of a list in order stands before all of it
before_list : (f : Filter) (r : Rule) (rs : List Rule) → T (before f r) → T (rules_in_order (r ∷ rs)) → T (all (before f) (r ∷ rs))
before_list f r rs b t =
    and_both (before f r) (all (before f) rs) b
    (all_weaken (before (filter_in r)) (before f) rs (λ s u. before_trans f r s b u) (heads_behind r rs t))

-- the filter stands before all of both lists
abbrev pub Ahead : Filter → List Rule → List Rule → Type 0
Ahead f xs ys = T (all (before f) xs) × T (all (before f) ys)

-- how two lists in order merge: `one` lists a rule of the first list only, `two` one of the second only, and `pair` two rules of one filter that are
-- not `Same`; with these as parameters the sides can be turned round
module _ (one two : Rule → Difference) (pair : Rule → Rule → Difference) (Same : Rule → Rule → Type 0) where
  pub data Merged : List Rule → List Rule → List Difference → Type 0 where
    ends : Merged [] [] []
    firsts : {x : Rule} {xs ys : List Rule} {ds : List Difference} → Ahead (filter_in x) xs ys → Merged xs ys ds → Merged (x ∷ xs) ys (one x ∷ ds)
    seconds : {y : Rule} {xs ys : List Rule} {ds : List Difference} → Ahead (filter_in y) xs ys → Merged xs ys ds → Merged xs (y ∷ ys) (two y ∷ ds)
    boths : {x y : Rule} {xs ys : List Rule} {ds : List Difference} → Ahead (filter_in x) xs ys → filter_in x ≡ filter_in y → (Same x y → ⊥)
        → Merged xs ys ds → Merged (x ∷ xs) (y ∷ ys) (pair x y ∷ ds)
    alikes : {x y : Rule} {xs ys : List Rule} {ds : List Difference} → Ahead (filter_in x) xs ys → filter_in x ≡ filter_in y → Same x y
        → Merged xs ys ds → Merged (x ∷ xs) (y ∷ ys) ds

module _ {one two : Rule → Difference} {pair : Rule → Rule → Difference} {Same : Rule → Rule → Type 0} where
  -- the same with the second list first
  pub turned : {xs ys : List Rule} {ds : List Difference}
      → Merged one two pair Same xs ys ds → Merged two one (λ y x. pair x y) (λ y x. Same x y) ys xs ds
  turned ends = ends
  turned (firsts a m) = seconds (a.1, a.0) (turned m)
  turned (seconds a m) = firsts (a.1, a.0) (turned m)
  turned (boths {xs} {ys} a e n m) = boths (subst (λ f. Ahead f ys xs) e (a.1, a.0)) (sym e) n (turned m)
  turned (alikes {xs} {ys} a e s m) = alikes (subst (λ f. Ahead f ys xs) e (a.1, a.0)) (sym e) s (turned m)

-- CONTENTS

same_content_lem : (a b : Option (List ℕ)) → T (same_content a b) → a ≡ b
same_content_lem none none t = refl
same_content_lem none (some c) t = absurd t
same_content_lem (some b) none t = absurd t
same_content_lem (some b) (some c) t = ap some (same_bytes_lem b c t)

content_self : (a : Option (List ℕ)) → T (same_content a a)
content_self none = tt
content_self (some c) = same_self c

content_other : (a b : Option (List ℕ)) → T (not (same_content a b)) → a ≢ b
content_other a b t e = T_not (same_content b b) (subst (λ c. T (not (same_content c b))) e t) (content_self b)

module _ (p q : Plan) where
  -- the sets that the left rule x and the right rule y name have equal contents
  abbrev pub SameSet : Rule → Rule → Type 0
  SameSet x y = held p x.set ≡ held q y.set

  differ_not : (x y : Rule) → differ p q x y ≡ true → SameSet x y → ⊥
  unfolding differ
  differ_not x y d = content_other (held p x.set) (held q y.set) (true_is _ d)

  differ_same : (x y : Rule) → differ p q x y ≡ false → SameSet x y
  unfolding differ
  differ_same x y d = same_content_lem _ _ (not_not (same_content (held p x.set) (held q y.set)) (false_is _ d))

  -- what differs between the left rules and the right rules
  abbrev pub Differing : List Rule → List Rule → List Difference → Type 0
  Differing xs ys ds = Merged left_only right_only both SameSet xs ys ds

  pub merged : (xs ys : List Rule) → T (rules_in_order xs) → T (rules_in_order ys) → Differing xs ys (merge p q xs ys)
  merged [] [] s t = ends
  merged [] (y ∷ ys) s t = seconds (tt, heads_behind y ys t) (merged [] ys tt (tail_order y ys t))
  merged (x ∷ xs) [] s t = firsts (heads_behind x xs s, tt) (merged xs [] (tail_order x xs s) tt)
  merged (x ∷ xs) (y ∷ ys) s t =
      by_order p q x y xs ys (λ o b ds. compare_filters f g ≡ o → differ p q x y ≡ b → Differing (x ∷ xs) (y ∷ ys) ds)
      (λ b o d. firsts (heads_behind x xs s, before_list f y ys (rw o tt) t) (merged xs (y ∷ ys) (tail_order x xs s) t))
      (λ o d. boths (ahead o) (filters.same f g o) (differ_not x y d) (merged xs ys (tail_order x xs s) (tail_order y ys t)))
      (λ o d. alikes (ahead o) (filters.same f g o) (differ_same x y d) (merged xs ys (tail_order x xs s) (tail_order y ys t)))
      (λ b o d. seconds (before_list g x xs (back o) s, heads_behind y ys t) (merged (x ∷ xs) ys s (tail_order y ys t)))
      refl refl
    where
      f : Filter
      f = filter_in x

      g : Filter
      g = filter_in y

      ahead : compare_filters f g ≡ Ordering.eq → Ahead f xs ys
      ahead o = (heads_behind x xs s, subst (λ h. T (all (before h) ys)) (sym (filters.same f g o)) (heads_behind y ys t))

      back : compare_filters f g ≡ Ordering.gt → T (before g x)
      back o = let less : compare_filters g f ≡ Ordering.lt = filters.swap f g ∙ ap flip o in rw less tt
