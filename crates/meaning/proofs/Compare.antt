-- C-20: what `differences` lists of two sound plans is what SideBySide says; and how many differences there are at most.
use Prim.Native.Nat.{ℕ, ◌≤◌}
use mathlib.Core.Path.{◌≡◌, refl, ap, ap₂, sym, subst, ◌∙◌}
use mathlib.Core.Logic.{◌≢◌}
use mathlib.Core.Bool.{Bool}
use mathlib.Core.List.{List, [], ◌∷◌, map, Memᴰ}
use native.Mathlib.Omega.{arith}
use lib.ListN.{length}
use lib.Dec.{T, leb, leb→le}
use Rattle.meaning.specs.Basics.{all, any, within, word}
use Rattle.meaning.specs.Settings.{rooms_of, rooms_in_range}
use Rattle.meaning.specs.Filters.{Filter, is_before, is_same}
use Rattle.meaning.specs.Rules.{Rule, filter_in, has_filter, rules_in_order}
use Rattle.meaning.specs.Plan.{Plan, held}
use Rattle.meaning.specs.View.{Viewed, viewed, view}
use Rattle.meaning.specs.Compare.{Difference, left_only, right_only, both, differences, rule_of_difference, Lacks, SameFilters, SameSets, SideBySide}
use Rattle.meaning.proofs.Tests.{and_left, and_right, and_both, all_mem, any_mem, any_map, any_one}
use Rattle.meaning.proofs.RuleLists.{before, same_filter, filter_same, one_rule}
use Rattle.meaning.proofs.View.{same_answers}
use Rattle.meaning.proofs.Soundness.{Sound}
use Rattle.meaning.proofs.Listings.{not_before}
use Rattle.meaning.proofs.Merged.{Ahead, Merged, ends, firsts, seconds, boths, alikes, turned, SameSet, Differing, merged, merge_few}

-- IN ORDER

-- a filter is not one that it stands before
apart : (f g : Filter) → T (is_before f g) → f ≢ g
apart f g t e = not_before f (subst (λ h. T (is_before f h)) (sym e) t)

lacks_all : (f : Filter) (rs : List Rule) → T (all (before f) rs) → Lacks rs f
lacks_all f rs t r i = apart f (filter_in r) (all_mem (before f) rs t i)

-- the filter of a difference
abbrev filter_of_difference : Difference → Filter
filter_of_difference d = filter_in (rule_of_difference d)

-- the rules that have the filters of differences
abbrev rules_of : List Difference → List Rule
rules_of ds = map rule_of_difference ds

module _ (p q : Plan) where
  -- what is ahead of both lists is ahead of all that differs
  ahead_all : {xs ys : List Rule} {ds : List Difference} → Differing p q xs ys ds → (f : Filter) → Ahead f xs ys → T (all (before f) (rules_of ds))
  ahead_all ends f a = tt
  ahead_all (firsts {x} {xs} {ds} b m) f a =
      and_both (before f x) (all (before f) (rules_of ds)) (and_left (before f x) (all (before f) xs) a.0)
      (ahead_all m f (and_right (before f x) (all (before f) xs) a.0, a.1))
  ahead_all (seconds {y} {ys} {ds} b m) f a =
      and_both (before f y) (all (before f) (rules_of ds)) (and_left (before f y) (all (before f) ys) a.1)
      (ahead_all m f (a.0, and_right (before f y) (all (before f) ys) a.1))
  ahead_all (boths {x} {y} {xs} {ys} {ds} b e n m) f a =
      and_both (before f x) (all (before f) (rules_of ds)) (and_left (before f x) (all (before f) xs) a.0)
      (ahead_all m f (and_right (before f x) (all (before f) xs) a.0, and_right (before f y) (all (before f) ys) a.1))
  ahead_all (alikes {x} {y} {xs} {ys} b e s m) f a =
      ahead_all m f (and_right (before f x) (all (before f) xs) a.0, and_right (before f y) (all (before f) ys) a.1)

  -- "in listing order"
  rises : {xs ys : List Rule} {ds : List Difference} → Differing p q xs ys ds → T (rules_in_order (rules_of ds))
  rises ends = tt
  rises (firsts {x} {ds} a m) = and_both (all (before (filter_in x)) (rules_of ds)) (rules_in_order (rules_of ds)) (ahead_all m (filter_in x) a) (rises m)
  rises (seconds {y} {ds} a m) = and_both (all (before (filter_in y)) (rules_of ds)) (rules_in_order (rules_of ds)) (ahead_all m (filter_in y) a) (rises m)
  rises (boths {x} {ds} a e n m) = and_both (all (before (filter_in x)) (rules_of ds)) (rules_in_order (rules_of ds)) (ahead_all m (filter_in x) a) (rises m)
  rises (alikes a e s m) = rises m

  -- WHAT IS LISTED IS SO

  abbrev Told : List Rule → List Rule → Difference → Type 0
  Told xs ys (left_only x) = Memᴰ x xs × Lacks ys (filter_in x)
  Told xs ys (right_only y) = Memᴰ y ys × Lacks xs (filter_in y)
  Told xs ys (both x y) = Memᴰ x xs × Memᴰ y ys × (filter_in x ≡ filter_in y) × (held p x.set ≢ held q y.set)

  lacks_more : (f : Filter) (r : Rule) (rs : List Rule) → filter_in r ≢ f → Lacks rs f → Lacks (r ∷ rs) f
  lacks_more f r rs n l s (mathlib.Core.List.Memᴰ.head e) g = n (sym (g ∙ ap filter_in e))
  lacks_more f r rs n l s (mathlib.Core.List.Memᴰ.tail i) g = l s i g

  -- it stays so with a rule of another filter more on the left, on the right, and on both
  more_left : (x : Rule) (xs ys : List Rule) (d : Difference) → filter_in x ≢ filter_of_difference d → Told xs ys d → Told (x ∷ xs) ys d
  more_left x xs ys (left_only z) n t = (mathlib.Core.List.Memᴰ.tail t.0, t.1)
  more_left x xs ys (right_only z) n t = (t.0, lacks_more (filter_in z) x xs n t.1)
  more_left x xs ys (both z w) n t = (mathlib.Core.List.Memᴰ.tail t.0, t.1, t.2, t.3)

  more_right : (y : Rule) (xs ys : List Rule) (d : Difference) → filter_in y ≢ filter_of_difference d → Told xs ys d → Told xs (y ∷ ys) d
  more_right y xs ys (left_only z) n t = (t.0, lacks_more (filter_in z) y ys n t.1)
  more_right y xs ys (right_only z) n t = (mathlib.Core.List.Memᴰ.tail t.0, t.1)
  more_right y xs ys (both z w) n t = (t.0, mathlib.Core.List.Memᴰ.tail t.1, t.2, t.3)

  -- a filter ahead of both lists is that of no difference
  other : {xs ys : List Rule} {ds : List Difference} → Differing p q xs ys ds → (f : Filter) → Ahead f xs ys
      → (d : Difference) → Memᴰ d ds → f ≢ filter_of_difference d
  other {ds} m f a d i = apart f (filter_of_difference d) (all_mem (before f) (rules_of ds) (ahead_all m f a) (mathlib.Core.List.Memᴰ.map rule_of_difference i))

  more_both : {xs ys : List Rule} {ds : List Difference} (x y : Rule) → Differing p q xs ys ds → Ahead (filter_in x) xs ys → filter_in x ≡ filter_in y
      → (d : Difference) → Memᴰ d ds → Told xs ys d → Told (x ∷ xs) (y ∷ ys) d
  more_both {xs} {ys} x y m a e d i t =
      let n = other m (filter_in x) a d i in
      more_left x xs (y ∷ ys) d n (more_right y xs ys d (λ g. n (e ∙ g)) t)

  told : {xs ys : List Rule} {ds : List Difference} → Differing p q xs ys ds → (d : Difference) → Memᴰ d ds → Told xs ys d
  told ends d i = absurd (mathlib.Core.List.Memᴰ.not-nil i)
  told (firsts {x} {xs} {ys} a m) d (mathlib.Core.List.Memᴰ.head e) = subst (Told (x ∷ xs) ys) (sym e) (mathlib.Core.List.Memᴰ.head refl, lacks_all (filter_in x) ys a.1)
  told (firsts {x} {xs} {ys} a m) d (mathlib.Core.List.Memᴰ.tail i) = more_left x xs ys d (other m (filter_in x) a d i) (told m d i)
  told (seconds {y} {xs} {ys} a m) d (mathlib.Core.List.Memᴰ.head e) = subst (Told xs (y ∷ ys)) (sym e) (mathlib.Core.List.Memᴰ.head refl, lacks_all (filter_in y) xs a.0)
  told (seconds {y} {xs} {ys} a m) d (mathlib.Core.List.Memᴰ.tail i) = more_right y xs ys d (other m (filter_in y) a d i) (told m d i)
  told (boths {x} {y} {xs} {ys} a e n m) d (mathlib.Core.List.Memᴰ.head h) =
      subst (Told (x ∷ xs) (y ∷ ys)) (sym h) (mathlib.Core.List.Memᴰ.head refl, mathlib.Core.List.Memᴰ.head refl, e, n)
  told (boths {x} {y} a e n m) d (mathlib.Core.List.Memᴰ.tail i) = more_both x y m a e d i (told m d i)
  told (alikes {x} {y} a e s m) d i = more_both x y m a e d i (told m d i)

-- WHAT IS SO IS LISTED

-- where a rule of the first list stands: alone; or beside the second list's rule of its filter, and the two are listed unless they are the same
module _ (one : Rule → Difference) (pair : Rule → Rule → Difference) (Same : Rule → Rule → Type 0) where
  data Standing (z : Rule) (ys : List Rule) (ds : List Difference) : Type 0 where
    alone : Memᴰ (one z) ds → Standing z ys ds
    beside : (w : Rule) → Memᴰ w ys → filter_in z ≡ filter_in w → ((Same z w → ⊥) → Memᴰ (pair z w) ds) → Standing z ys ds

module _ {one : Rule → Difference} {pair : Rule → Rule → Difference} {Same : Rule → Rule → Type 0} where
  -- it stands there with a rule more in the second list, and with a difference more
  more_second : {z y : Rule} {ys : List Rule} {ds : List Difference} → Standing one pair Same z ys ds → Standing one pair Same z (y ∷ ys) ds
  more_second (alone i) = alone i
  more_second (beside w i e h) = beside w (mathlib.Core.List.Memᴰ.tail i) e h

  more_listed : {z : Rule} {ys : List Rule} {d : Difference} {ds : List Difference}
      → Standing one pair Same z ys ds → Standing one pair Same z ys (d ∷ ds)
  more_listed (alone i) = alone (mathlib.Core.List.Memᴰ.tail i)
  more_listed (beside w i e h) = beside w i e (λ n. mathlib.Core.List.Memᴰ.tail (h n))

  stands : {two : Rule → Difference} {xs ys : List Rule} {ds : List Difference} → Merged one two pair Same xs ys ds
      → (z : Rule) → Memᴰ z xs → Standing one pair Same z ys ds
  stands ends z i = absurd (mathlib.Core.List.Memᴰ.not-nil i)
  stands (firsts a m) z (mathlib.Core.List.Memᴰ.head h) = alone (mathlib.Core.List.Memᴰ.head (ap one h))
  stands (firsts a m) z (mathlib.Core.List.Memᴰ.tail i) = more_listed (stands m z i)
  stands (seconds a m) z i = more_second (more_listed (stands m z i))
  stands (boths {x} {y} a e n m) z (mathlib.Core.List.Memᴰ.head h) =
      beside y (mathlib.Core.List.Memᴰ.head refl) (ap filter_in h ∙ e) (λ u. mathlib.Core.List.Memᴰ.head (ap (λ r. pair r y) h))
  stands (boths a e n m) z (mathlib.Core.List.Memᴰ.tail i) = more_second (more_listed (stands m z i))
  stands (alikes {x} {y} a e s m) z (mathlib.Core.List.Memᴰ.head h) =
      beside y (mathlib.Core.List.Memᴰ.head refl) (ap filter_in h ∙ e) (λ u. absurd (u (subst (λ r. Same r y) (sym h) s)))
  stands (alikes a e s m) z (mathlib.Core.List.Memᴰ.tail i) = more_second (stands m z i)

  -- a rule whose filter the second list lacks
  lists_one : {two : Rule → Difference} {xs ys : List Rule} {ds : List Difference} → Merged one two pair Same xs ys ds
      → (z : Rule) → Memᴰ z xs → Lacks ys (filter_in z) → Memᴰ (one z) ds
  lists_one {ys} {ds} m z i l = go (stands m z i)
    where
      go : Standing one pair Same z ys ds → Memᴰ (one z) ds
      go (alone k) = k
      go (beside w j e h) = absurd (l w j e)

module _ (p q : Plan) where
  -- two rules of one filter whose sets differ
  lists_both : {xs ys : List Rule} {ds : List Difference} → Differing p q xs ys ds → T (rules_in_order ys) → (x y : Rule) → Memᴰ x xs → Memᴰ y ys
      → filter_in x ≡ filter_in y → held p x.set ≢ held q y.set → Memᴰ (both x y) ds
  lists_both {ys} {ds} m t x y i j e n = go (stands m x i)
    where
      go : Standing left_only both (SameSet p q) x ys ds → Memᴰ (both x y) ds
      go (alone k) = absurd ((told p q m (left_only x) k).1 y j e)
      go (beside w k g h) = subst (λ r. (SameSet p q x r → ⊥) → Memᴰ (both x r) ds) (one_rule ys t w y k j (sym g ∙ e)) h n

  -- WHERE NOTHING DIFFERS: no difference, so equal views; equal views, so the same filters and equal sets; these, so no difference

  empty_view : {xs ys : List Rule} {ds : List Difference} → Differing p q xs ys ds → ds ≡ [] → map (viewed p) xs ≡ map (viewed q) ys
  empty_view ends z = refl
  empty_view (firsts a m) z = let no : ◌≡◌ {A = ℕ} 0 1 = cc in absurd (omega arith)
  empty_view (seconds a m) z = let no : ◌≡◌ {A = ℕ} 0 1 = cc in absurd (omega arith)
  empty_view (boths a e n m) z = let no : ◌≡◌ {A = ℕ} 0 1 = cc in absurd (omega arith)
  empty_view (alikes {x} {y} a e s m) z = ap₂ ◌∷◌ (λ i. record { filter = e i; content = s i }) (empty_view m z)

  view_filters : view p ≡ view q → SameFilters p q
  unfolding view
  view_filters v f =
      let seen : Viewed → Bool = λ (w : Viewed). is_same f w.filter in
      sym (any_map seen (viewed p) p.rules) ∙ (ap (any seen) v ∙ any_map seen (viewed q) q.rules)

  view_sets : T (rules_in_order q.rules) → view p ≡ view q → SameSets p q
  unfolding view
  view_sets t v x y i j e =
      let there : Memᴰ (viewed p x) (map (viewed q) q.rules) = subst (Memᴰ (viewed p x)) v (mathlib.Core.List.Memᴰ.map (viewed p) i) in
      let found = mathlib.Core.List.Memᴰ.of_map (viewed q) q.rules there in
      let same : viewed q found.0 ≡ viewed p x = found.2 in
      let one : found.0 ≡ y = one_rule q.rules t found.0 y found.1 j (ap (λ (w : Viewed). w.filter) same ∙ e) in
      sym (ap (λ (w : Viewed). w.content) same) ∙ ap (λ (r : Rule). held q r.set) one

  -- a filter that both lists have or neither is not in the first list only
  held_lacks : (r : Rule) (rs ss : List Rule) → any (has_filter (filter_in r)) rs ≡ any (has_filter (filter_in r)) ss
      → Memᴰ r rs → Lacks ss (filter_in r) → ⊥
  held_lacks r rs ss e i l =
      let t : T (any (has_filter (filter_in r)) rs) = any_mem (has_filter (filter_in r)) rs i (filter_same (filter_in r) (filter_in r) refl) in
      let found = any_one (has_filter (filter_in r)) ss (subst T e t) in
      l found.0 found.1 (same_filter (filter_in r) (filter_in found.0) found.2)

  -- where the filters are the same and their sets equal, no difference can be told
  same_untold : SameFilters p q → SameSets p q → (d : Difference) → Told p q p.rules q.rules d → ⊥
  same_untold f s (left_only x) t = held_lacks x p.rules q.rules (f (filter_in x)) t.0 t.1
  same_untold f s (right_only y) t = held_lacks y q.rules p.rules (sym (f (filter_in y))) t.0 t.1
  same_untold f s (both x y) t = t.3 (s x y t.0 t.1 t.2)

  same_empty : {ds : List Difference} → Differing p q p.rules q.rules ds → SameFilters p q → SameSets p q → ds ≡ []
  same_empty {ds} m f s = go ds (told p q m)
    where
      go : (es : List Difference) → ((d : Difference) → Memᴰ d es → Told p q p.rules q.rules d) → es ≡ []
      go [] t = refl
      go (e ∷ es) t = absurd (same_untold f s e (t e (mathlib.Core.List.Memᴰ.head refl)))

  -- SIDE BY SIDE

  pub side_by_side : Sound p → Sound q → SideBySide p q (differences p q)
  unfolding differences view
  side_by_side s t =
      let m = merged p q p.rules q.rules s.order t.order in
      let seen = empty_view m in
      record {
        in_order = rises p q m;
        left_only_lem = λ x. (told p q m (left_only x), λ g. lists_one m x g.0 g.1);
        right_only_lem = λ y. (told p q m (right_only y), λ g. lists_one (turned m) y g.0 g.1);
        in_both = λ x y. (told p q m (both x y), λ g. lists_both m t.order x y g.0 g.1 g.2 g.3);
        empty_exactly = (λ e. (view_filters (seen e), view_sets t.order (seen e)), λ g. same_empty m g.0 g.1);
        empty = (seen, λ v. same_empty m (view_filters v) (view_sets t.order v));
        alike = λ e u n. same_answers p q u (seen e) n;
      }

-- HOW MANY

rules_few : (p : Plan) → Sound p → length p.rules ≤ 4096
unfolding rooms_in_range rooms_of
rules_few p s =
    let room : ℕ = word p.rooms 2 in
    let range : T (within 1 4096 room) = and_right (within 1 1024 (word p.rooms 0)) (within 1 4096 room) s.rooms_range in
    let most : room ≤ 4096 = leb→le room 4096 (and_right (leb 1 room) (leb room 4096) range) in
    omega (arith, s.few, most)

-- at most as many as both plans can have rules
pub few_differences : (p q : Plan) → Sound p → Sound q → length (differences p q) ≤ 8192
unfolding differences
few_differences p q s t = omega (arith, merge_few p q p.rules q.rules, rules_few p s, rules_few q t)

-- a plan does not differ from itself
pub with_itself : (p : Plan) → Sound p → differences p p ≡ []
with_itself p s = (side_by_side p p s s).empty.1 refl
