-- The listing: strictly rising, it holds a filter and a set number exactly if that filter's rule names that set, and no other list does.
use Prim.Native.Nat.{ℕ, zero, suc, ◌<◌, Ordering}
use mathlib.Core.Path.{◌≡◌, refl, ap, ap₂, sym, subst, ◌∙◌}
use mathlib.Core.Logic.{◌≢◌, ◌⊎◌, inl, inr}
use mathlib.Core.Bool.{Bool, true, false}
use mathlib.Core.List.Memᴰ
use mathlib.Core.List.{List, [], ◌∷◌, map, Memᴰ}
use mathlib.Core.Option.{some, some-injective}
use native.Mathlib.Omega.{arith}
use native.Mathlib.Nat.{le_of_suc-le-suc}
use lib.ListN.{length, get_or}
use lib.Dec.{T}
use Rattle.meaning.specs.Basics.{all}
use Rattle.std.specs.Prelude.{if◌then◌else◌}
use Rattle.meaning.specs.Filters.{Filter, is_lt, is_before, compare_filters}
use Rattle.meaning.specs.Rules.{Rule, filter_in, has_filter, set_named, rules_in_order}
use Rattle.meaning.specs.Reads.{Listed, listed}
use Rattle.meaning.specs.History.{rising, pair_of, ListsExactly, no_rule}
use Rattle.meaning.proofs.ListingOrder.{flip, filters}
use Rattle.meaning.proofs.Tests.{true_is, is_true, and_left, and_right, and_both, all_mem, all_place}
use Rattle.meaning.proofs.RuleLists.{before, same_filter, filter_same, not_before_self}

-- IN ORDER, AS RULES AND AS THEY ARE LISTED

all_listed : (f : Filter) (rs : List Rule) → T (all (before f) rs) → T (all (λ (m : Listed). is_before f m.filter) (map listed rs))
all_listed f [] t = tt
all_listed f (r ∷ rs) t =
    and_both (before f r) (all (λ (m : Listed). is_before f m.filter) (map listed rs)) (and_left (before f r) (all (before f) rs) t)
    (all_listed f rs (and_right (before f r) (all (before f) rs) t))

pub rising_listed : (rs : List Rule) → T (rules_in_order rs) → T (rising (map listed rs))
rising_listed [] t = tt
rising_listed (r ∷ rs) t =
    and_both (all (λ (m : Listed). is_before (filter_in r) m.filter) (map listed rs)) (rising (map listed rs))
    (all_listed (filter_in r) rs (and_left (all (before (filter_in r)) rs) (rules_in_order rs) t))
    (rising_listed rs (and_right (all (before (filter_in r)) rs) (rules_in_order rs) t))

-- ONE RISING LIST

pub not_before : (f : Filter) → T (is_before f f) → ⊥
not_before f t = subst (λ o. T (is_lt o)) (filters.self f) t

flipped : (f g : Filter) → T (is_before f g) → T (is_before g f) → ⊥
flipped f g t u = go (compare_filters f g) t (rw (filters.swap f g) at u)
  where
    go : (o : Ordering) → T (is_lt o) → T (is_lt (flip o)) → ⊥
    go Ordering.lt t u = u
    go Ordering.eq t u = t
    go Ordering.gt t u = t

-- two strictly rising lists with the same members are one
pub one_list : (xs ys : List Listed) → T (rising xs) → T (rising ys) → ((l : Listed) → Memᴰ l xs → Memᴰ l ys)
    → ((l : Listed) → Memᴰ l ys → Memᴰ l xs) → xs ≡ ys
one_list [] [] s t f g = refl
one_list [] (y ∷ ys) s t f g = absurd (Memᴰ.not-nil (g y (Memᴰ.head refl)))
one_list (x ∷ xs) [] s t f g = absurd (Memᴰ.not-nil (f x (Memᴰ.head refl)))
one_list (x ∷ xs) (y ∷ ys) s t f g =
    let e : x ≡ y = heads in
    ap₂ ◌∷◌ e
    (one_list xs ys (and_right (all (λ (m : Listed). is_before x.filter m.filter) xs) (rising xs) s)
    (and_right (all (λ (m : Listed). is_before y.filter m.filter) ys) (rising ys) t)
    (λ l m. later xs ys x y (first_x l m) e (f l (Memᴰ.tail m)))
    (λ l m. later ys xs y x (first_y l m) (sym e) (g l (Memᴰ.tail m))))
  where
    first_x : (l : Listed) → Memᴰ l xs → T (is_before x.filter l.filter)
    first_x l m = all_mem (λ (k : Listed). is_before x.filter k.filter) xs (and_left (all (λ (k : Listed). is_before x.filter k.filter) xs) (rising xs) s) m

    first_y : (l : Listed) → Memᴰ l ys → T (is_before y.filter l.filter)
    first_y l m = all_mem (λ (k : Listed). is_before y.filter k.filter) ys (and_left (all (λ (k : Listed). is_before y.filter k.filter) ys) (rising ys) t) m

    heads : x ≡ y
    heads = go (Memᴰ.cases_cons (f x (Memᴰ.head refl))) (Memᴰ.cases_cons (g y (Memᴰ.head refl)))
      where
        go : (x ≡ y) ⊎ Memᴰ x ys → (y ≡ x) ⊎ Memᴰ y xs → x ≡ y
        go (inl e) q = e
        go (inr m) (inl e) = sym e
        go (inr m) (inr n) = absurd (flipped x.filter y.filter (first_x y n) (first_y x m))

    later : (us vs : List Listed) (u v : Listed) {l : Listed} → T (is_before u.filter l.filter) → u ≡ v → Memᴰ l (v ∷ vs) → Memᴰ l vs
    later us vs u v {l} b e m = go (Memᴰ.cases_cons m)
      where
        go : (l ≡ v) ⊎ Memᴰ l vs → Memᴰ l vs
        go (inl q) = absurd (not_before l.filter (subst (λ (w : Listed). T (is_before w.filter l.filter)) (e ∙ sym q) b))
        go (inr n) = n

-- WHAT IS LISTED

module _ (f : Filter) (n : ℕ) where
  named_listed : (rs : List Rule) → set_named f rs ≡ some n → Memᴰ (pair_of f n) (map listed rs)
  named_listed [] e = absurd (let z : ◌≡◌ {A = ℕ} 0 1 = cc in omega arith)
  named_listed (r ∷ rs) e = go (has_filter f r) refl e (named_listed rs)
    where
      go : (b : Bool) → has_filter f r ≡ b → (if b then some r.set else set_named f rs) ≡ some n
          → (set_named f rs ≡ some n → Memᴰ (pair_of f n) (map listed rs)) → Memᴰ (pair_of f n) (listed r ∷ map listed rs)
      go true q k ih =
          let a : f ≡ filter_in r = same_filter f (filter_in r) (true_is _ q) in
          let c : n ≡ r.set = sym (some-injective r.set n k) in
          Memᴰ.head (λ i. record { filter = a i; set = c i })
      go false q k ih = Memᴰ.tail (ih k)

  listed_is_named : (rs : List Rule) → T (rules_in_order rs) → Memᴰ (pair_of f n) (map listed rs) → set_named f rs ≡ some n
  listed_is_named [] t m = absurd (Memᴰ.not-nil m)
  listed_is_named (r ∷ rs) t m = go (Memᴰ.cases_cons m) (listed_is_named rs (and_right (all (before (filter_in r)) rs) (rules_in_order rs) t))
    where
      go : (pair_of f n ≡ listed r) ⊎ Memᴰ (pair_of f n) (map listed rs) → (Memᴰ (pair_of f n) (map listed rs) → set_named f rs ≡ some n)
          → (if has_filter f r then some r.set else set_named f rs) ≡ some n
      go (inl e) ih = rw (is_true (has_filter f r) (filter_same f (filter_in r) (ap (λ (l : Listed). l.filter) e))) (ap some (sym (ap (λ (l : Listed). l.set) e)))
      go (inr k) ih = rest (has_filter f r) refl
        where
          rest : (b : Bool) → has_filter f r ≡ b → (if b then some r.set else set_named f rs) ≡ some n
          rest true q =
              absurd (not_before f (subst (λ (g : Filter). T (is_before g f)) (sym (same_filter f (filter_in r) (true_is _ q)))
              (all_mem (λ (m : Listed). is_before (filter_in r) m.filter) (map listed rs)
              (all_listed (filter_in r) rs (and_left (all (before (filter_in r)) rs) (rules_in_order rs) t)) k)))
          rest false q = ih k

-- a filter and a set number stand in the listing exactly if the filter's rule names that set
pub lists_named : (rs : List Rule) → T (rules_in_order rs) → ListsExactly (map listed rs) (λ f. set_named f rs)
lists_named rs t f n = (listed_is_named f n rs t, named_listed f n rs)

-- no two rules of a list in order share a filter
pub distinct_filters : (rs : List Rule) → T (rules_in_order rs) → (i j : ℕ) → i < j → j < length rs → filter_in (get_or rs i no_rule) ≢ filter_in (get_or rs j no_rule)
distinct_filters [] t i j h k = absurd (omega (arith, k))
distinct_filters (r ∷ rs) t i zero h k = absurd (omega (arith, h))
distinct_filters (r ∷ rs) t zero (suc j) h k =
    not_before_self r (get_or rs j no_rule)
    (all_place (before (filter_in r)) rs no_rule j (and_left (all (before (filter_in r)) rs) (rules_in_order rs) t) (le_of_suc-le-suc k))
distinct_filters (r ∷ rs) t (suc i) (suc j) h k =
    distinct_filters rs (and_right (all (before (filter_in r)) rs) (rules_in_order rs) t) i j (le_of_suc-le-suc h) (le_of_suc-le-suc k)
