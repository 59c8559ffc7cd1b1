-- The list of rules: what adding, renaming and removing a rule keep of its order and of tests over it.
use Prim.Native.Nat.{ℕ, suc, ◌≤◌, Ordering}
use mathlib.Core.Path.{◌≡◌, refl, ap, sym, ◌∙◌, subst}
use mathlib.Core.Logic.{◌≢◌}
use mathlib.Core.Bool.{Bool, true, false, ◌&&◌, not}
use mathlib.Core.List.{List, [], ◌∷◌, Memᴰ}
use native.Mathlib.Omega.{arith}
use lib.ListN.{length}
use lib.Dec.{T, compare_is_eq}
use Rattle.meaning.specs.Basics.{all, any}
use Rattle.std.specs.Prelude.{if◌then◌else◌}
use Rattle.meaning.specs.Filters.{Filter, compare_filters, is_lt, is_before, is_same}
use Rattle.meaning.specs.Rules.{Rule, filter_in, has_filter, rules_in_order, insert, rename, without}
use Rattle.meaning.proofs.ListingOrder.{flip, filters}
use Rattle.meaning.proofs.Tests.{and_left, and_right, and_both, or_left_false, or_right_false, all_weaken, all_mem}

-- THE RULES' LIST

abbrev pub before : Filter → Rule → Bool
before f r = is_before f (filter_in r)

pub is_lt_lem : (o : Ordering) → T (is_lt o) → o ≡ Ordering.lt
is_lt_lem Ordering.lt t = refl
is_lt_lem Ordering.eq t = absurd t
is_lt_lem Ordering.gt t = absurd t

pub before_trans : (f : Filter) (s r : Rule) → T (before f s) → T (before (filter_in s) r) → T (before f r)
before_trans f s r p q =
    rw (filters.trans f (filter_in s) (filter_in r) (is_lt_lem _ p) (is_lt_lem _ q)) tt

-- neither before nor the same: behind
behind : (o : Ordering) → is_lt o ≡ false → T (not (compare_is_eq o)) → T (is_lt (flip o))
behind Ordering.lt p q = absurd (let z : ◌≡◌ {A = ℕ} 0 1 = cc in omega arith)
behind Ordering.eq p q = q
behind Ordering.gt p q = tt

pub all_insert : (p : Rule → Bool) (r : Rule) (rs : List Rule) → T (p r) → T (all p rs) → T (all p (insert r rs))
all_insert p r [] s t = and_both (p r) true s tt
all_insert p r (x ∷ rs) s t = go (before (filter_in r) x) (all_insert p r rs s (and_right (p x) (all p rs) t))
  where
    go : (b : Bool) → T (all p (insert r rs)) → T (all p (if b then r ∷ x ∷ rs else x ∷ insert r rs))
    go true ih = and_both (p r) (p x && all p rs) s t
    go false ih = and_both (p x) (all p (insert r rs)) (and_left (p x) (all p rs) t) ih

pub in_order_insert : (r : Rule) (rs : List Rule) → T (rules_in_order rs) → T (not (any (has_filter (filter_in r)) rs)) → T (rules_in_order (insert r rs))
in_order_insert r [] t u = tt
in_order_insert r (x ∷ rs) t u =
    go (before (filter_in r) x) refl (in_order_insert r rs (and_right (all (before (filter_in x)) rs) (rules_in_order rs) t) (or_right_false (has_filter (filter_in r) x) (any (has_filter (filter_in r)) rs) u))
  where
    xs_behind : T (all (before (filter_in x)) rs)
    xs_behind = and_left (all (before (filter_in x)) rs) (rules_in_order rs) t

    go : (b : Bool) → before (filter_in r) x ≡ b → T (rules_in_order (insert r rs)) → T (rules_in_order (if b then r ∷ x ∷ rs else x ∷ insert r rs))
    go true e ih =
        let r-x : T (before (filter_in r) x) = rw e tt in
        and_both (before (filter_in r) x && all (before (filter_in r)) rs) (rules_in_order (x ∷ rs))
        (and_both (before (filter_in r) x) (all (before (filter_in r)) rs) r-x
        (all_weaken (before (filter_in x)) (before (filter_in r)) rs (λ y. before_trans (filter_in r) x y r-x) xs_behind))
        t
    go false e ih =
        and_both (all (before (filter_in x)) (insert r rs)) (rules_in_order (insert r rs))
        (all_insert (before (filter_in x)) r rs
        (rw (filters.swap (filter_in r) (filter_in x)) (behind (compare_filters (filter_in r) (filter_in x)) e (or_left_false (has_filter (filter_in r) x) (any (has_filter (filter_in r)) rs) u))) xs_behind)
        ih

pub length_insert : (r : Rule) (rs : List Rule) → length (insert r rs) ≡ suc (length rs)
length_insert r [] = refl
length_insert r (x ∷ rs) = go (before (filter_in r) x) (length_insert r rs)
  where
    go : (b : Bool) → length (insert r rs) ≡ suc (length rs) → length (if b then r ∷ x ∷ rs else x ∷ insert r rs) ≡ suc (suc (length rs))
    go true ih = refl
    go false ih = ap suc ih

pub all_without : (p : Rule → Bool) (f : Filter) (rs : List Rule) → T (all p rs) → T (all p (without f rs))
all_without p f [] t = tt
all_without p f (x ∷ rs) t = go (has_filter f x) (all_without p f rs (and_right (p x) (all p rs) t))
  where
    go : (b : Bool) → T (all p (without f rs)) → T (all p (if b then without f rs else x ∷ without f rs))
    go true ih = ih
    go false ih = and_both (p x) (all p (without f rs)) (and_left (p x) (all p rs) t) ih

pub in_order_without : (f : Filter) (rs : List Rule) → T (rules_in_order rs) → T (rules_in_order (without f rs))
in_order_without f [] t = tt
in_order_without f (x ∷ rs) t = go (has_filter f x) (in_order_without f rs (and_right (all (before (filter_in x)) rs) (rules_in_order rs) t))
  where
    go : (b : Bool) → T (rules_in_order (without f rs)) → T (rules_in_order (if b then without f rs else x ∷ without f rs))
    go true ih = ih
    go false ih =
        and_both (all (before (filter_in x)) (without f rs)) (rules_in_order (without f rs))
        (all_without (before (filter_in x)) f rs (and_left (all (before (filter_in x)) rs) (rules_in_order rs) t)) ih

pub length_without : (f : Filter) (rs : List Rule) → length (without f rs) ≤ length rs
length_without f [] = omega arith
length_without f (x ∷ rs) = go (has_filter f x) (length_without f rs)
  where
    go : (b : Bool) → length (without f rs) ≤ length rs → length (if b then without f rs else x ∷ without f rs) ≤ suc (length rs)
    go true ih = omega arith
    go false ih = omega arith

-- a rule under another set
abbrev pub moved : ℕ → Rule → Rule
moved n r = record { code = r.code; set = n }

pub all_rename : (p : Rule → Bool) (f : Filter) (n : ℕ) (rs : List Rule) → ((r : Rule) → T (has_filter f r) → T (p r) → T (p (moved n r)))
    → T (all p rs) → T (all p (rename f n rs))
all_rename p f n [] h t = tt
all_rename p f n (x ∷ rs) h t = go (has_filter f x) refl (all_rename p f n rs h (and_right (p x) (all p rs) t))
  where
    go : (b : Bool) → has_filter f x ≡ b → T (all p (rename f n rs)) → T (all p ((if b then moved n x else x) ∷ rename f n rs))
    go true e ih = and_both (p (moved n x)) (all p (rename f n rs)) (h x (rw e tt) (and_left (p x) (all p rs) t)) ih
    go false e ih = and_both (p x) (all p (rename f n rs)) (and_left (p x) (all p rs) t) ih

pub in_order_rename : (f : Filter) (n : ℕ) (rs : List Rule) → T (rules_in_order rs) → T (rules_in_order (rename f n rs))
in_order_rename f n [] t = tt
in_order_rename f n (x ∷ rs) t = go (has_filter f x) (in_order_rename f n rs (and_right (all (before (filter_in x)) rs) (rules_in_order rs) t))
  where
    rest : T (all (before (filter_in x)) (rename f n rs))
    rest = all_rename (before (filter_in x)) f n rs (λ r s u. u) (and_left (all (before (filter_in x)) rs) (rules_in_order rs) t)

    go : (b : Bool) → T (rules_in_order (rename f n rs)) → T (rules_in_order ((if b then moved n x else x) ∷ rename f n rs))
    go true ih = and_both (all (before (filter_in x)) (rename f n rs)) (rules_in_order (rename f n rs)) rest ih
    go false ih = and_both (all (before (filter_in x)) (rename f n rs)) (rules_in_order (rename f n rs)) rest ih

pub length_rename : (f : Filter) (n : ℕ) (rs : List Rule) → length (rename f n rs) ≡ length rs
length_rename f n [] = refl
length_rename f n (x ∷ rs) = ap suc (length_rename f n rs)

-- FILTERS IN A LIST IN ORDER

pub is_eq : (o : Ordering) → T (compare_is_eq o) → o ≡ Ordering.eq
is_eq Ordering.lt t = absurd t
is_eq Ordering.eq t = refl
is_eq Ordering.gt t = absurd t

pub same_filter : (f g : Filter) → T (is_same f g) → f ≡ g
same_filter f g t = filters.same f g (is_eq (compare_filters f g) t)

pub filter_same : (f g : Filter) → f ≡ g → T (is_same f g)
filter_same f g e = rw (← e, filters.self f) tt

-- a filter does not stand before itself
pub not_before_self : (r s : Rule) → T (before (filter_in r) s) → filter_in r ≢ filter_in s
not_before_self r s t e = subst (λ o. T (is_lt o)) (filters.self (filter_in r)) (rw (← e) at t)

-- two rules of a list in order that share a filter are one
pub one_rule : (rs : List Rule) → T (rules_in_order rs) → (r s : Rule) → Memᴰ r rs → Memᴰ s rs → filter_in r ≡ filter_in s → r ≡ s
one_rule [] t r s m _ e = elim m [ ]
one_rule (x ∷ xs) t r s (Memᴰ.head p) (Memᴰ.head q) e = p ∙ sym q
one_rule (x ∷ xs) t r s (Memᴰ.head p) (Memᴰ.tail n) e =
    absurd (not_before_self x s (all_mem (before (filter_in x)) xs (and_left (all (before (filter_in x)) xs) (rules_in_order xs) t) n) (ap filter_in (sym p) ∙ e))
one_rule (x ∷ xs) t r s (Memᴰ.tail m) (Memᴰ.head q) e =
    absurd (not_before_self x r (all_mem (before (filter_in x)) xs (and_left (all (before (filter_in x)) xs) (rules_in_order xs) t) m) (ap filter_in (sym q) ∙ sym e))
one_rule (x ∷ xs) t r s (Memᴰ.tail m) (Memᴰ.tail n) e =
    one_rule xs (and_right (all (before (filter_in x)) xs) (rules_in_order xs) t) r s m n e
