-- Rules that each stand before the next stand before all later ones; and the walk that compares neighbours, in which what is left decides.
use Prim.Native.Nat.{ℕ, suc, ◌+◌, ◌-◌, ◌≤◌, ◌<◌}
use mathlib.Core.Path.{◌≡◌, refl, ap, sym, ◌∙◌}
use mathlib.Core.Bool.{Bool, true, false, true≢false, ◌&&◌}
use mathlib.Core.List.{List, [], ◌∷◌, map}
use native.Mathlib.Omega.{arith}
use lib.ListN.{length, drop, get_or, length-drop}
use lib.Seq.{drop-cons}
use lib.Dec.{T}
use Rattle.std.specs.Ordering.{is_ge}
use Rattle.std.specs.declared.cmp.Ordering.{Ordering as Compared}
use Rattle.std.specs.declared.cmp.Ordering.TheVariants.{Less, Equal, Greater}
use Rattle.meaning.specs.Basics.{all}
use Rattle.meaning.specs.Filters.{filter_of, compare_filters, is_lt}
use Rattle.meaning.specs.Answers.{ordering_of}
use Rattle.meaning.specs.Rules.{Rule, filter_in, rules_in_order}
use Rattle.meaning.proofs.Tests.{and_left, and_right, and_both, all_weaken}
use Rattle.meaning.proofs.RuleLists.{before, before_trans}
use Rattle.filter.specs.Slots.{rule_of}
use Rattle.filter.proofs.RuleLaws.{filter_in_lem}
use Rattle.examiner.specs.Examined.{before_next, rising}

-- NEIGHBOURS AND ALL

-- a rule before the next is before all that are in order behind it
before_all : (r : Rule) (rs : List Rule) → T (before_next r rs) → T (rules_in_order rs) → T (all (before (filter_in r)) rs)
before_all r [] t o = tt
before_all r (s ∷ rs) t o =
    and_both (before (filter_in r) s) (all (before (filter_in r)) rs) t
    (all_weaken (before (filter_in s)) (before (filter_in r)) rs (λ x. before_trans (filter_in r) s x t) (and_left (all (before (filter_in s)) rs) (rules_in_order rs) o))

pub rising_order : (rs : List Rule) → T (rising rs) → T (rules_in_order rs)
rising_order [] t = tt
rising_order (r ∷ rs) t =
    let later : T (rules_in_order rs) = rising_order rs (and_right (before_next r rs) (rising rs) t) in
    and_both (all (before (filter_in r)) rs) (rules_in_order rs) (before_all r rs (and_left (before_next r rs) (rising rs) t) later) later

next_of_all : (r : Rule) (rs : List Rule) → T (all (before (filter_in r)) rs) → T (before_next r rs)
next_of_all r [] t = tt
next_of_all r (s ∷ rs) t = and_left (before (filter_in r) s) (all (before (filter_in r)) rs) t

pub order_rising : (rs : List Rule) → T (rules_in_order rs) → T (rising rs)
order_rising [] t = tt
order_rising (r ∷ rs) t =
    and_both (before_next r rs) (rising rs) (next_of_all r rs (and_left (all (before (filter_in r)) rs) (rules_in_order rs) t))
    (order_rising rs (and_right (all (before (filter_in r)) rs) (rules_in_order rs) t))

-- THE WALK: the rules before the one before place i stand before their next

abbrev pub Risen : List (List ℕ) → ℕ → Type 0
Risen ss i = rising (map rule_of ss) ≡ rising (map rule_of (drop (i - 1) ss))

module _ (ss : List (List ℕ)) (i : ℕ) (h : Risen ss i) where
  -- no rule, or one
  pub risen_all : length ss ≤ i → rising (map rule_of ss) ≡ true
  risen_all l = h ∙ go (drop (i - 1) ss) (rw (length-drop (i - 1) ss) (omega arith))
    where
      go : (rest : List (List ℕ)) → length rest ≤ 1 → rising (map rule_of rest) ≡ true
      go [] l = refl
      go (s ∷ []) l = refl
      go (s ∷ t ∷ rest) l = absurd (omega arith)

  -- o is the order of the filters in slot i and the one before it
  module _ (o : Compared) (first : 1 ≤ i) (inside : i < length ss) (o_is : ordering_of o ≡ compare_filters (filter_of (get_or ss (i - 1) [])) (filter_of (get_or ss i []))) where
    risen_step : rising (map rule_of ss) ≡ (is_lt (ordering_of o) && rising (map rule_of (drop i ss)))
    risen_step =
        let s : List ℕ = get_or ss (i - 1) [] in
        let t : List ℕ = get_or ss i [] in
        let k : suc (i - 1) ≡ i = omega arith in
        let here : drop (i - 1) ss ≡ s ∷ drop i ss = drop-cons ss (i - 1) [] (omega arith) ∙ rw k in
        let c : ordering_of o ≡ compare_filters (filter_in (rule_of s)) (filter_in (rule_of t)) = o_is ∙ rw (filter_in_lem s, filter_in_lem t) in
        let next : before_next (rule_of s) (map rule_of (drop i ss)) ≡ is_lt (ordering_of o) =
        ap (λ (r : List (List ℕ)). before_next (rule_of s) (map rule_of r)) (drop-cons ss i [] inside) ∙ ap is_lt (sym c) in
        h ∙ ap (λ (r : List (List ℕ)). rising (map rule_of r)) here ∙ ap (λ (b : Bool). b && rising (map rule_of (drop i ss))) next

    pub risen_more : is_ge o ≡ false → Risen ss (i + 1)
    risen_more e = let k : i + 1 - 1 ≡ i = omega arith in risen_step ∙ rw (k, is_less o e)
      where
        is_less : (o : Compared) → is_ge o ≡ false → is_lt (ordering_of o) ≡ true
        is_less Less e = refl
        is_less Equal e = absurd (true≢false e)
        is_less Greater e = absurd (true≢false e)

    pub risen_not : is_ge o ≡ true → rising (map rule_of ss) ≡ false
    risen_not e = risen_step ∙ rw (is_more o e)
      where
        is_more : (o : Compared) → is_ge o ≡ true → is_lt (ordering_of o) ≡ false
        is_more Less e = absurd (true≢false (sym e))
        is_more Equal e = refl
        is_more Greater e = refl
