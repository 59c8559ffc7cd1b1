-- The exact place of a filter in a list in order: what it says of the list, and what adding, changing and removing make there.
use Prim.Native.Nat.{ℕ, suc, ◌+◌, ◌*◌, ◌≤◌, ◌<◌, zero-le, Ordering}
use mathlib.Core.Path.{◌≡◌, refl, sym, ap, ◌∙◌}
use mathlib.Core.List.{List, [], ◌∷◌}
use mathlib.Core.Option.{none, some}
use mathlib.Core.Bool.{Bool, true, false, ◌||◌}
use native.Mathlib.Omega.{arith}
use lib.ListN.{length, take, drop, get_or, set}
use lib.Dec.{T}
use Rattle.meaning.specs.Sizes.{RULE-WIDTH}
use Rattle.meaning.specs.Basics.{all, any}
use Rattle.meaning.specs.Filters.{Filter, filter_of, compare_filters, is_before}
use Rattle.meaning.specs.Rules.{Rule, filter_in, has_filter, set_named, rules_in_order, insert, rename, without}
use Rattle.meaning.specs.History.{no_rule}
use Rattle.meaning.proofs.RuleLists.{is_lt_lem}
use Rattle.meaning.proofs.Tests.{and_left, and_right}
use Rattle.meaning.proofs.ListingOrder.{filters}
use Rattle.buffer.specs.Slots.{slots, insert_at, remove_at}
use Rattle.buffer.proofs.SlotLaws.{slot_at, length_slots}
use Rattle.filter.specs.Slots.{FilterBytes, RuleArea, rules_of, rule_of}
use Rattle.filter.specs.Place.{Place, held, absent, by_order, place_from, filter_place}
use Rattle.filter.proofs.RuleLaws.{own_bytes, rules_from, rules_full, rules_end, rules_more, filter_in_lem}

-- WHERE NO RULE HAS THE FILTER

first_false : (a b : Bool) → (a || b) ≡ false → a ≡ false
first_false true b e = e
first_false false b e = refl

second_false : (a b : Bool) → (a || b) ≡ false → b ≡ false
second_false true b e = cc
second_false false b e = e

module _ (f : Filter) where
  pub none_named : (rs : List Rule) → any (has_filter f) rs ≡ false → set_named f rs ≡ none
  none_named [] e = refl
  none_named (r ∷ rs) e =
      let p = first_false (has_filter f r) (any (has_filter f) rs) e in
      let q = second_false (has_filter f r) (any (has_filter f) rs) e in
      rw p (none_named rs q)

  pub none_renamed : (n : ℕ) (rs : List Rule) → any (has_filter f) rs ≡ false → rename f n rs ≡ rs
  none_renamed n [] e = refl
  none_renamed n (r ∷ rs) e =
      let p = first_false (has_filter f r) (any (has_filter f) rs) e in
      let q = second_false (has_filter f r) (any (has_filter f) rs) e in
      rw p (ap (λ (ts : List Rule). r ∷ ts) (none_renamed n rs q))

  pub none_removed : (rs : List Rule) → any (has_filter f) rs ≡ false → without f rs ≡ rs
  none_removed [] e = refl
  none_removed (r ∷ rs) e =
      let p = first_false (has_filter f r) (any (has_filter f) rs) e in
      let q = second_false (has_filter f r) (any (has_filter f) rs) e in
      rw p (ap (λ (ts : List Rule). r ∷ ts) (none_removed rs q))

-- a filter that stands before every one of some rules is none of theirs
before_true : (f g : Filter) → T (is_before f g) → compare_filters f g ≡ Ordering.lt
before_true f g t = is_lt_lem (compare_filters f g) t

before_none : (f : Filter) (rs : List Rule) → T (all (λ (s : Rule). is_before f (filter_in s)) rs) → any (has_filter f) rs ≡ false
before_none f [] t = refl
before_none f (r ∷ rs) t =
    let h = and_left (is_before f (filter_in r)) (all (λ (s : Rule). is_before f (filter_in s)) rs) t in
    let k = and_right (is_before f (filter_in r)) (all (λ (s : Rule). is_before f (filter_in s)) rs) t in
    rw (before_true f (filter_in r) h) (before_none f rs k)

-- what stands before one of two stands before all that stand behind it
before_later : (f g : Filter) (rs : List Rule) → compare_filters f g ≡ Ordering.lt → T (all (λ (s : Rule). is_before g (filter_in s)) rs)
    → T (all (λ (s : Rule). is_before f (filter_in s)) rs)
before_later f g [] e t = tt
before_later f g (r ∷ rs) e t =
    let h = and_left (is_before g (filter_in r)) (all (λ (s : Rule). is_before g (filter_in s)) rs) t in
    let k = and_right (is_before g (filter_in r)) (all (λ (s : Rule). is_before g (filter_in s)) rs) t in
    rw (filters.trans f g (filter_in r) e (before_true g (filter_in r) h)) (before_later f g rs e k)

-- WHAT THE PLACE SAYS

-- no rule has the filter; adding one puts it at place k
pub record AbsentAt (f : Filter) (rs : List Rule) (k : ℕ) : Type 0 where
  pub within : k ≤ length rs
  pub none_has : any (has_filter f) rs ≡ false
  pub unnamed : set_named f rs ≡ none
  pub inserted : (r : Rule) → filter_in r ≡ f → insert r rs ≡ insert_at k r rs

-- the rule at place k has the filter; changing and removing it change that place alone
pub record HeldAt (f : Filter) (rs : List Rule) (k : ℕ) : Type 0 where
  pub within : k < length rs
  pub has : filter_in (get_or rs k no_rule) ≡ f
  pub some_has : any (has_filter f) rs ≡ true
  pub named : set_named f rs ≡ some (get_or rs k no_rule).set
  pub renamed : (n : ℕ) → rename f n rs ≡ set rs k (record { code = (get_or rs k no_rule).code; set = n })
  pub removed : without f rs ≡ remove_at k rs

-- p counts its places from j on
abbrev Says : Filter → List Rule → ℕ → Place → Type 0
Says f rs j (absent k) = (d : ℕ) × (k ≡ j + d) × AbsentAt f rs d
Says f rs j (held k) = (d : ℕ) × (k ≡ j + d) × HeldAt f rs d

module _ (f : Filter) (r : Rule) (rs : List Rule) where
  -- the first rule stands behind f
  first_behind : compare_filters f (filter_in r) ≡ Ordering.lt → T (all (λ (s : Rule). is_before (filter_in r) (filter_in s)) rs) → AbsentAt f (r ∷ rs) 0
  first_behind e t =
      let n : any (has_filter f) (r ∷ rs) ≡ false = rw e (before_none f rs (before_later f (filter_in r) rs e t)) in
      record { within = zero-le; none_has = n; unnamed = none_named f (r ∷ rs) n; inserted = λ s q. rw (q, e) }

  -- the first rule has the filter
  first_has : compare_filters f (filter_in r) ≡ Ordering.eq → T (all (λ (s : Rule). is_before (filter_in r) (filter_in s)) rs) → HeldAt f (r ∷ rs) 0
  first_has e t =
      let q : f ≡ filter_in r = filters.same f (filter_in r) e in
      let n : any (has_filter f) rs ≡ false = rw q (before_none (filter_in r) rs t) in
      record {
        within = omega arith;
        has = sym q;
        some_has = rw e;
        named = rw e;
        renamed = λ m. rw e (ap (λ (ts : List Rule). record { code = r.code; set = m } ∷ ts) (none_renamed f m rs n));
        removed = rw e (none_removed f rs n);
      }

  -- the first rule stands before f
  absent_later : compare_filters f (filter_in r) ≡ Ordering.gt → (d : ℕ) → AbsentAt f rs d → AbsentAt f (r ∷ rs) (suc d)
  absent_later e d a =
      record {
        within = omega (arith, a.within);
        none_has = rw e a.none_has;
        unnamed = rw e a.unnamed;
        inserted = λ s q. rw (q, e) (ap (λ (ts : List Rule). r ∷ ts) (a.inserted s q));
      }

  held_later : compare_filters f (filter_in r) ≡ Ordering.gt → (d : ℕ) → HeldAt f rs d → HeldAt f (r ∷ rs) (suc d)
  held_later e d a =
      record {
        within = omega (arith, a.within);
        has = a.has;
        some_has = rw e a.some_has;
        named = rw e a.named;
        renamed = λ m. rw e (ap (λ (ts : List Rule). r ∷ ts) (a.renamed m));
        removed = rw e (ap (λ (ts : List Rule). r ∷ ts) a.removed);
      }

  later : compare_filters f (filter_in r) ≡ Ordering.gt → (j : ℕ) (p : Place) → Says f rs (j + 1) p → Says f (r ∷ rs) j p
  later e j (absent k) s = (suc s.0, omega (arith, s.1), absent_later e s.0 s.2)
  later e j (held k) s = (suc s.0, omega (arith, s.1), held_later e s.0 s.2)

says : (f : Filter) (rs : List Rule) (j : ℕ) → T (rules_in_order rs) → Says f rs j (place_from j f rs)
says f [] j t = (0, omega arith, record { within = zero-le; none_has = refl; unnamed = refl; inserted = λ r q. refl })
says f (r ∷ rs) j t =
    go (compare_filters f (filter_in r)) refl (says f rs (j + 1) (and_right (all (λ (s : Rule). is_before (filter_in r) (filter_in s)) rs) (rules_in_order rs) t))
  where
    go : (o : Ordering) → compare_filters f (filter_in r) ≡ o → Says f rs (j + 1) (place_from (j + 1) f rs) → Says f (r ∷ rs) j (by_order o j (place_from (j + 1) f rs))
    go Ordering.lt e s = (0, omega arith, first_behind f r rs e (and_left (all (λ (s : Rule). is_before (filter_in r) (filter_in s)) rs) (rules_in_order rs) t))
    go Ordering.eq e s = (0, omega arith, first_has f r rs e (and_left (all (λ (s : Rule). is_before (filter_in r) (filter_in s)) rs) (rules_in_order rs) t))
    go Ordering.gt e s = later f r rs e j (place_from (j + 1) f rs) s

module _ (f : Filter) (rs : List Rule) (k : ℕ) (order : T (rules_in_order rs)) where
  pub absent_at : filter_place f rs ≡ absent k → AbsentAt f rs k
  unfolding filter_place
  absent_at e =
      let s : Says f rs 0 (absent k) = rw e at (says f rs 0 order) in
      let q : k ≡ s.0 = omega (arith, s.1) in
      rw q s.2

  pub held_at_lem : filter_place f rs ≡ held k → HeldAt f rs k
  unfolding filter_place
  held_at_lem e =
      let s : Says f rs 0 (held k) = rw e at (says f rs 0 order) in
      let q : k ≡ s.0 = omega (arith, s.1) in
      rw q s.2

-- THE WALK: what is left to compare decides. ss are the slots, i the next place

pub record Walked (f : Filter) (rules : List ℕ) (n : ℕ) (ss : List (List ℕ)) (i : ℕ) : Type 0 where
  pub lent : ss ≡ slots RULE-WIDTH n rules
  pub left : filter_place f (rules_of n rules) ≡ place_from i f (rules_from n i rules)

pub walked_none : (f : Filter) (rules : List ℕ) (n : ℕ) (ss : List (List ℕ)) → ss ≡ slots RULE-WIDTH n rules → Walked f rules n ss 0
unfolding filter_place
walked_none f rules n ss e = record { lent = e; left = rw (rules_full n rules) }

module _ {f : Filter} {rules : List ℕ} {n i : ℕ} {ss : List (List ℕ)} (h : Walked f rules n ss i) where
  length_lent : length ss ≡ n
  length_lent = ap length h.lent ∙ length_slots RULE-WIDTH n rules

  -- the next slot has a filter's bytes
  pub walked_bytes : RuleArea n rules → i < length ss → FilterBytes (get_or ss i [])
  walked_bytes area inside =
      let l : i < n = omega (arith, inside, length_lent) in
      rw (h.lent, slot_at RULE-WIDTH i n rules l) (own_bytes n i rules area l)

  -- o is the order of f and the filter in the next slot
  module _ {o : Ordering} (inside : i < length ss) (o_is : o ≡ compare_filters f (filter_of (get_or ss i []))) where
    walked_step : filter_place f (rules_of n rules) ≡ by_order o i (place_from (i + 1) f (rules_from n (i + 1) rules))
    walked_step =
        let l : i < n = omega (arith, inside, length_lent) in
        let s : get_or ss i [] ≡ take RULE-WIDTH (drop (RULE-WIDTH * i) rules) = rw h.lent (slot_at RULE-WIDTH i n rules l) in
        let q : o ≡ compare_filters f (filter_in (rule_of (take RULE-WIDTH (drop (RULE-WIDTH * i) rules)))) = o_is ∙ rw (s, filter_in_lem (take RULE-WIDTH (drop (RULE-WIDTH * i) rules))) in
        h.left ∙ rw (rules_more n i rules l, ← q)

    pub walked_absent : o ≡ Ordering.lt → absent i ≡ filter_place f (rules_of n rules)
    walked_absent e = sym (walked_step ∙ rw e)

    pub walked_held : o ≡ Ordering.eq → held i ≡ filter_place f (rules_of n rules)
    walked_held e = sym (walked_step ∙ rw e)

    pub walked_more : o ≡ Ordering.gt → Walked f rules n ss (i + 1)
    walked_more e = record { lent = h.lent; left = walked_step ∙ rw e }

  pub walked_end : i ≤ length ss → length ss ≤ i → absent n ≡ filter_place f (rules_of n rules)
  walked_end a b =
      let k : n ≡ i = omega (arith, a, b, length_lent) in
      sym (h.left ∙ rw (rules_end n i rules (omega arith), k))
