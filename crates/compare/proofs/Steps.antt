-- One step through the rules of two plans: what is listed, and how far it goes.
use Prim.Native.Nat.{ℕ, zero, suc, ◌+◌, ◌≤◌, ◌<◌}
use mathlib.Core.Path.{◌≡◌, refl, ap, ap₂, sym, ◌∙◌}
use mathlib.Core.Logic.{◌≢◌}
use mathlib.Core.Bool.{Bool, true, false}
use mathlib.Core.List.{List, [], ◌∷◌, ◌++◌, map}
use native.Mathlib.Omega.{arith}
use lib.ListN.{length, drop, get_or, drop_of_length-le}
use lib.Seq.{drop-cons}
use lib.Dec.{eqb}
use Rattle.std.specs.Prelude.{if◌then◌else◌}
use Rattle.meaning.specs.Filters.{compare_filters}
use Rattle.meaning.specs.Rules.{Rule, filter_in}
use Rattle.meaning.specs.Plan.{Plan}
use Rattle.meaning.specs.History.{no_rule}
use Rattle.meaning.specs.Compare.{left_only, right_only, both, LEFT-ONLY, RIGHT-ONLY, IN-BOTH, NO-SET, differ, merge, entry, difference_bytes}
use Rattle.meaning.proofs.Merged.{by_order}
use Rattle.compare.specs.Steps.{ENDED, ALIKE, kind_by, head_kind, kind_at, rule_in, entries_from, one_unless, takes_left, takes_right, lists, entry_by, listed_by}

-- A LIST FROM A PLACE ON

-- its first element, and the list behind that
pub record From {A : Type 0} (xs : List A) (d : A) (i : ℕ) (x : A) (rest : List A) : Type 0 where
  pub there : i + 1 ≤ length xs
  pub first : get_or xs i d ≡ x
  pub behind : drop (i + 1) xs ≡ rest

pub from_place : {A : Type 0} (xs : List A) (d : A) (i : ℕ) (x : A) (rest : List A) → drop i xs ≡ x ∷ rest → From xs d i x rest
from_place [] d zero x rest e = absurd (let z : ◌≡◌ {A = ℕ} 0 1 = cc in omega arith)
from_place [] d (suc i) x rest e = absurd (let z : ◌≡◌ {A = ℕ} 0 1 = cc in omega arith)
from_place (y ∷ ys) d zero x rest e = record { there = omega arith; first = cc; behind = cc }
from_place (y ∷ ys) d (suc i) x rest e =
    let f = from_place ys d i x rest e in
    let s : suc i + 1 ≡ suc (i + 1) = omega arith in
    record { there = omega (arith, f.there); first = f.first; behind = rw s f.behind }

-- WHAT THE FIRST RULES COME TO

module _ (p q : Plan) where
  pub data Step : ℕ → List Rule → List Rule → Type 0 where
    ended : Step ENDED [] []
    lefts : {x : Rule} {xs ys : List Rule} → merge p q (x ∷ xs) ys ≡ left_only x ∷ merge p q xs ys → Step LEFT-ONLY (x ∷ xs) ys
    rights : {y : Rule} {xs ys : List Rule} → merge p q xs (y ∷ ys) ≡ right_only y ∷ merge p q xs ys → Step RIGHT-ONLY xs (y ∷ ys)
    boths : {x y : Rule} {xs ys : List Rule} → merge p q (x ∷ xs) (y ∷ ys) ≡ both x y ∷ merge p q xs ys → Step IN-BOTH (x ∷ xs) (y ∷ ys)
    alikes : {x y : Rule} {xs ys : List Rule} → merge p q (x ∷ xs) (y ∷ ys) ≡ merge p q xs ys → Step ALIKE (x ∷ xs) (y ∷ ys)

  step : (xs ys : List Rule) → Step (head_kind p q xs ys) xs ys
  step [] [] = ended
  step [] (y ∷ ys) = rights refl
  step (x ∷ xs) [] = lefts refl
  step (x ∷ xs) (y ∷ ys) =
      by_order p q x y xs ys (λ o b ds. merge p q (x ∷ xs) (y ∷ ys) ≡ ds → Step (kind_by o b) (x ∷ xs) (y ∷ ys))
      (λ b e. lefts e) (λ e. boths e) (λ e. alikes e) (λ b e. rights e) refl

  -- both lists have ended: nothing is left
  pub nothing_left : (i j k : ℕ) → k ≡ kind_at p q i j → k ≡ ENDED → entries_from p q i j ≡ []
  nothing_left i j k is e = go (step (drop i p.rules) (drop j q.rules)) (sym is ∙ e)
    where
      go : {n : ℕ} {xs ys : List Rule} → Step n xs ys → n ≡ ENDED → map difference_bytes (merge p q xs ys) ≡ []
      go ended z = refl
      go (lefts s) z = absurd (omega (arith, z))
      go (rights s) z = absurd (omega (arith, z))
      go (boths s) z = absurd (omega (arith, z))
      go (alikes s) z = absurd (omega (arith, z))

  -- the step from places i and j by kind k
  pub record Next (k i j : ℕ) : Type 0 where
    pub on_left : i + takes_left k ≤ length p.rules
    pub on_right : j + takes_right k ≤ length q.rules
    pub onward : 1 ≤ takes_left k + takes_right k
    pub one : lists k ≤ 1
    pub entries : entries_from p q i j ≡ listed_by k (rule_in p i) (rule_in q j) ++ entries_from p q (i + takes_left k) (j + takes_right k)

  -- what stands from a place on, from the place behind the step on
  staying : {A : Type 0} (xs : List A) (i : ℕ) {ys : List A} → drop i xs ≡ ys → drop (i + 0) xs ≡ ys
  staying xs i e = let z : i + 0 ≡ i = omega arith in rw z e

  abbrev Bytes : List Rule → List Rule → List (List ℕ)
  Bytes xs ys = map difference_bytes (merge p q xs ys)

  pub next : (i j k : ℕ) → i ≤ length p.rules → j ≤ length q.rules → k ≡ kind_at p q i j → k ≢ ENDED → Next k i j
  unfolding one_unless listed_by entry_by
  next i j k hi hj is n = rw is (go (step (drop i p.rules) (drop j q.rules)) refl refl (λ z. n (is ∙ z)))
    where
      go : {m : ℕ} {xs ys : List Rule} → Step m xs ys → drop i p.rules ≡ xs → drop j q.rules ≡ ys → m ≢ ENDED → Next m i j
      go ended e g z = absurd (z refl)
      go (lefts {x} {xs} {ys} s) e g z =
          let f = from_place p.rules no_rule i x xs e in
          record {
            on_left = f.there;
            on_right = omega (arith, hj);
            onward = omega arith;
            one = omega arith;
            entries = ap₂ Bytes e g ∙ (ap (map difference_bytes) s ∙ ap₂ (λ (r : Rule) (b : List (List ℕ)). entry LEFT-ONLY r.code r.set NO-SET ∷ b) (sym f.first) (ap₂ Bytes (sym f.behind) (sym (staying q.rules j g))));
          }
      go (rights {y} {xs} {ys} s) e g z =
          let f = from_place q.rules no_rule j y ys g in
          record {
            on_left = omega (arith, hi);
            on_right = f.there;
            onward = omega arith;
            one = omega arith;
            entries = ap₂ Bytes e g ∙ (ap (map difference_bytes) s ∙ ap₂ (λ (r : Rule) (b : List (List ℕ)). entry RIGHT-ONLY r.code NO-SET r.set ∷ b) (sym f.first) (ap₂ Bytes (sym (staying p.rules i e)) (sym f.behind)));
          }
      go (boths {x} {y} {xs} {ys} s) e g z =
          let f = from_place p.rules no_rule i x xs e in
          let h = from_place q.rules no_rule j y ys g in
          let both_entry : entry IN-BOTH x.code x.set y.set ≡ entry IN-BOTH (rule_in p i).code (rule_in p i).set (rule_in q j).set =
          ap₂ (λ (r t : Rule). entry IN-BOTH r.code r.set t.set) (sym f.first) (sym h.first) in
          record {
            on_left = f.there;
            on_right = h.there;
            onward = omega arith;
            one = omega arith;
            entries = ap₂ Bytes e g ∙ (ap (map difference_bytes) s ∙ ap₂ ◌∷◌ both_entry (ap₂ Bytes (sym f.behind) (sym h.behind)));
          }
      go (alikes {x} {y} {xs} {ys} s) e g z =
          let f = from_place p.rules no_rule i x xs e in
          let h = from_place q.rules no_rule j y ys g in
          record {
            on_left = f.there;
            on_right = h.there;
            onward = omega arith;
            one = omega arith;
            entries = ap₂ Bytes e g ∙ (ap (map difference_bytes) s ∙ ap₂ Bytes (sym f.behind) (sym h.behind));
          }

  -- WHAT STANDS AT TWO PLACES

  module _ (i j : ℕ) where
    pub both_ended : length p.rules ≤ i → length q.rules ≤ j → ENDED ≡ kind_at p q i j
    both_ended h g = rw (drop_of_length-le p.rules h, drop_of_length-le q.rules g)

    pub left_ended : length p.rules ≤ i → j < length q.rules → RIGHT-ONLY ≡ kind_at p q i j
    left_ended h g = rw (drop_of_length-le p.rules h, drop-cons q.rules j no_rule g)

    pub right_ended : i < length p.rules → length q.rules ≤ j → LEFT-ONLY ≡ kind_at p q i j
    right_ended h g = rw (drop-cons p.rules i no_rule h, drop_of_length-le q.rules g)

    pub both_there : i < length p.rules → j < length q.rules
        → kind_at p q i j ≡ kind_by (compare_filters (filter_in (rule_in p i)) (filter_in (rule_in q j))) (differ p q (rule_in p i) (rule_in q j))
    both_there h g = rw (drop-cons p.rules i no_rule h, drop-cons q.rules j no_rule g)

-- a kind lists as many entries as it says
pub lists_length : (k : ℕ) (x y : Rule) → length (listed_by k x y) ≡ lists k
unfolding listed_by one_unless
lists_length k x y = go (eqb k ALIKE)
  where
    go : (b : Bool) → length (if b then [] else entry_by k x y ∷ []) ≡ (if b then 0 else 1)
    go true = refl
    go false = refl
