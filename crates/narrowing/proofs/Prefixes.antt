-- What the listing order says of one digit of two prefixes, and what a filter weighs by its class, one digit of its prefix, or its length.
use Prim.Native.Nat.{Ordering}
use Prim.Native.Nat.{ℕ, zero, suc, ◌+◌, ◌*◌, ◌≤◌, ◌<◌, compare}
use mathlib.Core.Path.{◌≡◌, refl, ap, sym, ◌∙◌}
use mathlib.Core.Logic.{◌≢◌}
use mathlib.Core.Bool.{Bool, true, false}
use mathlib.Core.List.{List, [], ◌∷◌}
use native.Mathlib.Nat.{le_of_suc-le-suc}
use native.Mathlib.Numerals.{add-one}
use native.Mathlib.Omega.{arith}
use lib.ListN.{length, take, get_or}
use lib.Seq.{take-suc}
use lib.Dec.{eqb, ltb}
use borrow.Author.Tests.{ltb-true, ltb-false, eq-eqb, ne_eqb}
use Rattle.meaning.specs.Basics.{begins_with}
use Rattle.meaning.specs.Filters.{Filter, compare_prefixes, compare_filters, fits_number, rank}
use Rattle.meaning.specs.Rules.{weight}
use Rattle.meaning.proofs.ListingOrder.{numbers, compare_more}
use Rattle.buffer.proofs.Passing.{and-false}
use Rattle.filter.proofs.FilterLaws.{begins_short}
use Rattle.narrowing.specs.Columns.{length_weight}

-- THE LISTING ORDER AT ONE DIGIT

-- of two prefixes with the same first j digits, where the first goes on, the second goes on with a digit that is no smaller
pub digits_rise : (xs ys : List ℕ) (j : ℕ) → compare_prefixes xs ys ≢ Ordering.gt → take j xs ≡ take j ys → j < length xs → j ≤ length ys
    → (j < length ys) × (get_or xs j 0 ≤ get_or ys j 0)
digits_rise [] ys j o e h k = absurd (omega (arith, h))
digits_rise (x ∷ xs) [] zero o e h k = absurd (o refl)
digits_rise (x ∷ xs) [] (suc j) o e h k = absurd (omega (arith, k))
digits_rise (x ∷ xs) (y ∷ ys) zero o e h k = (omega arith, go (ltb y x) refl)
  where
    go : (b : Bool) → ltb y x ≡ b → x ≤ y
    go true q = absurd (o (rw (compare_more x y (ltb-true y x q)) refl))
    go false q = ltb-false y x q
digits_rise (x ∷ xs) (y ∷ ys) (suc j) o e h k =
    let p : x ≡ y = cc in
    let t : take j xs ≡ take j ys = cc in
    let c : compare x y ≡ Ordering.eq = ap (compare x) (sym p) ∙ numbers.self x in
    let r = digits_rise xs ys j (λ g. o (rw c g)) t (le_of_suc-le-suc h) (le_of_suc-le-suc k) in
    (omega (arith, r.0), r.1)

module _ (f g : Filter) (before : compare_filters f g ≡ Ordering.lt) where
  pub classes_rise : f.class ≤ g.class
  unfolding compare_filters
  classes_rise = go (ltb g.class f.class) refl
    where
      go : (b : Bool) → ltb g.class f.class ≡ b → f.class ≤ g.class
      go true q =
          let e : compare f.class g.class ≡ Ordering.gt = compare_more f.class g.class (ltb-true g.class f.class q) in
          let x : Ordering.gt ≡ Ordering.lt = rw e at before in
          let z : ◌≡◌ {A = ℕ} 0 1 = cc in absurd (omega arith)
      go false q = ltb-false g.class f.class q

  pub not_behind : f.class ≡ g.class → compare_prefixes f.prefix g.prefix ≢ Ordering.gt
  unfolding compare_filters
  not_behind c p =
      let e : compare f.class g.class ≡ Ordering.eq = ap (compare f.class) (sym c) ∙ numbers.self f.class in
      let x : Ordering.gt ≡ Ordering.lt = rw (e, p) at before in
      let z : ◌≡◌ {A = ℕ} 0 1 = cc in omega arith

-- the first j digits and the next
pub one_more : (ps ds : List ℕ) (j : ℕ) → take j ps ≡ take j ds → j < length ps → j < length ds → get_or ps j 0 ≡ get_or ds j 0 → take (j + 1) ps ≡ take (j + 1) ds
one_more ps ds j e h k d = rw (add-one, take-suc ps j 0, take-suc ds j 0, e, d)

-- BEGINNING WITH A PREFIX

begins_apart : (ps ds : List ℕ) (j : ℕ) → j < length ps → j < length ds → get_or ps j 0 ≢ get_or ds j 0 → begins_with ps ds ≡ false
begins_apart [] ds j h k n = absurd (omega (arith, h))
begins_apart (p ∷ ps) [] j h k n = refl
begins_apart (p ∷ ps) (d ∷ ds) zero h k n = rw (ne_eqb p d n)
begins_apart (p ∷ ps) (d ∷ ds) (suc j) h k n = rw (begins_apart ps ds j (le_of_suc-le-suc h) (le_of_suc-le-suc k) n) (and-false (eqb p d))

begins_whole_lem : (ps ds : List ℕ) → length ps ≤ length ds → take (length ps) ps ≡ take (length ps) ds → begins_with ps ds ≡ true
begins_whole_lem [] ds h e = refl
begins_whole_lem (p ∷ ps) [] h e = absurd (omega (arith, h))
begins_whole_lem (p ∷ ps) (d ∷ ds) h e =
    let q : p ≡ d = cc in
    let t : take (length ps) ps ≡ take (length ps) ds = cc in
    rw (eq-eqb p d q) (begins_whole_lem ps ds (le_of_suc-le-suc h) t)

-- WEIGHT

module _ (class : ℕ) (ds : List ℕ) (f : Filter) where
  pub other_class : f.class ≢ class → weight class ds f ≡ 0
  unfolding weight fits_number
  other_class n = rw (ne_eqb f.class class n)

  not_begun : begins_with f.prefix ds ≡ false → weight class ds f ≡ 0
  unfolding weight fits_number
  not_begun e = rw (e, and-false (eqb f.class class))

  pub other_digit : (j : ℕ) → j < length f.prefix → j < length ds → get_or f.prefix j 0 ≢ get_or ds j 0 → weight class ds f ≡ 0
  other_digit j h k n = not_begun (begins_apart f.prefix ds j h k n)

  pub too_long : length ds < length f.prefix → weight class ds f ≡ 0
  too_long h = not_begun (begins_short f.prefix ds h)

  -- a prefix that is the number's first j digits: the length decides
  pub by_length : (j : ℕ) → f.class ≡ class → length f.prefix ≡ j → j ≤ length ds → take j f.prefix ≡ take j ds → weight class ds f ≡ length_weight j (length ds) f.len
  unfolding weight fits_number rank length_weight
  by_length j c l h e =
      let t : take (length f.prefix) f.prefix ≡ take (length f.prefix) ds = rw l e in
      let b : begins_with f.prefix ds ≡ true = begins_whole_lem f.prefix ds (omega arith) t in
      rw (eq-eqb f.class class c, b, l)

pub weight_wildcard : (j n l : ℕ) → l ≡ 0 → length_weight j n l ≡ 2 * j + 1
unfolding length_weight
weight_wildcard j n l e = rw e (omega arith)

pub weight_stated : (j n l : ℕ) → l ≢ 0 → l ≡ n → length_weight j n l ≡ 2 * j + 2
unfolding length_weight
weight_stated j n zero z e = absurd (z refl)
weight_stated j n (suc l) z e = rw (eq-eqb (suc l) n e) (omega arith)

pub weight_other : (j n l : ℕ) → l ≢ 0 → l ≢ n → length_weight j n l ≡ 0
unfolding length_weight
weight_other j n zero z e = absurd (z refl)
weight_other j n (suc l) z e = rw (ne_eqb (suc l) n e)
