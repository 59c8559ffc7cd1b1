-- Laws of a ledger: what one in range holds, that one more record keeps it so, and which district that record changes.
use Prim.Native.Nat.{ℕ, zero, suc, ◌+◌, ◌-◌, ◌*◌, ◌^◌, ◌≤◌, ◌<◌}
use mathlib.Core.Path.{◌≡◌, refl, ap, sym, ◌∙◌}
use mathlib.Core.Bool.{Bool, true, false, ◌&&◌}
use mathlib.Core.List.{List}
use native.Mathlib.Omega.{arith}
use borrow.Author.Tests.{leb-true, leb-false, le-leb, eqb-true, eqb-false}
use lib.Dec.{leb, eqb}
use lib.IntN.{ℤ, pos, negsuc, ◌*ℤ◌}
use lib.Signed.{le_z}
use lib.ListN.{length, get_or, set, length-set, get_or-replicate}
use lib.Seq.{get_or-set_same, get_or-set_other}
use Rattle.meaning.specs.Sizes.{DISTRICTS, LEDGER-NUMBERS}
use Rattle.std.specs.Prelude.{if◌then◌else◌}
use Rattle.meaning.specs.Ledger.{LEDGER-LIMIT, UNIT-LIMIT, Ledger, totals_of, totals_at, empty_ledger, sum_in_range, totals_in_range, districts_in_range, ledger_in_range, is_full, Entry, plus, with_totals, entered}
use Rattle.meaning.specs.declared.Totals.{Totals}

-- TESTS

pub both_true : (a b : Bool) → (a && b) ≡ true → (a ≡ true) × (b ≡ true)
both_true true b e = (refl, e)
both_true false b e = (e, cc)

pub and-true : (a b : Bool) → a ≡ true → b ≡ true → (a && b) ≡ true
and-true a b p q = rw (p, q)

pub true_false {ℓ} : {A : Type ℓ} (b : Bool) → b ≡ true → b ≡ false → A
true_false b p q = let z : ◌≡◌ {A = ℕ} 0 1 = cc in absurd (omega arith)

-- SUMS

-- no sum is within the bound of a count below 0
pub neg_times : (m n : ℕ) → le_z (pos n) (negsuc m *ℤ pos UNIT-LIMIT) ≡ false
neg_times m n = let e : suc m * UNIT-LIMIT ≡ suc (m * UNIT-LIMIT + (UNIT-LIMIT - 1)) = omega arith in rw e

-- a sum in range beside its count: both are natural numbers
record Sum (c s : ℤ) : Type 0 where
  times : ℕ
  size : ℕ
  count_is : c ≡ pos times
  sum_is : s ≡ pos size
  bound : size ≤ times * UNIT-LIMIT

sum_of : (c s : ℤ) → sum_in_range c s ≡ true → Sum c s
unfolding sum_in_range
sum_of (pos m) (pos n) e =
    record { times = m; size = n; count_is = refl; sum_is = refl; bound = leb-true n (m * UNIT-LIMIT) (both_true (leb 0 n) (leb n (m * UNIT-LIMIT)) e).1 }
sum_of (pos m) (negsuc n) e = true_false true refl (sym e)
sum_of (negsuc m) (pos n) e =
    true_false (le_z (pos n) (negsuc m *ℤ pos UNIT-LIMIT)) (both_true (leb 0 n) (le_z (pos n) (negsuc m *ℤ pos UNIT-LIMIT)) e).1 (neg_times m n)
sum_of (negsuc m) (negsuc n) e = true_false true refl (sym e)

sum_in_range_lem : (m n : ℕ) → n ≤ m * UNIT-LIMIT → sum_in_range (pos m) (pos n) ≡ true
unfolding sum_in_range
sum_in_range_lem m n h = and-true (leb 0 n) (leb n (m * UNIT-LIMIT)) (le-leb 0 n (omega arith)) (le-leb n (m * UNIT-LIMIT) h)

-- TOTALS

-- totals in range beside the most that their count may be: natural numbers within their bounds
pub record Natural (most : ℕ) (t : Totals) : Type 0 where
  pub records : ℕ
  pub due : ℕ
  pub billed : ℕ
  pub is : t ≡ totals_of (pos records) (pos due) (pos billed)
  pub few : records ≤ most
  pub due_most : due ≤ records * UNIT-LIMIT
  pub billed_most : billed ≤ records * UNIT-LIMIT

natural_of : (c d b : ℤ) (most : ℕ) → le_z c (pos most) ≡ true → Sum c d → Sum c b → Natural most (totals_of c d b)
natural_of c d b most h x y =
    let same : pos x.times ≡ pos y.times = sym x.count_is ∙ y.count_is in
    let k : x.times ≡ y.times = cc in
    record {
      records = x.times;
      due = x.size;
      billed = y.size;
      is = rw (x.sum_is, y.sum_is, x.count_is);
      few = leb-true x.times most (rw x.count_is at h);
      due_most = x.bound;
      billed_most = rw k y.bound;
    }

-- totals in range are natural numbers
pub totals_natural : (most : ℕ) (t : Totals) → totals_in_range (pos most) t ≡ true → Natural most t
unfolding totals_in_range
totals_natural most t e =
    let a = both_true (le_z t.count (pos most)) _ e in
    let b = both_true (sum_in_range t.count t.due) _ a.1 in
    let d = both_true (sum_in_range t.count t.billed) true b.1 in
    natural_of t.count t.due t.billed most a.0 (sum_of _ _ b.0) (sum_of _ _ d.0)

-- and such natural numbers are in range
pub natural_totals : (most : ℕ) (t : Totals) → Natural most t → totals_in_range (pos most) t ≡ true
unfolding totals_in_range
natural_totals most t n =
    rw (n.is, le-leb n.records most n.few, sum_in_range_lem n.records n.due n.due_most, sum_in_range_lem n.records n.billed n.billed_most)

-- the same where the count may be more
wider : (most next : ℕ) (t : Totals) → most ≤ next → Natural most t → Natural next t
wider most next t h n =
    record { records = n.records; due = n.due; billed = n.billed; is = n.is; few = omega arith; due_most = n.due_most; billed_most = n.billed_most }

-- totals whose count may be no more than a number within the limit
pub in_range_count : (most : ℤ) (t : Totals) → totals_in_range most t ≡ true → le_z most (pos LEDGER-LIMIT) ≡ true → Natural LEDGER-LIMIT t
unfolding totals_in_range
in_range_count (pos m) t e h = wider m LEDGER-LIMIT t (leb-true m LEDGER-LIMIT h) (totals_natural m t e)
in_range_count (negsuc m) t e h =
    let a = both_true (le_z t.count (negsuc m)) _ e in
    let b = both_true (sum_in_range t.count t.due) _ a.1 in
    let s = sum_of t.count t.due b.0 in
    true_false true refl (sym (rw s.count_is at a.0))

-- every sum is then below 2^63
pub sums_fit : (t : Totals) (n : Natural LEDGER-LIMIT t) → (n.due < 2 ^ 63) × (n.billed < 2 ^ 63)
sums_fit t n = (omega arith, omega arith)

-- one record more
module _ (e : Entry) (t : Totals) (small-due : e.due ≤ UNIT-LIMIT) (small-billed : e.billed ≤ UNIT-LIMIT) (most : ℕ) (n : Natural most t) where
  plus_is : plus e t ≡ totals_of (pos (n.records + 1)) (pos (n.due + e.due)) (pos (n.billed + e.billed))
  unfolding plus
  plus_is = rw n.is

  plus_natural : (next : ℕ) → n.records < next → Natural next (plus e t)
  plus_natural next h = record {
    records = n.records + 1;
    due = n.due + e.due;
    billed = n.billed + e.billed;
    is = plus_is;
    few = omega arith;
    due_most = omega arith;
    billed_most = omega arith;
  }

-- DISTRICTS

-- what is in range of all of n districts is so of each
pub at_district : (most : ℤ) (ns : List ℤ) (d n k : ℕ) → k < n → districts_in_range most ns d n ≡ true → totals_in_range most (totals_at ns (d + k)) ≡ true
at_district most ns d zero k h e = absurd (omega (arith, h))
at_district most ns d (suc n) zero h e =
    let z : d + 0 ≡ d = omega arith in rw z (both_true (totals_in_range most (totals_at ns d)) (districts_in_range most ns (d + 1) n) e).0
at_district most ns d (suc n) (suc k) h e =
    let z : d + suc k ≡ d + 1 + k = omega arith in
    rw z (at_district most ns (d + 1) n k (omega arith) (both_true (totals_in_range most (totals_at ns d)) (districts_in_range most ns (d + 1) n) e).1)

-- and of all where it is so of each
each_district : (most : ℤ) (ns : List ℤ) (d n : ℕ) → ((k : ℕ) → k < n → totals_in_range most (totals_at ns (d + k)) ≡ true) → districts_in_range most ns d n ≡ true
each_district most ns d zero f = refl
each_district most ns d (suc n) f =
    let z : d + 0 ≡ d = omega arith in
    and-true (totals_in_range most (totals_at ns d)) (districts_in_range most ns (d + 1) n) (rw z at (f 0 (omega arith)))
    (each_district most ns (d + 1) n (λ k h. let y : d + 1 + k ≡ d + suc k = omega arith in rw y (f (suc k) (omega arith))))

module _ (l : Ledger) (e : ledger_in_range l ≡ true) where
  parts : (totals_in_range (pos LEDGER-LIMIT) l.whole ≡ true) × (districts_in_range l.whole.count l.districts 0 DISTRICTS ≡ true)
  unfolding ledger_in_range
  parts = both_true (totals_in_range (pos LEDGER-LIMIT) l.whole) (districts_in_range l.whole.count l.districts 0 DISTRICTS) e

  -- of a ledger in range the whole's are natural numbers
  pub whole_natural : Natural LEDGER-LIMIT l.whole
  whole_natural = totals_natural LEDGER-LIMIT l.whole parts.0

  -- and each district's, whose count is not over the whole's
  pub district_natural : (d : ℕ) → d < DISTRICTS → Natural whole_natural.records (totals_at l.districts d)
  district_natural d h =
      let z : 0 + d ≡ d = omega arith in
      let c : l.whole.count ≡ pos whole_natural.records = ap (λ (t : Totals). t.count) whole_natural.is in
      totals_natural whole_natural.records (totals_at l.districts d) (rw (z, c) at (at_district l.whole.count l.districts 0 DISTRICTS d h parts.1))

-- a ledger of natural numbers is in range
in_range_of : (l : Ledger) (n : Natural LEDGER-LIMIT l.whole) → ((d : ℕ) → d < DISTRICTS → Natural n.records (totals_at l.districts d)) → ledger_in_range l ≡ true
unfolding ledger_in_range
in_range_of l n f =
    let c : l.whole.count ≡ pos n.records = ap (λ (t : Totals). t.count) n.is in
    and-true (totals_in_range (pos LEDGER-LIMIT) l.whole) (districts_in_range l.whole.count l.districts 0 DISTRICTS)
    (natural_totals LEDGER-LIMIT l.whole n)
    (rw c (each_district (pos n.records) l.districts 0 DISTRICTS
    (λ k h. let z : 0 + k ≡ k = omega arith in rw z (natural_totals n.records (totals_at l.districts k) (f k h)))))

-- all numbers 0: the empty ledger is in range
pub empty_in_range : ledger_in_range empty_ledger ≡ true
unfolding empty_ledger
empty_in_range = in_range_of empty_ledger none (λ d h. record {
  records = 0;
  due = 0;
  billed = 0;
  is = rw (get_or-replicate LEDGER-NUMBERS (3 * d) (pos 0) (pos 0) (omega (arith, h)), get_or-replicate LEDGER-NUMBERS (3 * d + 1) (pos 0) (pos 0) (omega (arith, h)), get_or-replicate LEDGER-NUMBERS (3 * d + 2) (pos 0) (pos 0) (omega (arith, h)));
  few = omega arith;
  due_most = omega arith;
  billed_most = omega arith;
})
  where
    none : Natural LEDGER-LIMIT (totals_of (pos 0) (pos 0) (pos 0))
    none = record { records = 0; due = 0; billed = 0; is = refl; few = omega arith; due_most = omega arith; billed_most = omega arith }

-- ONE RECORD MORE

-- the three that were put in their places stand there
totals_same : (d : ℕ) (t : Totals) (ns : List ℤ) → 3 * d + 2 < length ns → totals_at (with_totals d t ns) d ≡ t
unfolding with_totals
totals_same d t ns h =
    let a : List ℤ = set ns (3 * d) t.count in
    let b : List ℤ = set a (3 * d + 1) t.due in
    let la : length a ≡ length ns = length-set ns (3 * d) t.count in
    let lb : length b ≡ length a = length-set a (3 * d + 1) t.due in
    rw (
      get_or-set_other b (3 * d + 2) (3 * d) t.billed (pos 0) (λ q. omega (arith, q)),
      get_or-set_other a (3 * d + 1) (3 * d) t.due (pos 0) (λ q. omega (arith, q)),
      get_or-set_same ns (3 * d) t.count (pos 0) (omega arith),
      get_or-set_other b (3 * d + 2) (3 * d + 1) t.billed (pos 0) (λ q. omega (arith, q)),
      get_or-set_same a (3 * d + 1) t.due (pos 0) (omega arith),
      get_or-set_same b (3 * d + 2) t.billed (pos 0) (omega arith),
    )

-- and those of every other district stay
module _ (d k : ℕ) (t : Totals) (ns : List ℤ) (apart : d ≡ k → ⊥) where
  stays : (j : ℕ) → j < 3 → get_or (with_totals d t ns) (3 * k + j) (pos 0) ≡ get_or ns (3 * k + j) (pos 0)
  unfolding with_totals
  stays j h =
      rw (
        get_or-set_other (set (set ns (3 * d) t.count) (3 * d + 1) t.due) (3 * d + 2) (3 * k + j) t.billed (pos 0) (λ q. apart (omega (arith, q))),
        get_or-set_other (set ns (3 * d) t.count) (3 * d + 1) (3 * k + j) t.due (pos 0) (λ q. apart (omega (arith, q))),
        get_or-set_other ns (3 * d) (3 * k + j) t.count (pos 0) (λ q. apart (omega (arith, q))),
      )

  totals_other : totals_at (with_totals d t ns) k ≡ totals_at ns k
  totals_other =
      let z : 3 * k + 0 ≡ 3 * k = omega arith in
      rw (rw z at (stays 0 (omega arith)), stays 1 (omega arith), stays 2 (omega arith))

-- a record is on the three of its own district, and on no other's
pub totals_entered : (e : Entry) (l : Ledger) (d : ℕ) → length l.districts ≡ LEDGER-NUMBERS → d < DISTRICTS
    → totals_at (entered e l).districts d ≡ (if eqb e.district d then plus e (totals_at l.districts d) else totals_at l.districts d)
unfolding entered plus
totals_entered e l d n h = go (eqb e.district d) refl
  where
    go : (b : Bool) → eqb e.district d ≡ b → totals_at (with_totals e.district (plus e (totals_at l.districts e.district)) l.districts) d ≡ (if b then plus e (totals_at l.districts d) else totals_at l.districts d)
    go true q =
        let s : e.district ≡ d = eqb-true e.district d q in
        rw s (totals_same d (plus e (totals_at l.districts d)) l.districts (omega arith))
    go false q = totals_other e.district d (plus e (totals_at l.districts e.district)) l.districts (eqb-false e.district d q)

-- as many numbers as before
pub entered_length : (e : Entry) (l : Ledger) → length (entered e l).districts ≡ length l.districts
unfolding entered with_totals
entered_length e l = simp length-set

-- a ledger in range that is not full stays in range
pub entered_in_range : (e : Entry) (l : Ledger) → ledger_in_range l ≡ true → is_full l ≡ false → length l.districts ≡ LEDGER-NUMBERS → e.due ≤ UNIT-LIMIT → e.billed ≤ UNIT-LIMIT
    → ledger_in_range (entered e l) ≡ true
unfolding entered plus_natural
entered_in_range e l r f n hd hb = in_range_of (entered e l) whole each
  where
    w : Natural LEDGER-LIMIT l.whole
    w = whole_natural l r

    room : w.records < LEDGER-LIMIT
    room = let c : l.whole.count ≡ pos w.records = ap (λ (t : Totals). t.count) w.is in leb-false LEDGER-LIMIT w.records (rw c at f)

    whole : Natural LEDGER-LIMIT (plus e l.whole)
    whole = plus_natural e l.whole hd hb LEDGER-LIMIT w LEDGER-LIMIT room

    each : (d : ℕ) → d < DISTRICTS → Natural (w.records + 1) (totals_at (entered e l).districts d)
    each d h = rw (totals_entered e l d n h) (go (eqb e.district d) (district_natural l r d h))
      where
        go : (b : Bool) → Natural w.records (totals_at l.districts d) → Natural (w.records + 1) (if b then plus e (totals_at l.districts d) else totals_at l.districts d)
        go true k = plus_natural e (totals_at l.districts d) hd hb w.records k (w.records + 1) (omega (arith, k.few))
        go false k = wider w.records (w.records + 1) (totals_at l.districts d) (omega arith) k
