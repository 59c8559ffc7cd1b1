-- Laws of sums over accepted call records: the ledger of one record more, the three numbers of each district, and the ledger of none.
use Prim.Native.Nat.{ℕ, zero, suc, ◌+◌, ◌*◌, ◌<◌}
use mathlib.Core.Path.{◌≡◌, refl, sym, ap, ap₂, ◌∙◌}
use mathlib.Core.List.{List, [], ◌∷◌, ◌++◌, append_assoc, append-nil}
use native.Mathlib.Omega.{arith}
use borrow.Author.Tests.{eq-eqb, ne_eqb}
use lib.Dec.{eqb}
use lib.IntN.{ℤ, pos}
use lib.ListN.{length, replicate, length-append}
use Rattle.meaning.specs.Sizes.{DISTRICTS, LEDGER-NUMBERS}
use Rattle.std.specs.Prelude.{if◌then◌else◌}
use Rattle.meaning.specs.Ledger.{ledger_of, totals_at, empty_ledger, Entry, plus, with_totals, entered}
use Rattle.month.specs.Entries.{dues, bills, of_district, totals_over, sums_from, ledger_over}

-- ONE RECORD MORE

module _ (es : List Entry) (e : Entry) where
  pub length_one : length (es ++ (e ∷ [])) ≡ length es + 1
  length_one = length-append es (e ∷ [])

pub dues_one : (es : List Entry) (e : Entry) → dues (es ++ (e ∷ [])) ≡ dues es + e.due
dues_one [] e = omega arith
dues_one (x ∷ es) e = omega (arith, dues_one es e)

pub bills_one : (es : List Entry) (e : Entry) → bills (es ++ (e ∷ [])) ≡ bills es + e.billed
bills_one [] e = omega arith
bills_one (x ∷ es) e = omega (arith, bills_one es e)

pub totals_one : (es : List Entry) (e : Entry) → plus e (totals_over es) ≡ totals_over (es ++ (e ∷ []))
unfolding plus
totals_one es e = rw (length_one es e, dues_one es e, bills_one es e)

of_append : (d : ℕ) (a b : List Entry) → of_district d (a ++ b) ≡ of_district d a ++ of_district d b
of_append d [] b = refl
of_append d (e ∷ a) b = rw (of_append d a b) (sym (append_assoc (if eqb e.district d then (e ∷ []) else []) (of_district d a) (of_district d b)))

module _ (d : ℕ) (es : List Entry) (e : Entry) where
  of_same : e.district ≡ d → of_district d (es ++ (e ∷ [])) ≡ of_district d es ++ (e ∷ [])
  of_same h = of_append d es (e ∷ []) ∙ rw (eq-eqb e.district d h)

  of_other : (e.district ≡ d → ⊥) → of_district d (es ++ (e ∷ [])) ≡ of_district d es
  of_other h = of_append d es (e ∷ []) ∙ rw (ne_eqb e.district d h) (append-nil (of_district d es))

-- THE NUMBERS OF THE DISTRICTS

-- those behind its district stay
sums_other : (d n : ℕ) (es : List Entry) (e : Entry) → e.district < d → sums_from d n (es ++ (e ∷ [])) ≡ sums_from d n es
sums_other d zero es e h = refl
sums_other d (suc n) es e h = rw (of_other d es e (λ q. omega (arith, q)), sums_other (d + 1) n es e (omega arith))

sums_one : (d n : ℕ) (es : List Entry) (e : Entry) (k : ℕ) → k < n → e.district ≡ d + k
    → with_totals k (plus e (totals_at (sums_from d n es) k)) (sums_from d n es) ≡ sums_from d n (es ++ (e ∷ []))
unfolding with_totals plus
sums_one d zero es e k h q = absurd (omega (arith, h))
sums_one d (suc n) es e zero h q =
    rw (of_same d es e (omega arith), sums_other (d + 1) n es e (omega arith), length_one (of_district d es) e, dues_one (of_district d es) e, bills_one (of_district d es) e)
sums_one d (suc n) es e (suc k) h q =
    let p0 : 3 * suc k ≡ suc (suc (suc (3 * k))) = omega arith in
    let p1 : suc (suc (suc (3 * k))) + 1 ≡ suc (suc (suc (3 * k + 1))) = omega arith in
    let p2 : suc (suc (suc (3 * k))) + 2 ≡ suc (suc (suc (3 * k + 2))) = omega arith in
    let ih = sums_one (d + 1) n es e k (omega arith) (omega arith) in
    rw (of_other d es e (λ r. omega (arith, r)), p0, p1, p2, ← ih)

sums_at : (d n : ℕ) (es : List Entry) (k : ℕ) → k < n → totals_at (sums_from d n es) k ≡ totals_over (of_district (d + k) es)
sums_at d zero es k h = absurd (omega (arith, h))
sums_at d (suc n) es zero h = let z : d + 0 ≡ d = omega arith in rw z
sums_at d (suc n) es (suc k) h =
    let p0 : 3 * suc k ≡ suc (suc (suc (3 * k))) = omega arith in
    let p1 : suc (suc (suc (3 * k))) + 1 ≡ suc (suc (suc (3 * k + 1))) = omega arith in
    let p2 : suc (suc (suc (3 * k))) + 2 ≡ suc (suc (suc (3 * k + 2))) = omega arith in
    let z : d + suc k ≡ d + 1 + k = omega arith in
    rw (p0, p1, p2, z) (sums_at (d + 1) n es k (omega arith))

sums_length : (d n : ℕ) (es : List Entry) → length (sums_from d n es) ≡ 3 * n
sums_length d zero es = refl
sums_length d (suc n) es = omega (arith, sums_length (d + 1) n es)

sums_none : (d n : ℕ) → sums_from d n [] ≡ replicate (3 * n) (pos 0)
sums_none d zero = refl
sums_none d (suc n) = let e : 3 * suc n ≡ suc (suc (suc (3 * n))) = omega arith in rw (e, sums_none (d + 1) n)

-- THE LEDGER OF SOME RECORDS

pub ledger_none : ledger_over [] ≡ empty_ledger
unfolding ledger_over empty_ledger
ledger_none = ap (λ (ns : List ℤ). ledger_of ns (totals_over [])) (sums_none 0 DISTRICTS)

module _ (es : List Entry) where
  pub ledger_length : length (ledger_over es).districts ≡ LEDGER-NUMBERS
  unfolding ledger_over
  ledger_length = sums_length 0 DISTRICTS es

  pub ledger_at : (d : ℕ) → d < DISTRICTS → totals_at (ledger_over es).districts d ≡ totals_over (of_district d es)
  unfolding ledger_over
  ledger_at d h = let z : 0 + d ≡ d = omega arith in rw z at (sums_at 0 DISTRICTS es d h)

  pub ledger_whole : (ledger_over es).whole ≡ totals_over es
  unfolding ledger_over
  ledger_whole = refl

  pub ledger_one : (e : Entry) → e.district < DISTRICTS → entered e (ledger_over es) ≡ ledger_over (es ++ (e ∷ []))
  unfolding ledger_over entered
  ledger_one e h = ap₂ ledger_of (sums_one 0 DISTRICTS es e e.district h (omega arith)) (totals_one es e)
