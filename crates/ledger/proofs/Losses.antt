-- The one rounding as the code divides, sums whose loss fits, and the first district that has records.
use Prim.Native.Nat.{ℕ, zero, suc, ◌+◌, ◌-◌, ◌≤◌, ◌<◌}
use mathlib.Core.Path.{◌≡◌, refl, sym, ap, ◌∙◌}
use mathlib.Core.Bool.{Bool, true, false, cond}
use mathlib.Core.List.{List}
use native.Mathlib.Omega.{arith}
use borrow.Author.Tests.{le-leb, ltb-true}
use Rattle.std.proofs.lemmas.Int.{ints}
use lib.IntN.{ℤ, pos, negsuc, ◌+ℤ◌, ◌-ℤ◌}
use lib.Signed.{le_z, lt_z, mag, quot_z}
use mir.Syntax.{w64}
use mir.Val.{SFits}
use Rattle.meaning.specs.Sizes.{DISTRICTS}
use Rattle.std.specs.Prelude.{if◌then◌else◌, unwrap_or, option_map, Some, None}
use Rattle.std.specs.Prelude.{Option as Found}
use Rattle.std.specs.List.{find, range_with_len}
use Rattle.meaning.specs.Ledger.{LEDGER-LIMIT, ledger_of, totals_at, ledger_in_range, cents, has_records}
use Rattle.meaning.specs.declared.Totals.{Totals}
use Rattle.meaning.proofs.Ledgers.{Natural, true_false, whole_natural, district_natural}
use Rattle.ledger.specs.Losses.{SUM-LIMIT, Sized, SizedLoss, next_from}

-- ROUNDING

pub cents_neg : (x : ℤ) → lt_z x (pos 0) ≡ true → quot_z (x -ℤ pos 30000) (pos 60000) ≡ cents x
unfolding cents
cents_neg (pos n) e = absurd (omega (arith, ltb-true n 0 e))
cents_neg (negsuc n) e = let e : suc (suc (n + 29999)) ≡ suc n + 30000 = omega arith in rw e

pub cents_pos : (x : ℤ) → lt_z x (pos 0) ≡ false → quot_z (x +ℤ pos 30000) (pos 60000) ≡ cents x
unfolding cents
cents_pos (pos n) e = refl
cents_pos (negsuc n) e = true_false true refl e

-- DUE LESS BILLED

loss_size : (a b : ℤ) → le_z (pos 0) a ≡ true → le_z a (pos SUM-LIMIT) ≡ true → le_z (pos 0) b ≡ true → le_z b (pos SUM-LIMIT) ≡ true → mag (a -ℤ b) ≤ SUM-LIMIT
loss_size a b la ha lb hb = grind (arith, ints)

pub loss_sized : (t : Totals) → Sized t → SizedLoss (t.due -ℤ t.billed)
loss_sized t s = record { size = loss_size t.due t.billed s.due_low s.due_high s.billed_low s.billed_high }

pub sized_fits : (x : ℤ) → SizedLoss x → SFits w64 x
sized_fits x h = let p = h.size in record { sfits = omega arith }

-- A LEDGER IN RANGE

natural_sized : (t : Totals) (most : ℕ) → Natural most t → most ≤ LEDGER-LIMIT → Sized t
natural_sized t most n h =
    rw n.is (record {
      due_low = le-leb 0 n.due (omega arith);
      due_high = le-leb n.due SUM-LIMIT (omega arith);
      billed_low = le-leb 0 n.billed (omega arith);
      billed_high = le-leb n.billed SUM-LIMIT (omega arith);
    })

module _ (ns : List ℤ) (whole : Totals) (e : ledger_in_range (ledger_of ns whole) ≡ true) where
  pub whole_sized : Sized whole
  whole_sized = natural_sized whole LEDGER-LIMIT (whole_natural (ledger_of ns whole) e) (omega arith)

  pub district_sized : (d : ℕ) → d < DISTRICTS → (t : Totals) → t ≡ totals_at ns d → Sized t
  district_sized d h t q =
      let w = whole_natural (ledger_of ns whole) e in
      rw q (natural_sized (totals_at ns d) w.records (district_natural (ledger_of ns whole) e d h) w.few)

-- THE NEXT DISTRICT

next_listed : (ns : List ℤ) (d n : ℕ) → unwrap_or (find (λ k. has_records (totals_at ns k)) (range_with_len d n)) (d + n) ≡ next_from ns d n
next_listed ns d zero = omega arith
next_listed ns d (suc n) = go (has_records (totals_at ns d)) (next_listed ns (d + 1) n)
  where
    rest : Found ℕ
    rest = find (λ k. has_records (totals_at ns k)) (range_with_len (d + 1) n)

    go : (b : Bool) → unwrap_or rest (d + 1 + n) ≡ next_from ns (d + 1) n → unwrap_or (cond b (Some d) rest) (d + suc n) ≡ (if b then d else next_from ns (d + 1) n)
    go true ih = refl
    go false ih = let z : d + suc n ≡ d + 1 + n = omega arith in rw z ih

found_is : (r : Found ℕ) → option_map (λ x. x) r ≡ r
found_is None = refl
found_is (Some k) = refl

-- what `find` gives of the districts from `from` to `to`, or the one behind them
pub next_found : (ns : List ℤ) (from to : ℕ) → from ≤ to → (r : Found ℕ) (d : ℕ) → option_map (λ x. x) r ≡ find (λ k. has_records (totals_at ns k)) (range_with_len from (to - from)) → d ≡ unwrap_or r to → d ≡ next_from ns from (to - from)
next_found ns from to h r d f u =
    let z : to ≡ from + (to - from) = omega arith in
    let rest : Found ℕ = find (λ k. has_records (totals_at ns k)) (range_with_len from (to - from)) in
    u ∙ ap (λ o. unwrap_or o to) (sym (found_is r) ∙ f) ∙ ap (unwrap_or rest) z ∙ next_listed ns from (to - from)
