-- The tests of the range of a ledger, as the code asks them.
use Prim.Native.Nat.{ℕ, zero, suc, ◌+◌}
use mathlib.Core.Path.{ap, ◌≡◌, refl, sym}
use mathlib.Core.Bool.{Bool, true, false, ◌&&◌}
use mathlib.Core.List.{List}
use native.Mathlib.Omega.{arith}
use borrow.Author.Tests.{le-leb, lt-leb, ltb-true}
use lib.Dec.{leb}
use Rattle.std.proofs.lemmas.Int.{ints}
use lib.IntN.{ℤ, pos, negsuc, ◌*ℤ◌}
use lib.Signed.{le_z, lt_z}
use mir.Syntax.{w64}
use mir.Val.{SFits}
use Rattle.meaning.specs.Sizes.{DISTRICTS}
use Rattle.std.specs.List.{list_all, range_with_len}
use Rattle.meaning.specs.Ledger.{LEDGER-LIMIT, UNIT-LIMIT, totals_at, sum_in_range, totals_in_range, districts_in_range, ledger_in_range, ledger_of}
use Rattle.meaning.specs.declared.Totals.{Totals}
use Rattle.meaning.proofs.Ledgers.{both_true, true_false, neg_times}

-- A SUM

pub no_count : (c s : ℤ) → le_z (pos 0) c ≡ false → sum_in_range c s ≡ false
unfolding sum_in_range
no_count (pos m) s e = true_false (leb 0 m) (le-leb 0 m (omega arith)) e
no_count (negsuc m) (pos n) e = rw (le-leb 0 n (omega arith)) (neg_times m n)
no_count (negsuc m) (negsuc n) e = refl

pub times_fits : (c : ℤ) → le_z c (pos LEDGER-LIMIT) ≡ true → le_z (pos 0) c ≡ true → SFits w64 (c *ℤ pos UNIT-LIMIT)
times_fits c e f = grind (arith, ints)

-- TOTALS

over : (a b : ℤ) → lt_z b a ≡ true → le_z a b ≡ false
over (pos m) (pos n) e = lt-leb m n (ltb-true n m e)
over (pos m) (negsuc n) e = refl
over (negsuc m) (pos n) e = true_false true refl (sym e)
over (negsuc m) (negsuc n) e = lt-leb n m (ltb-true m n e)

-- a count over the most
pub totals_over_lem : (most : ℤ) (t : Totals) → lt_z most t.count ≡ true → false ≡ totals_in_range most t
unfolding totals_in_range
totals_over_lem most t e = rw (over t.count most e)

-- DISTRICTS

-- one after the other
pub districts_listed : (most : ℤ) (ns : List ℤ) (d n : ℕ) → list_all (λ k. totals_in_range most (totals_at ns k)) (range_with_len d n) ≡ districts_in_range most ns d n
districts_listed most ns d zero = refl
districts_listed most ns d (suc n) = ap (λ b. totals_in_range most (totals_at ns d) && b) (districts_listed most ns (d + 1) n)

-- THE WHOLE

module _ (ns : List ℤ) (whole : Totals) where
  pub whole_out : totals_in_range (pos LEDGER-LIMIT) whole ≡ false → ledger_in_range (ledger_of ns whole) ≡ false
  unfolding ledger_in_range
  whole_out f = rw f

  pub whole_in : totals_in_range (pos LEDGER-LIMIT) whole ≡ true → {r : Bool} → r ≡ districts_in_range whole.count ns 0 DISTRICTS → r ≡ ledger_in_range (ledger_of ns whole)
  unfolding ledger_in_range
  whole_in t e = rw t e

pub count_limit : (whole : Totals) → totals_in_range (pos LEDGER-LIMIT) whole ≡ true → le_z whole.count (pos LEDGER-LIMIT) ≡ true
unfolding totals_in_range
count_limit whole t = (both_true (le_z whole.count (pos LEDGER-LIMIT)) _ t).0
