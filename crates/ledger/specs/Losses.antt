-- Sums whose loss can be worked out, and the districts that have one.
use Rattle.std.specs.Prelude.{ℕ, zero, suc, ◌+◌, ◌*◌, ◌≤◌, ◌≡◌, true, List, ℤ, pos}
use Rattle.std.specs.Int.Signed.{le_z, mag}
use Rattle.std.specs.Prelude.{if◌then◌else◌}
use Rattle.meaning.specs.Ledger.{LEDGER-LIMIT, UNIT-LIMIT, totals_at, has_records}
use Rattle.meaning.specs.declared.Totals.{Totals}

-- the most that a sum of a ledger in range is
abbrev pub SUM-LIMIT : ℕ
SUM-LIMIT = LEDGER-LIMIT * UNIT-LIMIT

-- both sums are from 0 to that
pub record Sized (t : Totals) : Type 0 where
  pub due_low : le_z (pos 0) t.due ≡ true
  pub due_high : le_z t.due (pos SUM-LIMIT) ≡ true
  pub billed_low : le_z (pos 0) t.billed ≡ true
  pub billed_high : le_z t.billed (pos SUM-LIMIT) ≡ true

-- a loss that such sums have, on either side of zero
pub record SizedLoss (units : ℤ) : Type 0 where
  pub size : mag units ≤ SUM-LIMIT

-- the first of n districts from d on that has records; where none has, the one behind them
abbrev pub next_from : List ℤ → ℕ → ℕ → ℕ
next_from ns d zero = d
next_from ns d (suc n) = if has_records (totals_at ns d) then d else next_from ns (d + 1) n
