-- What one record more asks of a ledger.
use Rattle.std.specs.Prelude.{ℕ, ◌≤◌, ◌<◌, ◌≡◌, true, false, pos, ◌+ℤ◌}
use Rattle.std.specs.Int.{w64}
use Rattle.std.proofs.Common.{SFits}
use Rattle.meaning.specs.Sizes.{DISTRICTS}
use Rattle.meaning.specs.Ledger.{UNIT-LIMIT, Ledger, ledger_in_range, is_full, Entry}
use Rattle.meaning.specs.declared.Totals.{Totals}

abbrev pub entry_for : ℕ → ℕ → ℕ → Entry
entry_for district due billed = record { district = district; due = due; billed = billed }

-- a ledger that takes a record more, and a record within the limits
pub record Enterable (l : Ledger) (e : Entry) : Type 0 where
  pub in_range : ledger_in_range l ≡ true
  pub room : is_full l ≡ false
  pub district : e.district < DISTRICTS
  pub due : e.due ≤ UNIT-LIMIT
  pub billed : e.billed ≤ UNIT-LIMIT

-- totals with room for a record of these units
pub record Addable (t : Totals) (due billed : ℕ) : Type 0 where
  pub count : SFits w64 (t.count +ℤ pos 1)
  pub due_sum : SFits w64 (t.due +ℤ pos due)
  pub billed_sum : SFits w64 (t.billed +ℤ pos billed)
  pub due_small : due ≤ UNIT-LIMIT
  pub billed_small : billed ≤ UNIT-LIMIT
