-- What the functions on the way to a call record's entry give.
use Rattle.std.specs.Prelude.{ℕ, ◌*◌, ◌≤◌, ◌≡◌, Bool, true, false, Option as Optional, Some, None, Result, Ok, Err}
use Rattle.std.proofs.Math.Option.{Option, none, some}
use Rattle.std.specs.Prelude.{if◌then◌else◌}
use Rattle.meaning.specs.Refusals.{NO-PRICE, LEDGER-FULL}
use Rattle.meaning.specs.Answers.{number_of_refusal}
use Rattle.meaning.specs.declared.Refusal.{Refusal}
use Rattle.meaning.specs.declared.Totals.{Totals}
use Rattle.meaning.specs.Ledger.{UNIT-LIMIT, UNITS, Ledger, is_full, Entry, entered}
use Rattle.meaning.specs.Charges.{CallRecord}
use Rattle.ledger.specs.Entries.{entry_for}

abbrev pub due_given : Optional ℕ → Option ℕ
due_given (Some n) = some n
due_given None = none

-- 0 where no row fits
abbrev pub units_of : Optional ℕ → ℕ
units_of (Some n) = n
units_of None = 0

-- what a call is due, within the most that one is
pub record GivesDue (due : Option ℕ) (r : Optional ℕ) : Type 0 where
  pub is : due_given r ≡ due
  pub small : units_of r ≤ UNIT-LIMIT

-- what a record adds that is due so much
abbrev pub entry_due : CallRecord → ℕ → Entry
entry_due c due = entry_for c.district due (c.billed * UNITS)

-- the refusal of a record that is due so much, or 0; NO PRICE where no row fits
abbrev pub due_refusal : Option ℕ → Ledger → ℕ
due_refusal none l = NO-PRICE
due_refusal (some due) l = if is_full l then LEDGER-FULL else 0

-- and the ledger that it leaves
abbrev pub due_ledger : CallRecord → Option ℕ → Ledger → Ledger
due_ledger c none l = l
due_ledger c (some due) l = if is_full l then l else entered (entry_due c due) l

-- the refusal of a charge, or 0
abbrev pub refusal_of_charge : Result Totals Refusal → ℕ
refusal_of_charge (Ok _) = 0
refusal_of_charge (Err r) = number_of_refusal r

-- the whole's totals behind it: those before it where it is refused
abbrev pub whole_behind : Totals → Result Totals Refusal → Totals
whole_behind whole (Ok t) = t
whole_behind whole (Err r) = whole

pub record Charges (due : Option ℕ) (c : CallRecord) (l after : Ledger) (refusal : ℕ) : Type 0 where
  pub refusal_is : refusal ≡ due_refusal due l
  pub ledger_is : after ≡ due_ledger c due l

-- nothing is charged where the number is not a call record's
pub record ChargesIf (call : Bool) (due : Option ℕ) (c : CallRecord) (l after : Ledger) (refusal : ℕ) : Type 0 where
  pub charges : call ≡ true → Charges due c l after refusal
  pub none_is : call ≡ false → refusal ≡ 0
  pub left_is : call ≡ false → after ≡ l
