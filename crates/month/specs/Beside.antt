-- What is said beside the claim: when a ledger is full, that a refusal loses nothing, and that a loss is rounded once.
use Rattle.std.specs.Prelude.{ℕ, ◌≤◌, ◌<◌, ◌≡◌, ◌↔◌, ◌≢◌, true, List, [], ◌∷◌, pos, length, take}
use Rattle.std.proofs.Math.Option.{some}
use Rattle.meaning.specs.Sizes.{CALL-BYTES, DIGIT-ROOM}
use Rattle.meaning.specs.Basics.{is_some}
use Rattle.meaning.specs.Refusals.{LEDGER-FULL}
use Rattle.meaning.specs.Plan.{Plan}
use Rattle.meaning.specs.Prices.{PriceRow}
use Rattle.meaning.specs.Answer.{answer_of}
use Rattle.meaning.specs.Ledger.{LEDGER-LIMIT, empty_ledger, Entry}
use Rattle.meaning.specs.Charges.{call_in_range, number_in, due_by}
use Rattle.month.specs.Entries.{of_district}
use Rattle.month.specs.Events.{Event, call, Month, month_number, month_after, MonthLent, Meets, Events}
use Rattle.month.specs.Claim.{losses_over, month_over}

-- LEDGER FULL

-- a call record that no check before LEDGER FULL refuses, by the plan and the rows of a month
pub record BeforeFull (m : Month) (room : ℕ) (b : List ℕ) : Type 0 where
  pub plan : Plan
  pub rows : List PriceRow
  pub plan_is : m.plan ≡ some plan
  pub rows_are : m.rows ≡ some rows
  pub whole : CALL-BYTES ≤ length b
  pub buffer : DIGIT-ROOM ≤ room
  pub range : call_in_range (take CALL-BYTES b) ≡ true
  pub answered : (answer_of plan (number_in (take CALL-BYTES b))).refusal ≡ 0
  pub priced : is_some (due_by plan rows (take CALL-BYTES b)) ≡ true

-- draws it exactly if the month has all the records that a ledger takes; else it is accepted
pub record FullAt (size : ℕ) (m : Month) (e : Event) : Type 0 where
  pub full : (month_number size m e ≡ LEDGER-FULL) ↔ (LEDGER-LIMIT ≤ length m.entries)
  pub at_limit : (LEDGER-LIMIT ≤ length m.entries) ↔ (length m.entries ≡ LEDGER-LIMIT)
  pub room_left : length m.entries < LEDGER-LIMIT → month_number size m e ≡ 0

abbrev pub FullExactly : Type 0
FullExactly =
    (before behind : MonthLent) (es : List Event) (numbers : List ℕ) → before.ledger ≡ empty_ledger → Events before es numbers behind
    → (room : ℕ) (b : List ℕ) → BeforeFull (month_over before es) room b → FullAt (length before.plan) (month_over before es) (call room b)

-- "None changes a sum": a refused event leaves the plan, the rows and the records
abbrev pub NothingLost : Type 0
NothingLost = (size : ℕ) (m : Month) (e : Event) → month_number size m e ≢ 0 → month_after size m e ≡ m

-- and every byte and number lent, but the digit buffer, of which `Takes` speaks
abbrev pub NothingWritten : Type 0
NothingWritten = (l between : MonthLent) (e : Event) (n : ℕ) → Meets l e n between → n ≢ 0 → between ≡ l

-- "Only the printed line rounds, once": three records of a district, none of them a cent's half, are more than a cent

abbrev pub small : ℕ → Entry
small d = record { district = d; due = 24000; billed = 0 }

abbrev pub RoundedOnce : Type 0
RoundedOnce =
    (d : ℕ) → (losses_over (of_district d (small d ∷ [])) ≡ (pos 24000, pos 0)) × (losses_over (of_district d (small d ∷ small d ∷ small d ∷ [])) ≡ (pos 72000, pos 1))
