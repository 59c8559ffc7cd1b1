-- The claim of C-11: "For any records from an empty ledger that nobody else writes, each district's count, due and billed equal those of its accepted records, each
-- priced as the rows then stood, and the grand total those over all." It is made over every memory and every result that meets the promises of the public calls:
-- the functions that run are among them.
use Rattle.std.specs.Prelude.{ℕ, ◌≤◌, ◌<◌, ◌^◌, ◌≡◌, true, List, [], ◌++◌, ℤ, pos, ◌-ℤ◌, length}
use Rattle.std.proofs.Math.Option.{none, some}
use Rattle.meaning.specs.Sizes.{DISTRICTS}
use Rattle.meaning.specs.Basics.{is_empty}
use Rattle.std.specs.Prelude.{if◌then◌else◌}
use Rattle.meaning.specs.Ledger.{LEDGER-LIMIT, Ledger, empty_ledger, totals_at, ledger_in_range, Entry, cents, loss_read, total_read}
use Rattle.meaning.specs.Answers.{loss_given}
use Rattle.std.specs.Prelude.{Result, Option as Optional}
use Rattle.meaning.specs.declared.Refusal.{Refusal}
use Rattle.meaning.specs.declared.«Loss».{«Loss» as LossRead}
use Rattle.plan.specs.State.{state_of}
use Rattle.changes.specs.Promise.{Chain}
use Rattle.prices.specs.Layout.{prices_of}
use Rattle.month.specs.Entries.{dues, bills, of_district, totals_over}
use Rattle.month.specs.Events.{Event, Month, month_of, month_from, month_numbers, plan_calls, plan_numbers, MonthLent, Events}

-- the promises of the two calls that read a loss
abbrev pub GivesLoss : Ledger → ℕ → Result (Optional LossRead) Refusal → Type 0
GivesLoss l d r = loss_given r ≡ loss_read l d

abbrev pub GivesTotal : Ledger → Result (Optional LossRead) Refusal → Type 0
GivesTotal l r = loss_given r ≡ total_read l

-- due less billed over some records, added exactly, and its cents, rounded once
abbrev pub loss_over : List Entry → ℤ
loss_over es = pos (dues es) -ℤ pos (bills es)

abbrev pub losses_over : List Entry → ℤ × ℤ
losses_over es = (loss_over es, cents (loss_over es))

-- before the list: the plan and the rows that the lent bytes hold, and no record
abbrev pub month_before : MonthLent → Month
month_before l = month_of (state_of l.plan) (prices_of l.prices) []

-- the month that a list comes to
abbrev pub month_over : MonthLent → List Event → Month
month_over l es = month_from (length l.plan) (month_before l) es

-- WHAT STANDS behind a list of events
pub record Stands (before : MonthLent) (es : List Event) (numbers : List ℕ) (behind : MonthLent) : Type 0 where
  -- every number is the one that the list alone gives
  pub numbers_are : numbers ≡ month_numbers (length before.plan) (month_before before) es
  -- the plan and the rows that price the next record
  pub plan_is : state_of behind.plan ≡ (month_over before es).plan
  pub rows_are : prices_of behind.prices ≡ (month_over before es).rows
  -- the plan's own calls are a chain of demand 3's, so that its claim speaks of the plan that priced each record
  pub demand_3 : Chain before.plan (plan_calls es) (plan_numbers es numbers) behind.plan

module _ (before : MonthLent) (es : List Event) (numbers : List ℕ) (behind : MonthLent) where
  pub record MonthClaim : Type 0 where
    pub stands : Stands before es numbers behind
    -- so it was before each event, in this run: `between` is what was lent to the events behind it
    pub before_each : (front back : List Event) → es ≡ front ++ back
        → (first : List ℕ) × (rest : List ℕ) × (between : MonthLent) × (numbers ≡ first ++ rest) × (Events before front first between) × (Events between back rest behind)
        × (Stands before front first between)
    -- "each district's count, due and billed equal those of its accepted records"
    pub districts_are : (d : ℕ) → d < DISTRICTS → totals_at behind.ledger.districts d ≡ totals_over (of_district d (month_over before es).entries)
    -- "and the grand total those over all"
    pub whole_is : behind.ledger.whole ≡ totals_over (month_over before es).entries
    -- the losses read are their differences, rounded once; none exactly if a district has no record
    pub losses_are : (d : ℕ) → d < DISTRICTS → (r : Result (Optional LossRead) Refusal) → GivesLoss behind.ledger d r
        → loss_given r ≡ (0, (if is_empty (of_district d (month_over before es).entries) then none else some (losses_over (of_district d (month_over before es).entries))))
    pub total_is : (r : Result (Optional LossRead) Refusal) → GivesTotal behind.ledger r → loss_given r ≡ (0, some (losses_over (month_over before es).entries))
    -- the ledger never draws RANGE, and takes "10,000,000 records"; every sum fits
    pub in_range : ledger_in_range behind.ledger ≡ true
    pub few : length (month_over before es).entries ≤ LEDGER-LIMIT
    pub dues_fit : dues (month_over before es).entries < 2 ^ 63
    pub bills_fit : bills (month_over before es).entries < 2 ^ 63

-- the plan's memory and the price list may begin as any bytes
abbrev pub EveryMonth : Type 0
EveryMonth = (before behind : MonthLent) (es : List Event) (numbers : List ℕ) → before.ledger ≡ empty_ledger → Events before es numbers behind → MonthClaim before es numbers behind
