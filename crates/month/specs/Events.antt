-- What a list of plan calls, price rows and call records comes to, from the list alone; and chains of such calls, each of which meets the promise of its public call.
use Rattle.std.specs.Prelude.{ℕ, List, [], ◌∷◌, ◌++◌, length, take}
use Rattle.std.proofs.Math.Option.{Option, none, some}
use Rattle.meaning.specs.Sizes.{CALL-BYTES}
use Rattle.meaning.specs.Basics.{is_zero}
use Rattle.std.specs.Prelude.{if◌then◌else◌}
use Rattle.meaning.specs.Plan.{Plan}
use Rattle.meaning.specs.Calls.{Call, lacks_bytes, refusal, after}
use Rattle.meaning.specs.Prices.{PriceRow, price_refusal, rows_after}
use Rattle.meaning.specs.Ledger.{Ledger, Entry}
use Rattle.meaning.specs.Charges.{entry_of, taking_refusal}
use Rattle.meaning.specs.declared.Answered.{Answered}
use Rattle.changes.specs.Promise.{Provides}
use Rattle.prices.specs.Promises.{AddsPrice}
use Rattle.charging.specs.Promises.{Takes}
use Rattle.month.specs.Entries.{ledger_over}

-- a call of demand 3's list, a row's body, or a call record's body with a digit buffer of so many bytes
pub data Event : Type 0 where
  plan_call : Call → Event
  price : List ℕ → Event
  call : ℕ → List ℕ → Event

-- FROM THE LIST ALONE

-- what stands: the plan, the rows, and what each accepted record added, in order
pub record Month : Type 0 where
  pub plan : Option Plan
  pub rows : Option (List PriceRow)
  pub entries : List Entry

abbrev pub month_of : Option Plan → Option (List PriceRow) → List Entry → Month
month_of s rows es = record { plan = s; rows = rows; entries = es }

-- the number of each, over a plan memory of `size` bytes
abbrev pub month_number : ℕ → Month → Event → ℕ
month_number size m (plan_call c) = refusal (lacks_bytes size) m.plan c
month_number size m (price b) = price_refusal m.rows b
month_number size m (call room b) = taking_refusal m.plan m.rows (ledger_over m.entries) room b

-- "its accepted records, each priced as the rows then stood"
abbrev pub entries_after : Option Plan → Option (List PriceRow) → List ℕ → List Entry → List Entry
entries_after none rows b es = es
entries_after (some p) none b es = es
entries_after (some p) (some rs) b es = es ++ (entry_of p rs b ∷ [])

abbrev pub month_after : ℕ → Month → Event → Month
month_after size m (plan_call c) = month_of (after (lacks_bytes size) m.plan c) m.rows m.entries
month_after size m (price b) = month_of m.plan (rows_after m.rows b) m.entries
month_after size m (call room b) =
    month_of m.plan m.rows
    (if is_zero (month_number size m (call room b)) then entries_after m.plan m.rows (take CALL-BYTES b) m.entries else m.entries)

abbrev pub month_from : ℕ → Month → List Event → Month
month_from size m [] = m
month_from size m (e ∷ es) = month_from size (month_after size m e) es

abbrev pub month_numbers : ℕ → Month → List Event → List ℕ
month_numbers size m [] = []
month_numbers size m (e ∷ es) = month_number size m e ∷ month_numbers size (month_after size m e) es

-- the calls of demand 3's list among them, and their numbers
abbrev pub plan_calls : List Event → List Call
plan_calls [] = []
plan_calls (plan_call c ∷ es) = c ∷ plan_calls es
plan_calls (price b ∷ es) = plan_calls es
plan_calls (call room b ∷ es) = plan_calls es

abbrev pub plan_numbers : List Event → List ℕ → List ℕ
plan_numbers [] ns = []
plan_numbers (e ∷ es) [] = []
plan_numbers (plan_call c ∷ es) (n ∷ ns) = n ∷ plan_numbers es ns
plan_numbers (price b ∷ es) (n ∷ ns) = plan_numbers es ns
plan_numbers (call room b ∷ es) (n ∷ ns) = plan_numbers es ns

-- BY THE PROMISES

-- what is lent to the calls of a month
pub record MonthLent : Type 0 where
  pub plan : List ℕ
  pub prices : List ℕ
  pub ledger : Ledger

abbrev pub lent_of : List ℕ → List ℕ → Ledger → MonthLent
lent_of plan prices ledger = record { plan = plan; prices = prices; ledger = ledger }

-- one call, its number, and what it leaves; what is not lent to it stays
pub data Meets : MonthLent → Event → ℕ → MonthLent → Type 0 where
  provides : {m left prices : List ℕ} {l : Ledger} {c : Call} {n : ℕ} → Provides c m left n → Meets (lent_of m prices l) (plan_call c) n (lent_of left prices l)
  adds_price : {m prices left b : List ℕ} {l : Ledger} {n : ℕ} → AddsPrice prices b left n → Meets (lent_of m prices l) (price b) n (lent_of m left l)
  takes_call : {m prices b out left : List ℕ} {l behind : Ledger} {r : Answered} → Takes m prices l b out behind left r
      → Meets (lent_of m prices l) (call (length out) b) r.refusal (lent_of m prices behind)

-- "from an empty ledger that nobody else writes": each call gets what the last one left
pub data Events : MonthLent → List Event → List ℕ → MonthLent → Type 0 where
  done : {l : MonthLent} → Events l [] [] l
  next : {l between behind : MonthLent} {e : Event} {es : List Event} {n : ℕ} {ns : List ℕ} → Meets l e n between → Events between es ns behind → Events l (e ∷ es) (n ∷ ns) behind
