-- C-11's call record: what it is due by the plan and the price list as they stand, how it is answered, and the ledger that it leaves.
use Rattle.std.specs.Prelude.{ℕ, ◌*◌, Bool, true, ◌&&◌, not, List, [], ◌∷◌, length, take, leb, ltb, eqb}
use Rattle.std.proofs.Math.Option.{Option, none, some}
use Rattle.meaning.specs.Sizes.{NUMBER-BYTES, DISTRICT-AT, SECONDS-AT, BILLED-AT, CALL-HEAD, CALL-BYTES, DIGIT-ROOM, DISTRICTS}
use Rattle.meaning.specs.Basics.{all_of, is_zero, is_some, part, word, quad}
use Rattle.std.specs.Prelude.{if◌then◌else◌}
use Rattle.meaning.specs.Refusals.{CUT, PLAN, ROOM, RANGE, NO-PRICE, LEDGER-FULL, Line, first_of}
use Rattle.meaning.specs.Settings.{Number, number_of, number_in_range}
use Rattle.meaning.specs.Plan.{Plan}
use Rattle.meaning.specs.Answer.{RESPONDED, FORMATTED, Answer, refused, answer_of, checked}
use Rattle.meaning.specs.Prices.{PriceRow, price_for}
use Rattle.meaning.specs.Ledger.{UNITS, Ledger, ledger_in_range, is_full, Entry, entered}

-- THE RECORD: "account (4 bytes ..), district (2 ..), seconds (4 ..), billed (4, in thousandths of a cent ..), then a number record's body"
pub record CallRecord : Type 0 where
  pub account : ℕ
  pub district : ℕ
  pub seconds : ℕ
  pub billed : ℕ
  pub number : List ℕ

unfoldable pub call_record_of : List ℕ → CallRecord
call_record_of b =
    record { account = quad b 0; district = word b DISTRICT-AT; seconds = quad b SECONDS-AT; billed = quad b BILLED-AT; number = part CALL-HEAD NUMBER-BYTES b }

-- "seconds (4, at most 86,400)"
abbrev pub SECONDS-LIMIT : ℕ
SECONDS-LIMIT = 86400

-- "billed (.. at most 1,440,000,000)"
abbrev pub BILLED-LIMIT : ℕ
BILLED-LIMIT = 1440000000

-- RANGE; "district (2, up to 511)"
abbrev pub call_ranges : List ℕ → List Bool
call_ranges b =
    let c : CallRecord = call_record_of b in
    ltb c.district DISTRICTS ∷ leb c.seconds SECONDS-LIMIT ∷ leb c.billed BILLED-LIMIT ∷ number_in_range c.number ∷ []

unfoldable pub call_in_range : List ℕ → Bool
call_in_range b = all_of (call_ranges b)

-- WHAT IT IS DUE

-- "Outcome 4 is priced on the outgoing digits; 0, 1 and 3 on the incoming; 2 is due nothing": by the outcome and the two
abbrev pub priced_by : ℕ → List ℕ → List ℕ → Option (List ℕ)
priced_by outcome incoming outgoing = if eqb outcome FORMATTED then some outgoing else if eqb outcome RESPONDED then none else some incoming

unfoldable pub priced_on : Number → Answer → Option (List ℕ)
priced_on n a = priced_by a.outcome n.digits a.digits

-- "due is seconds times price"; none where no row fits
abbrev pub times_price : ℕ → Option ℕ → Option ℕ
times_price seconds none = none
times_price seconds (some price) = some (seconds * price)

abbrev pub due_on : List PriceRow → ℕ → Option (List ℕ) → Option ℕ
due_on rs seconds none = some 0
due_on rs seconds (some ds) = times_price seconds (price_for rs ds)

unfoldable pub due_of : List PriceRow → ℕ → Number → Answer → Option ℕ
due_of rs seconds n a = due_on rs seconds (priced_on n a)

-- what it adds where it is accepted: its district and its due; "billed is taken times 60"
abbrev pub entry_with : CallRecord → Option ℕ → Entry
entry_with c none = record { district = c.district; due = 0; billed = c.billed * UNITS }
entry_with c (some due) = record { district = c.district; due = due; billed = c.billed * UNITS }

-- the number of a call record, and its answer
abbrev pub number_in : List ℕ → Number
number_in b = number_of (call_record_of b).number

abbrev pub due_by : Plan → List PriceRow → List ℕ → Option ℕ
due_by p rs b = due_of rs (call_record_of b).seconds (number_in b) (answer_of p (number_in b))

unfoldable pub entry_of : Plan → List PriceRow → List ℕ → Entry
entry_of p rs b = entry_with (call_record_of b) (due_by p rs b)

-- THE CALL, over a sound plan or none, the rows of a price list or none where it is out of range, any ledger, a lent digit buffer of `size` bytes and a body of any length

-- "14 NO PRICE (no row fits, outcome 2 excepted) and 15 LEDGER FULL, after 13"
unfoldable pub charge_lines : Plan → List PriceRow → Ledger → List ℕ → List Line
charge_lines p rs l b =
    let a : Answer = answer_of p (number_in b) in
    (not (call_in_range b && ledger_in_range l), RANGE)
    ∷ (not (is_zero a.refusal), a.refusal)
    ∷ (not (is_some (due_by p rs b)), NO-PRICE)
    ∷ (is_full l, LEDGER-FULL) ∷ []

abbrev pub over_prices : Option (List PriceRow) → (List PriceRow → List Line) → List Line
over_prices none lines = (true, RANGE) ∷ []
over_prices (some rs) lines = lines rs

abbrev pub taking_lines : Option Plan → Option (List PriceRow) → Ledger → ℕ → List ℕ → List Line
taking_lines none s l size body = (ltb (length body) CALL-BYTES, CUT) ∷ (true, PLAN) ∷ []
taking_lines (some p) s l size body =
    (ltb (length body) CALL-BYTES, CUT) ∷ (ltb size DIGIT-ROOM, ROOM) ∷ over_prices s (λ (rs : List PriceRow). charge_lines p rs l (take CALL-BYTES body))

-- the number that it is answered with: 0 where it is accepted
unfoldable pub taking_refusal : Option Plan → Option (List PriceRow) → Ledger → ℕ → List ℕ → ℕ
taking_refusal s rows l size body = first_of (taking_lines s rows l size body)

abbrev pub answer_in : Option Plan → List ℕ → Answer
answer_in none b = refused PLAN
answer_in (some p) b = answer_of p (number_in b)

-- the number's answer, or a refusal
unfoldable pub charged : Option Plan → Option (List PriceRow) → Ledger → ℕ → List ℕ → Answer
charged s rows l size body = checked (taking_refusal s rows l size body) (answer_in s (take CALL-BYTES body))

-- the ledger afterwards; what an accepted record adds, by the plan and the rows
abbrev pub entered_by : Option Plan → Option (List PriceRow) → List ℕ → Ledger → Ledger
entered_by none rows b l = l
entered_by (some p) none b l = l
entered_by (some p) (some rs) b l = entered (entry_of p rs b) l

-- "None changes a sum"
unfoldable pub ledger_after : Option Plan → Option (List PriceRow) → Ledger → ℕ → List ℕ → Ledger
ledger_after s rows l size body = if is_zero (taking_refusal s rows l size body) then entered_by s rows (take CALL-BYTES body) l else l
