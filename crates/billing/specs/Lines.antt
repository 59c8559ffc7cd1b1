-- What the lines of a number, of a call record, of a row and of the losses promise.
use Rattle.std.specs.Prelude.{ℕ, ◌≡◌, Bool, true, false, List, Option as Optional, Some, None}
use Rattle.std.proofs.Math.Option.{Option, none, some}
use Rattle.meaning.specs.Sizes.{DIGIT-ROOM}
use Rattle.meaning.specs.Plan.{Plan}
use Rattle.meaning.specs.Answer.{Answer, answer}
use Rattle.meaning.specs.Prices.{PriceRow, price_refusal, rows_after}
use Rattle.meaning.specs.Ledger.{Ledger}
use Rattle.meaning.specs.Charges.{call_record_of, charged, ledger_after}
use Rattle.meaning.specs.Records.{accepted_line, number_line, rows_or}
use Rattle.prices.specs.Layout.{prices_image, rows_in}
use Rattle.charging.specs.Promises.{Chargeable, Priceable}
use Rattle.text.specs.Writes.{Writes}
use Rattle.billing.specs.Parts.{loss_part}
use Rattle.billing.specs.declared.Reported.{Reported}

-- A NUMBER, alone or in a call record

-- its answer, and the ledger that it leaves
abbrev pub answered_by : Bool → Option Plan → List PriceRow → Ledger → List ℕ → Answer
answered_by true s rs l body = charged s (some rs) l DIGIT-ROOM body
answered_by false s rs l body = answer s DIGIT-ROOM body

abbrev pub ledger_by : Bool → Option Plan → List PriceRow → Ledger → List ℕ → Ledger
ledger_by true s rs l body = ledger_after s (some rs) l DIGIT-ROOM body
ledger_by false s rs l body = l

-- its line: "Kind 16 writes the number's line"
pub record AnsweredPromise (call : Bool) (s : Option Plan) (rs : List PriceRow) (l : Ledger) (body output : List ℕ) (after : Ledger) (left : List ℕ) (written : ℕ) : Type 0 where
  pub line : Writes (number_line (answered_by call s rs l body)) output left written
  pub ledger : after ≡ ledger_by call s rs l body

-- a number of a record: the body itself, or the number of a call record that can be charged
pub record OfRecord (call : Bool) (l : Ledger) (body number : List ℕ) : Type 0 where
  pub alone : call ≡ false → number ≡ body
  pub charged_with : call ≡ true → Chargeable l body
  pub in_record : call ≡ true → number ≡ (call_record_of body).number

-- the same of a call record that can be charged by a price list
pub record OfPricedRecord (call : Bool) (prices : List ℕ) (l : Ledger) (body number : List ℕ) : Type 0 where
  pub alone : call ≡ false → number ≡ body
  pub charged_with : call ≡ true → Priceable prices l body
  pub in_record : call ≡ true → number ≡ (call_record_of body).number

-- of a row: "Kind 17 .. writes `ok`"
pub record PricePromise (m body output after left : List ℕ) (written : ℕ) : Type 0 where
  pub line : Writes (accepted_line (price_refusal (some (rows_in m)) body)) output left written
  pub memory : after ≡ prices_image (rows_or (rows_in m) (rows_after (some (rows_in m)) body))

-- of the losses: the next line, and where more are to come how many are counted behind it
abbrev pub next_of : Optional ℕ → Option ℕ
next_of (Some n) = some n
next_of None = none

pub record LossPromise (l : Ledger) (lines : ℕ) (output left : List ℕ) (r : Reported) : Type 0 where
  pub line : Writes (loss_part l lines).text output left r.written
  pub next_is : next_of r.next ≡ (loss_part l lines).next
