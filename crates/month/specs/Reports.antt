-- What kind 18 writes in any file of records: the lines of the sums of the accepted call records before it in that file, district by district, and their total.
use Rattle.std.specs.Prelude.{ℕ, zero, suc, ◌+◌, ◌≡◌, not, List, [], ◌∷◌, ◌++◌, length, take, drop, ltb, eqb}
use Rattle.std.proofs.Math.Option.{Option, none, some}
use Rattle.meaning.specs.Sizes.{CALL-BYTES, DIGIT-ROOM, DISTRICTS}
use Rattle.meaning.specs.Basics.{is_zero, is_empty}
use Rattle.std.specs.Prelude.{if◌then◌else◌}
use Rattle.meaning.specs.Plan.{Plan}
use Rattle.meaning.specs.Prices.{PriceRow}
use Rattle.meaning.specs.Ledger.{Ledger, Entry}
use Rattle.meaning.specs.Charges.{entry_of, taking_refusal}
use Rattle.meaning.specs.Calls.{CALL, LOSSES, is_kind, body_length}
use Rattle.meaning.specs.Records.{House, new_house, loss_line, total_line, loss_text, record_house, text_from, file_text, file_end}
use Rattle.month.specs.Entries.{of_district, totals_over, ledger_over}

-- THE ACCEPTED CALL RECORDS OF A FILE

-- "each priced as the rows then stood", and by the plan then in force
abbrev pub entry_by : Option Plan → List PriceRow → List ℕ → List Entry
entry_by none rs b = []
entry_by (some p) rs b = entry_of p rs b ∷ []

-- what a call record adds: its entry where it is accepted, and else none
abbrev pub entries_of_call : Option Plan → List PriceRow → Ledger → List ℕ → List Entry
entries_of_call s rs l body = if is_zero (taking_refusal s (some rs) l DIGIT-ROOM body) then entry_by s rs (take CALL-BYTES body) else []

-- and what any record adds: kind 16 alone adds an entry
unfoldable pub record_entries : House → ℕ → List ℕ → List Entry
record_entries h k body = if eqb k CALL then entries_of_call h.plan h.rows h.ledger body else []

-- of some bytes, in order, from a state on; "After KIND or CUT reading ends"; `fuel` bounds how many records
abbrev pub entries_in : ℕ → House → List ℕ → List Entry
entries_in zero h bytes = []
entries_in (suc fuel) h [] = []
entries_in (suc fuel) h (k ∷ bytes) =
    let rest : List Entry = entries_in fuel (record_house h k (take (body_length k) bytes)) (drop (body_length k) bytes) in
    if not (is_kind k) then [] else
    if ltb (length bytes) (body_length k) then [] else record_entries h k (take (body_length k) bytes) ++ rest

-- of a whole file; a record takes a byte at least
unfoldable pub entries_of : List ℕ → List Entry
entries_of bytes = entries_in (length bytes) new_house bytes

-- THEIR LINES

-- "each district with records, rising", and the loss of its records: of n districts from d on
abbrev pub lines_over : ℕ → ℕ → List Entry → List ℕ
lines_over d zero es = []
lines_over d (suc n) es = (if is_empty (of_district d es) then [] else loss_line d (totals_over (of_district d es))) ++ lines_over (d + 1) n es

-- "then `total` and the grand loss"
unfoldable pub report_over : List Entry → List ℕ
report_over es = lines_over 0 DISTRICTS es ++ total_line (totals_over es)

-- WHAT IS CLAIMED of kind 18 behind the records of `front` and before the bytes of `rest`
pub record Reports (front rest : List ℕ) : Type 0 where
  -- it writes the lines of a ledger, between the text of the records before it and that of the records behind it
  pub text : file_text (front ++ (LOSSES ∷ rest)) ≡ file_text front ++ (loss_text (ledger_over (entries_of front)) ++ text_from (length rest) (file_end front).house rest)
  -- whose sums are those of the accepted call records before it
  pub sums : (file_end front).house.ledger ≡ ledger_over (entries_of front)
  -- and whose lines are theirs, district by district, and their total
  pub lines : loss_text (ledger_over (entries_of front)) ≡ report_over (entries_of front)

-- in any file whose bytes before it are whole records of known kinds
abbrev pub EveryReport : Type 0
EveryReport = (front rest : List ℕ) → (file_end front).refusal ≡ 0 → Reports front rest
