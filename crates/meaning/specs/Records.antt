-- Document 01, "House records", and the records of C-11: the text that a file of records gives.
use Rattle.std.specs.Prelude.{ℕ, zero, suc, ◌+◌, ◌/◌, ◌%◌, Bool, true, false, ◌||◌, not, List, [], ◌∷◌, ◌++◌, map, ℤ, pos, negsuc, length, take, drop, ltb, eqb}
use Rattle.std.proofs.Math.Option.{Option, none, some}
use Rattle.meaning.specs.Sizes.{DIGIT-ROOM, DISTRICTS, RUN-SETS, RUN-RULES}
use Rattle.meaning.specs.Basics.{is_zero, word}
use Rattle.std.specs.Prelude.{if◌then◌else◌}
use Rattle.meaning.specs.Refusals.{CUT, KIND, PLAN}
use Rattle.meaning.specs.Settings.{rooms_of}
use Rattle.meaning.specs.Plan.{Plan}
use Rattle.meaning.specs.Answer.{Answer, answer}
use Rattle.meaning.specs.Reads.{Count, referrer_count, Listed, listing}
use Rattle.meaning.specs.Prices.{PriceRow, price_refusal, rows_after}
use Rattle.meaning.specs.Ledger.{Ledger, empty_ledger, totals_at, loss_of, cents, has_records}
use Rattle.meaning.specs.Charges.{charged, ledger_after}
use Rattle.meaning.specs.declared.Totals.{Totals}
use Rattle.meaning.specs.Calls.{NUMBER, REFS, LIST, CALL, PRICE, is_kind, is_call, body_length, call_of, refusal, after}

-- TEXT, as ASCII bytes

-- "Numbers are written in decimal": the digits of n in front of those in hand; `fuel` bounds how many
abbrev pub decimal_from : ℕ → ℕ → List ℕ → List ℕ
decimal_from zero n ds = ds
decimal_from (suc fuel) n ds = elim (ltb n 10) [ true ↦ (48 + n) ∷ ds | false ↦ decimal_from fuel (n / 10) ((48 + n % 10) ∷ ds) ]

unfoldable pub decimal : ℕ → List ℕ
decimal n = decimal_from (suc n) n []

-- "written 0 to 9 and a to f"
unfoldable pub digit_text : ℕ → ℕ
digit_text d = if ltb d 10 then 48 + d else 87 + d

-- "digit strings as digits, `-` for none"
abbrev pub digits_text : List ℕ → List ℕ
digits_text [] = 45 ∷ []
digits_text (d ∷ ds) = map digit_text (d ∷ ds)

-- "`*` for a wildcard"
abbrev pub prefix_text : List ℕ → List ℕ
prefix_text [] = 42 ∷ []
prefix_text (d ∷ ds) = map digit_text (d ∷ ds)

abbrev pub length_text : ℕ → List ℕ
length_text zero = 42 ∷ []
length_text (suc l) = decimal (suc l)

-- words with a space between two, and a newline at the end
abbrev pub line : List (List ℕ) → List ℕ
line [] = 10 ∷ []
line (w ∷ []) = w ++ (10 ∷ [])
line (w ∷ v ∷ ws) = w ++ (32 ∷ line (v ∷ ws))

-- THE LINES

-- `ok`
unfoldable pub ok_line : List ℕ
ok_line = line ((111 ∷ 107 ∷ []) ∷ [])

-- "A refusal writes `no` and its number"
unfoldable pub no_line : ℕ → List ℕ
no_line n = line ((110 ∷ 111 ∷ []) ∷ decimal n ∷ [])

-- "Kinds 0 to 6 write `ok`", and kind 17 (C-11)
abbrev pub accepted_line : ℕ → List ℕ
accepted_line zero = ok_line
accepted_line (suc r) = no_line (suc r)

-- "A number line is outcome, class, response, action count, digits"
unfoldable pub number_line : Answer → List ℕ
number_line a =
    if is_zero a.refusal
    then line (decimal a.outcome ∷ decimal a.class ∷ decimal a.response ∷ decimal a.count ∷ digits_text a.digits ∷ [])
    else no_line a.refusal

-- "Kind 8 writes `refs N`"
unfoldable pub refs_line : Count → List ℕ
refs_line c = if is_zero c.refusal then line ((114 ∷ 101 ∷ 102 ∷ 115 ∷ []) ∷ decimal c.number ∷ []) else no_line c.refusal

-- "A listed rule is class, prefix, length and set"
unfoldable pub listed_line : Listed → List ℕ
listed_line l = line (decimal l.filter.class ∷ prefix_text l.filter.prefix ∷ length_text l.filter.len ∷ decimal l.set ∷ [])

-- "`end` gives how many"
unfoldable pub end_line : ℕ → List ℕ
end_line n = line ((101 ∷ 110 ∷ 100 ∷ []) ∷ decimal n ∷ [])

abbrev pub listed_lines : List Listed → List ℕ
listed_lines [] = []
listed_lines (l ∷ ls) = listed_line l ++ listed_lines ls

abbrev pub list_text : Option Plan → List ℕ
list_text none = no_line PLAN
list_text (some p) = listed_lines (listing p) ++ end_line (length (listing p))

-- THE LOSSES (C-11)

-- in decimal, with a sign below zero: "as `17 -1`"
abbrev pub signed_decimal : ℤ → List ℕ
signed_decimal (pos n) = decimal n
signed_decimal (negsuc n) = 45 ∷ decimal (suc n)

-- "a line for each district .. and its loss"; "Only the printed line rounds, once"
unfoldable pub loss_line : ℕ → Totals → List ℕ
loss_line d t = line (decimal d ∷ signed_decimal (cents (loss_of t)) ∷ [])

-- "then `total` and the grand loss"
unfoldable pub total_line : Totals → List ℕ
total_line t = line ((116 ∷ 111 ∷ 116 ∷ 97 ∷ 108 ∷ []) ∷ signed_decimal (cents (loss_of t)) ∷ [])

-- "each district with records, rising": of n districts from d on
abbrev pub loss_lines : List ℤ → ℕ → ℕ → List ℕ
loss_lines ns d zero = []
loss_lines ns d (suc n) = (if has_records (totals_at ns d) then loss_line d (totals_at ns d) else []) ++ loss_lines ns (d + 1) n

unfoldable pub loss_text : Ledger → List ℕ
loss_text l = loss_lines l.districts 0 DISTRICTS ++ total_line l.whole

-- A RUN

-- "A program run uses at most 64 sets and 512 rules (more is ROOM there)": by each room (docs/DECISIONS.md, 1)
unfoldable pub lacks_program_room : List ℕ → Bool
lacks_program_room rooms = ltb RUN-SETS (rooms_of rooms).sets || ltb RUN-RULES (rooms_of rooms).rules

-- the state of a run: the plan in force, none where the memory holds no sound plan; the rows of its price list, and its ledger
pub record House : Type 0 where
  pub plan : Option Plan
  pub rows : List PriceRow
  pub ledger : Ledger

abbrev pub house_with : Option Plan → List PriceRow → Ledger → House
house_with s rs l = record { plan = s; rows = rs; ledger = l }

-- "an opening leaves rows and ledger", and so does every call that provisions
abbrev pub with_plan : Option Plan → House → House
with_plan s h = house_with s h.rows h.ledger

abbrev pub rows_or : List PriceRow → Option (List PriceRow) → List PriceRow
rows_or rs none = rs
rows_or rs (some new) = new

-- "Plan memory isn't sound until an opening is accepted"; no row and no record yet
abbrev pub new_house : House
new_house = house_with none [] empty_ledger

-- what a record writes: "Kind 16 writes the number's line", "Kind 17 .. writes `ok`"
unfoldable pub record_text : House → ℕ → List ℕ → List ℕ
record_text h k body =
    if is_call k then accepted_line (refusal lacks_program_room h.plan (call_of k body)) else
    if eqb k NUMBER then number_line (answer h.plan DIGIT-ROOM body) else
    if eqb k REFS then refs_line (referrer_count h.plan (word body 0)) else
    if eqb k LIST then list_text h.plan else
    if eqb k CALL then number_line (charged h.plan (some h.rows) h.ledger DIGIT-ROOM body) else
    if eqb k PRICE then accepted_line (price_refusal (some h.rows) body) else loss_text h.ledger

-- the state behind a record: "Kinds 17 and 18 don't look at the plan"
unfoldable pub record_house : House → ℕ → List ℕ → House
record_house h k body =
    if is_call k then with_plan (after lacks_program_room h.plan (call_of k body)) h else
    if eqb k CALL then house_with h.plan h.rows (ledger_after h.plan (some h.rows) h.ledger DIGIT-ROOM body) else
    if eqb k PRICE then house_with h.plan (rows_or h.rows (rows_after (some h.rows) body)) h.ledger else h

-- "One byte of kind, then a body"; "KIND before CUT"; "After KIND or CUT reading ends"; `fuel` bounds how many records
abbrev pub text_from : ℕ → House → List ℕ → List ℕ
text_from zero h bytes = []
text_from (suc fuel) h [] = []
text_from (suc fuel) h (k ∷ bytes) =
    let rest : List ℕ = text_from fuel (record_house h k (take (body_length k) bytes)) (drop (body_length k) bytes) in
    if not (is_kind k) then no_line KIND else
    if ltb (length bytes) (body_length k) then no_line CUT else record_text h k (take (body_length k) bytes) ++ rest

-- the text of a whole file; a record takes a byte at least
unfoldable pub file_text : List ℕ → List ℕ
file_text bytes = text_from (length bytes) new_house bytes

-- what ended reading: the refusal, KIND or CUT, or 0 where the file has come to its end; the place of that record's kind byte, counted from 0, or the file's length;
-- and the state that is left
pub record End : Type 0 where
  pub refusal : ℕ
  pub place : ℕ
  pub house : House

abbrev pub end_here : ℕ → House → End
end_here refusal h = record { refusal = refusal; place = 0; house = h }

-- the same, with so many bytes before it
abbrev pub end_behind : ℕ → End → End
end_behind n e = record { refusal = e.refusal; place = n + e.place; house = e.house }

abbrev pub end_from : ℕ → House → List ℕ → End
end_from zero h bytes = end_here 0 h
end_from (suc fuel) h [] = end_here 0 h
end_from (suc fuel) h (k ∷ bytes) =
    let rest : End = end_from fuel (record_house h k (take (body_length k) bytes)) (drop (body_length k) bytes) in
    if not (is_kind k) then end_here KIND h else
    if ltb (length bytes) (body_length k) then end_here CUT h else end_behind (1 + body_length k) rest

-- "After KIND or CUT reading ends": where, and with what
unfoldable pub file_end : List ℕ → End
file_end bytes = end_from (length bytes) new_house bytes
