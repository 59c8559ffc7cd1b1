-- The records of an input that comes in parts: what one step does, over the state of the run, how many lines of a listing or of the losses are counted already, whether
-- the input has ended, the part of it that is at hand, and how many bytes there are for the output.
use Rattle.std.specs.Prelude.{ℕ, ◌+◌, Bool, false, not, List, [], ◌∷◌, length, take, ltb, leb, eqb}
use Rattle.std.proofs.Math.Option.{Option, none, some}
use Rattle.std.proofs.Math.ListN.{get_elem?}
use Rattle.std.specs.Prelude.{if◌then◌else◌}
use Rattle.meaning.specs.Refusals.{CUT, KIND, PLAN}
use Rattle.meaning.specs.Plan.{Plan}
use Rattle.meaning.specs.Reads.{Listed, listing}
use Rattle.meaning.specs.Calls.{LIST, LOSSES, is_kind, body_length}
use Rattle.meaning.specs.Records.{House, no_line, listed_line, end_line, record_text, record_house}
use Rattle.text.specs.Writes.{LONGEST}
use Rattle.billing.specs.Parts.{Part, last_part, part_before, loss_part}

-- what a step does: a line, with the bytes of input that it takes and what it leaves; or nothing, since there is no whole record yet, or no room for a
-- line; or the last line, or none, and reading has ended with a refusal, or 0
pub data Turn : Type 0 where
  wrote : (text : List ℕ) (taken : ℕ) (house : House) (lines : ℕ) → Turn
  wants : Turn
  full : Turn
  ends : (text : List ℕ) (refusal : ℕ) → Turn

-- THE LINES OF A RECORD

-- of a listing: "A listed rule is class, prefix, length and set .. `end` gives how many"
abbrev pub listed_part : Plan → ℕ → Option Listed → Part
listed_part p lines none = last_part (end_line (length (listing p)))
listed_part p lines (some l) = part_before (lines + 1) (listed_line l)

abbrev pub list_part : Option Plan → ℕ → Part
list_part none lines = last_part (no_line PLAN)
list_part (some p) lines = listed_part p lines (get_elem? (listing p) lines)

-- every other record writes one line
unfoldable pub record_part : House → ℕ → ℕ → List ℕ → Part
record_part s lines k body =
    if eqb k LIST then list_part s.plan lines else
    if eqb k LOSSES then loss_part s.ledger lines else last_part (record_text s k body)

-- the last line takes the record's bytes
abbrev pub turn_by : House → ℕ → List ℕ → List ℕ → Option ℕ → Turn
turn_by s k body text none = wrote text (1 + body_length k) (record_house s k body) 0
turn_by s k body text (some next) = wrote text 0 s next

-- a whole record
unfoldable pub record_turn : House → ℕ → ℕ → List ℕ → Turn
record_turn s lines k body = turn_by s k body (record_part s lines k body).text (record_part s lines k body).next

-- "KIND before CUT"; CUT only where the input has ended
unfoldable pub turn_at : House → ℕ → Bool → ℕ → List ℕ → Turn
turn_at s lines ended k bytes =
    if not (is_kind k) then ends (no_line KIND) KIND else
    if ltb (length bytes) (body_length k) then (if ended then ends (no_line CUT) CUT else wants) else
    record_turn s lines k (take (body_length k) bytes)

abbrev pub turn : House → ℕ → Bool → List ℕ → ℕ → Turn
turn s lines ended [] room = if ended then ends [] 0 else wants
turn s lines ended (k ∷ bytes) room = if ltb room LONGEST then full else turn_at s lines ended k bytes

-- whether a part has a whole record, so that a step need not wait for more; a byte that is no kind has no body
abbrev pub is_whole : List ℕ → Bool
is_whole [] = false
is_whole (k ∷ bytes) = leb (body_length k) (length bytes)
