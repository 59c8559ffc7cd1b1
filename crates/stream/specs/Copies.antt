-- All turns of a copy: what they were given, in order, what they wrote, in order, and how they end.
use Rattle.std.specs.Prelude.{ℕ, ◌+◌, ◌≤◌, ◌≡◌, ◌⊎◌, true, List, [], ◌++◌, ℤ, length, take, drop}
use Rattle.meaning.specs.Ledger.{empty_ledger}
use Rattle.meaning.specs.Records.{file_text, file_end}
use Rattle.buffer.specs.Zeros.{zeros}
use Rattle.record.specs.declared.Run.{Run}
use Rattle.record.specs.Promises.{Lent, house_of, ending_number, start, new_lent}
use Rattle.descriptors.specs.Moves.{new_source, new_sink}
use Rattle.stream.specs.Turnings.{left_of, Turnable, UnreadTurn, Turning}
use Rattle.stream.specs.declared.Rest.{Rest}
use Rattle.stream.specs.declared.Ending.{Ending}
use Rattle.stream.specs.declared.Turned.{Turned}
use Rattle.stream.specs.declared.Turned.TheVariants.{Goes, Done, NotRead, NotWritten, Spent}

-- the largest buffer, and the most turns: 2^47, so that 64-bit counts of all that they read and write do not overflow
abbrev pub BUFFER : ℕ
BUFFER = 65536

abbrev pub TURNS : ℕ
TURNS = 140737488355328

-- before the first turn
abbrev pub first : ℤ → ℤ → Rest
first from to = record { run = start; source = new_source from; sink = new_sink to; at = 0; end = 0 }

-- what is lent is cleared first
pub record BeginPromise (plan prices plan_left prices_left : List ℕ) (districts_left : List ℤ) (run : Run) : Type 0 where
  pub run_is : run ≡ start
  pub no_plan : plan_left ≡ zeros (length plan)
  pub no_rows : prices_left ≡ zeros (length prices)
  pub no_records : districts_left ≡ empty_ledger.districts

-- what a turn was given: the bytes that stand behind what was left when it returns; and what it wrote: the front of the output
module _ {m after : Lent} {rest : Rest} {input output input_left output_left : List ℕ} {t : Turned} where
  abbrev pub given_in : Turning m rest input output after input_left output_left t → List ℕ
  given_in w = drop (left_of rest) (take w.hand.end input_left)

  abbrev pub written_in : Turning m rest input output after input_left output_left t → List ℕ
  written_in w = take w.so.pumped.written output_left

-- CHAINS OF TURNS from a cleared memory, price list and ledger and two buffers, each getting what the last one left: how many; what they were given and what they wrote;
-- and what is lent, the state and the buffers as they leave them
pub data Chain (from to : ℤ) (size : ℕ) (first_input first_output : List ℕ) : ℕ → List ℕ → List ℕ → Lent → Rest → List ℕ → List ℕ → Type 0 where
  begun : Chain from to size first_input first_output 0 [] [] (new_lent (zeros size)) (first from to) first_input first_output
  turned : {n : ℕ} {given written : List ℕ} {m after : Lent} {input output input_left output_left : List ℕ} {rest next : Rest}
      → Chain from to size first_input first_output n given written m rest input output → Turnable m rest (length input) (length output)
      → (w : Turning m rest input output after input_left output_left (Goes next))
      → Chain from to size first_input first_output (n + 1) (given ++ given_in w) (written ++ written_in w) after next input_left output_left

-- THE PROMISE OF A COPY: a chain of turns, and how the last one ended, over what is lent and the buffers as they are left
abbrev pub LastTurn : Lent → Rest → List ℕ → List ℕ → Lent → List ℕ → List ℕ → ℕ → Turned → Type 0
LastTurn m rest input output after input_left output_left n (Goes next) = ⊥
LastTurn m rest input output after input_left output_left n (Done e) = Turning m rest input output after input_left output_left (Done e)
LastTurn m rest input output after input_left output_left n (NotRead r) = UnreadTurn m rest input output after input_left output_left (NotRead r)
LastTurn m rest input output after input_left output_left n (NotWritten r) = Turning m rest input output after input_left output_left (NotWritten r)
LastTurn m rest input output after input_left output_left n (Spent r) = (n ≡ TURNS) × (r ≡ rest) × (after ≡ m) × (input_left ≡ input) × (output_left ≡ output)

pub record CopyPromise (from to : ℤ) (size : ℕ) (first_input first_output : List ℕ) (after : Lent) (input_left output_left : List ℕ) (t : Turned) : Type 0 where
  pub turns : ℕ
  pub given : List ℕ
  pub written : List ℕ
  pub memory : Lent
  pub rest : Rest
  pub input : List ℕ
  pub output : List ℕ
  pub chain : Chain from to size first_input first_output turns given written memory rest input output
  pub ready : Turnable memory rest (length input) (length output)
  pub ends : LastTurn memory rest input output after input_left output_left turns t

-- THE CLAIM: what the turns of a copy that is done wrote, all of it in order, is document 01's text of the file, and reading ended where and as it says, with its plan,
-- its price list and its ledger in what is lent. The file is all that the turns were given, in order, and whatever comes behind it where the input had not ended. The source counts all that was
-- given, and the sink all that was written. That the system gave and took these very bytes no promise says (docs/PROMISES.md).
pub record WholeFile (given written : List ℕ) (after : Lent) (e : Ending) : Type 0 where
  pub text_is : (more : List ℕ) → (e.rest.source.ended ≡ true → more ≡ []) → written ≡ file_text (given ++ more)
  pub end_is : (more : List ℕ) → (e.rest.source.ended ≡ true → more ≡ []) → record { refusal = ending_number e.refusal; place = e.place; house = house_of after } ≡ file_end (given ++ more)
  pub all_given : e.rest.source.given ≡ length given
  pub all_written : e.rest.sink.written ≡ length written

-- a text that begins with another
pub record Begins (text front : List ℕ) : Type 0 where
  pub behind : List ℕ
  pub is : text ≡ front ++ behind

-- for every copy, by its promise
module _ (from to : ℤ) (size : ℕ) (first_input first_output : List ℕ) (after : Lent) (input_left output_left : List ℕ) where
  abbrev pub AnyCopy : Type 0
  AnyCopy = (e : Ending) (c : CopyPromise from to size first_input first_output after input_left output_left (Done e))
      → WholeFile (c.given ++ given_in c.ends) (c.written ++ written_in c.ends) after e

  -- WHATEVER ENDS A COPY, nothing else was written: the text of every file that begins with what was given begins with it
  abbrev pub AnyFront : Type 0
  AnyFront = (t : Turned) (c : CopyPromise from to size first_input first_output after input_left output_left t) (more : List ℕ) → (c.rest.source.ended ≡ true → more ≡ [])
      → Begins (file_text (c.given ++ more)) c.written

  -- and so does a text that was handed out and could not be written, or not all of it
  abbrev pub AnyUnwritten : Type 0
  AnyUnwritten = (r : Rest) (c : CopyPromise from to size first_input first_output after input_left output_left (NotWritten r)) (more : List ℕ) → (r.source.ended ≡ true → more ≡ [])
      → Begins (file_text ((c.given ++ given_in c.ends) ++ more)) (c.written ++ written_in c.ends)

  -- turns are spent only by as many bytes
  abbrev pub FewTurns : Type 0
  FewTurns = (t : Turned) (c : CopyPromise from to size first_input first_output after input_left output_left t) → c.turns ≤ length c.given + length c.written

-- since a turn was given a byte, or wrote one, or is the last
abbrev pub EachMoves : Type 0
EachMoves = (m : Lent) (rest : Rest) (input output : List ℕ) (after : Lent) (input_left output_left : List ℕ) (next : Rest) → Turnable m rest (length input) (length output)
    → (w : Turning m rest input output after input_left output_left (Goes next)) → (1 ≤ length (given_in w)) ⊎ (1 ≤ length (written_in w))
