-- What a step promises, over what is lent to a run: the memory of its plan, its price list and its ledger.
use Rattle.std.specs.Prelude.{ℕ, ◌+◌, ◌≤◌, ◌≡◌, Bool, true, false, List, [], ◌∷◌, ◌++◌, ℤ, pos, length, take, drop, leb, eqb, Option, Some, None}
use Rattle.meaning.specs.Sizes.{PRICES-BYTES, LEDGER-NUMBERS, RUN-BYTES}
use Rattle.meaning.specs.Basics.{all_of, written_over}
use Rattle.std.specs.Prelude.{if◌then◌else◌}
use Rattle.meaning.specs.Refusals.{CUT}
use Rattle.meaning.specs.Ledger.{ledger_of, totals_of, empty_ledger, ledger_in_range}
use Rattle.meaning.specs.Records.{House, house_with, no_line, file_text, End, file_end}
use Rattle.meaning.specs.Answers.{number_of_refusal}
use Rattle.meaning.specs.declared.Refusal.{Refusal}
use Rattle.meaning.specs.declared.Refusal.TheVariants.{Cut as CutShort}
use Rattle.meaning.specs.declared.Totals.{Totals}
use Rattle.buffer.specs.Zeros.{zeros}
use Rattle.plan.specs.State.{sound_of, state_of}
use Rattle.changes.specs.Promise.{memory_of}
use Rattle.prices.specs.Layout.{prices_image, rows_in, prices_in_range}
use Rattle.run.specs.Runs.{InRun}
use Rattle.record.specs.Turns.{Turn, wrote, wants, full, ends, turn}
use Rattle.record.specs.Cuts.{Cut}
use Rattle.record.specs.declared.Run.{Run}
use Rattle.record.specs.declared.Line.{Line}
use Rattle.record.specs.declared.Last.{Last}
use Rattle.record.specs.declared.Stepped.{Stepped}
use Rattle.record.specs.declared.Stepped.TheVariants.{Wrote, Wants, Full, Ends}

-- WHAT IS LENT TO A RUN; it holds the whole's totals itself

pub record Lent : Type 0 where
  pub plan : List ℕ
  pub prices : List ℕ
  pub districts : List ℤ
  pub whole : Totals

abbrev pub lent : List ℕ → List ℕ → List ℤ → Totals → Lent
lent plan prices districts whole = record { plan = plan; prices = prices; districts = districts; whole = whole }

-- the state of a run by what is lent to it
abbrev pub house_of : Lent → House
house_of m = house_with (state_of m.plan) (rows_in m.prices) (ledger_of m.districts m.whole)

-- the state of one that has a plan alone
abbrev pub plan_house : List ℕ → House
plan_house m = house_with (state_of m) [] empty_ledger

-- how a state lies in what is lent; the bytes behind the plan stay
abbrev pub lent_for : House → Lent → Lent
lent_for h m = lent (memory_of h.plan m.plan) (prices_image h.rows) h.ledger.districts h.ledger.whole

-- what is lent is a run's: `opened` tells whether its memory holds a sound plan, and the price list and the ledger are in range
pub record InHouse (m : Lent) (opened : Bool) : Type 0 where
  pub plan_in : InRun m.plan opened
  pub prices_in : prices_in_range m.prices ≡ true
  pub size : length m.districts ≡ LEDGER-NUMBERS
  pub ledger_in : ledger_in_range (ledger_of m.districts m.whole) ≡ true

-- a line, and what it leaves
abbrev pub line_of : ℕ → ℕ → Bool → ℕ → Totals → Line
line_of taken written opened lines whole =
    record { taken = taken; written = written; run = record { opened = opened; lines = lines; whole = whole } }

-- the number of the refusal that reading ends with, or 0
abbrev pub ending_number : Option Refusal → ℕ
ending_number None = 0
ending_number (Some r) = number_of_refusal r

-- what a step's answer says: the text stands at the front of the output; and the state that the memory holds
abbrev pub turn_of : Stepped → List ℕ → House → Turn
turn_of (Wrote l) output s = wrote (take l.written output) l.taken s l.run.lines
turn_of Wants output s = wants
turn_of Full output s = full
turn_of (Ends e) output s = ends (take e.written output) (ending_number e.refusal)

-- how many bytes an answer says are written
abbrev pub written_by : Stepped → ℕ
written_by (Wrote l) = l.written
written_by Wants = 0
written_by Full = 0
written_by (Ends e) = e.written

-- the whole's totals behind an answer
abbrev pub whole_behind : Totals → Stepped → Totals
whole_behind w (Wrote l) = l.run.whole
whole_behind w Wants = w
whole_behind w Full = w
whole_behind w (Ends e) = w

-- what a turn writes, and the state that it leaves
abbrev pub text_of : Turn → List ℕ
text_of (wrote text taken s lines) = text
text_of wants = []
text_of full = []
text_of (ends text refusal) = text

abbrev pub house_after : Turn → House → House
house_after (wrote text taken t lines) s = t
house_after wants s = s
house_after full s = s
house_after (ends text refusal) s = s

-- and how that state lies in what is lent
abbrev pub lent_after : Turn → Lent → Lent
lent_after (wrote text taken t lines) m = lent_for t m
lent_after wants m = m
lent_after full m = m
lent_after (ends text refusal) m = m

-- the flag that an answer hands on is right
abbrev pub OpenedRight : Stepped → Lent → Type 0
OpenedRight (Wrote l) m = sound_of m.plan ≡ l.run.opened
OpenedRight Wants m = Unit {0}
OpenedRight Full m = Unit {0}
OpenedRight (Ends e) m = Unit {0}

-- THE PROMISE OF A LINE that leaves the plan as it was: the turn's text, and what the line hands on
pub record ReadPromise (t : Turn) (m : List ℕ) (run : Run) (output left : List ℕ) (r : Line) : Type 0 where
  pub turn_is : turn_of (Wrote r) left (plan_house m) ≡ t
  pub output_is : left ≡ written_over (text_of t) output
  pub count_is : r.written ≡ length (text_of t)
  pub inside : r.written ≤ length output
  pub opened_is : r.run.opened ≡ run.opened
  pub whole_is : r.run.whole ≡ run.whole

-- of a line by the plan alone: the plan's memory as the turn leaves the plan
pub record PlanPromise (t : Turn) (m : List ℕ) (run : Run) (output after left : List ℕ) (r : Line) : Type 0 where
  pub turn_is : turn_of (Wrote r) left (plan_house after) ≡ t
  pub output_is : left ≡ written_over (text_of t) output
  pub count_is : r.written ≡ length (text_of t)
  pub inside : r.written ≤ length output
  pub memory_is : after ≡ memory_of (house_after t (plan_house m)).plan m
  pub opened_is : sound_of after ≡ r.run.opened
  pub whole_is : r.run.whole ≡ run.whole

-- and of any line: all that is lent as the turn leaves the state
pub record LinePromise (t : Turn) (m : Lent) (output : List ℕ) (after : Lent) (left : List ℕ) (r : Line) : Type 0 where
  pub turn_is : turn_of (Wrote r) left (house_of after) ≡ t
  pub output_is : left ≡ written_over (text_of t) output
  pub count_is : r.written ≡ length (text_of t)
  pub inside : r.written ≤ length output
  pub memory_is : after ≡ lent_after t m
  pub opened_is : sound_of after.plan ≡ r.run.opened

-- the last line of so many bytes, and the refusal that it writes
abbrev pub last_of : ℕ → Option Refusal → Last
last_of written refusal = record { written = written; refusal = refusal }

-- A BODY THAT IS CUT: its line where the input has ended
abbrev pub cut_answer : Bool → ℕ → Stepped
cut_answer ended n = if ended then Ends (last_of n (Some CutShort)) else Wants

abbrev pub cut_text : Bool → List ℕ
cut_text ended = if ended then no_line CUT else []

pub record CutPromise (ended : Bool) (output left : List ℕ) (r : Stepped) : Type 0 where
  pub answer_is : r ≡ cut_answer ended (length (no_line CUT))
  pub output_is : left ≡ written_over (cut_text ended) output
  pub inside : length (cut_text ended) ≤ length output

-- THE PROMISE OF A STEP: its answer is the turn's, with the text at the front of the output, the bytes behind it as they were, and all that is lent as the
-- turn leaves the state
pub record StepPromise (m : Lent) (lines : ℕ) (ended : Bool) (input output : List ℕ) (after : Lent) (left : List ℕ) (r : Stepped) : Type 0 where
  pub turn_is : turn_of r left (house_of after) ≡ turn (house_of m) lines ended input (length output)
  pub output_is : left ≡ written_over (text_of (turn (house_of m) lines ended input (length output))) output
  pub count_is : written_by r ≡ length (text_of (turn (house_of m) lines ended input (length output)))
  pub inside : written_by r ≤ length output
  pub memory_is : after ≡ lent_after (turn (house_of m) lines ended input (length output)) m
  pub opened_is : OpenedRight r after

-- OF A STEP OVER ANYTHING LENT: none over a memory that is too small for a run's plan, or a price list or ledger out of range, and nothing is changed
abbrev pub fit_tests : Lent → List Bool
fit_tests m =
    leb RUN-BYTES (length m.plan) ∷ prices_in_range m.prices ∷ eqb (length m.districts) LEDGER-NUMBERS ∷ ledger_in_range (ledger_of m.districts m.whole) ∷ []

abbrev pub is_fit : Lent → Bool
is_fit m = all_of (fit_tests m)

abbrev pub AnyStepPromise : Lent → ℕ → Bool → List ℕ → List ℕ → Lent → List ℕ → Option Stepped → Type 0
AnyStepPromise m lines ended input output after left None = (is_fit m ≡ false) × (after ≡ m) × (left ≡ output)
AnyStepPromise m lines ended input output after left (Some r) = (is_fit m ≡ true) × StepPromise m lines ended input output after left r

-- the whole's totals behind it
abbrev pub whole_after : Totals → Option Stepped → Totals
whole_after w None = w
whole_after w (Some r) = whole_behind w r

-- how a run of steps ends: the refusal, or 0, the place where, and what is lent as it is left
pub record RunEnd : Type 0 where
  pub refusal : ℕ
  pub place : ℕ
  pub memory : Lent

abbrev pub run_end_here : ℕ → Lent → RunEnd
run_end_here refusal m = record { refusal = refusal; place = 0; memory = m }

abbrev pub run_end_behind : ℕ → RunEnd → RunEnd
run_end_behind n e = record { refusal = e.refusal; place = n + e.place; memory = e.memory }

-- in the meaning's words: by the state that it holds
abbrev pub end_of : RunEnd → End
end_of e = record { refusal = e.refusal; place = e.place; house = house_of e.memory }

-- RUNS OF STEPS on what is lent, each getting it as the last one left it, with a part of what is left of the input and an output of its own: what is lent before,
-- the state handed on, what is left of the input, the joined text, and the end
pub data Runs : Lent → Run → List ℕ → List ℕ → RunEnd → Type 0 where
  next : {m after : Lent} {left part rest output written texts : List ℕ} {run : Run} {ended : Bool} {l : Line} {e : RunEnd} → Cut left part rest ended
      → StepPromise m run.lines ended part output after written (Wrote l) → Runs after l.run (drop l.taken left) texts e
      → Runs m run left (take l.written written ++ texts) (run_end_behind l.taken e)
  again : {m after : Lent} {left part rest output written texts : List ℕ} {run : Run} {ended : Bool} {e : RunEnd} → Cut left part rest ended
      → StepPromise m run.lines ended part output after written Wants → Runs after run left texts e → Runs m run left texts e
  emptied : {m after : Lent} {left part rest output written texts : List ℕ} {run : Run} {ended : Bool} {e : RunEnd} → Cut left part rest ended
      → StepPromise m run.lines ended part output after written Full → Runs after run left texts e → Runs m run left texts e
  last : {m after : Lent} {left part rest output written : List ℕ} {run : Run} {ended : Bool} {l : Last} → Cut left part rest ended
      → StepPromise m run.lines ended part output after written (Ends l) → Runs m run left (take l.written written) (run_end_here (ending_number l.refusal) after)

-- the state that a run begins with
abbrev pub start : Run
start = record { opened = false; lines = 0; whole = totals_of (pos 0) (pos 0) (pos 0) }

-- a run that begins with a memory of its size that holds no sound plan, an empty price list and an empty ledger writes "the meaning's text of the whole file", and
-- ends as it does
abbrev pub new_lent : List ℕ → Lent
new_lent m = record { plan = m; prices = zeros PRICES-BYTES; districts = empty_ledger.districts; whole = empty_ledger.whole }

abbrev pub AnyRun : Type 0
AnyRun = (m file text : List ℕ) (e : RunEnd) → InRun m false → Runs (new_lent m) start file text e → (text ≡ file_text file) × (end_of e ≡ file_end file)
