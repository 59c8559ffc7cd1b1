-- One turn of a copy: a read behind what is left of the input, or none, steps over what is at hand, and a write of what they wrote.
use Rattle.std.specs.Prelude.{ℕ, ◌+◌, ◌-◌, ◌≤◌, ◌≡◌, ◌⊎◌, Bool, true, false, not, List, length, take, drop}
use Rattle.meaning.specs.Sizes.{LONGEST-RECORD}
use Rattle.meaning.specs.Basics.{written_over}
use Rattle.std.specs.Prelude.{if◌then◌else◌}
use Rattle.text.specs.Writes.{LONGEST}
use Rattle.record.specs.Turns.{is_whole}
use Rattle.record.specs.Promises.{Lent, InHouse}
use Rattle.pump.specs.Pumps.{PumpPromise}
use Rattle.std.specs.Prelude.{Option as Optional, None}
use Rattle.meaning.specs.declared.Refusal.{Refusal}
use Rattle.pump.specs.Pumps.{is_over}
use Rattle.pump.specs.declared.Stop.{Stop}
use Rattle.pump.specs.declared.Stop.TheVariants.{Wants, Full, Over}
use Rattle.pump.specs.declared.Pumped.{Pumped}
use Rattle.descriptors.specs.Moves.{MOST, FillPromise, sent}
use Rattle.descriptors.specs.declared.Source.{Source}
use Rattle.descriptors.specs.declared.Sink.{Sink}
use Rattle.descriptors.specs.declared.AtHand.{AtHand}
use Rattle.stream.specs.declared.Rest.{Rest}
use Rattle.stream.specs.declared.Ending.{Ending}
use Rattle.stream.specs.declared.Turned.{Turned}
use Rattle.stream.specs.declared.Turned.TheVariants.{Goes, Done, NotRead, NotWritten, Spent}

-- WHAT IS LEFT OF THE INPUT

abbrev pub left_of : Rest → ℕ
left_of rest = rest.end - rest.at

abbrev pub left_in : Rest → List ℕ → List ℕ
left_in rest input = take (left_of rest) (drop rest.at input)

-- THE INPUT AT HAND

-- a read is made exactly if the input has not ended and no whole record is left: so no line waits for input that it does not need
abbrev pub must_read : Source → List ℕ → Bool
must_read s left = if s.ended then false else not (is_whole left)

abbrev pub SuppliesBy : Bool → Source → ℕ → List ℕ → List ℕ → AtHand → Type 0
SuppliesBy true s left before after hand = FillPromise s left before after hand
SuppliesBy false s left before after hand = (hand ≡ record { end = left; source = s }) × (after ≡ before)

abbrev pub SupplyPromise : Source → ℕ → List ℕ → List ℕ → AtHand → Type 0
SupplyPromise s left before after hand = SuppliesBy (must_read s (take left before)) s left before after hand

-- what a read asks, should one be made: there is room for the longest record, and so for a byte
pub record Suppliable (s : Source) (left : ℕ) (input : List ℕ) : Type 0 where
  pub inside : left ≤ length input
  pub enough : LONGEST-RECORD ≤ length input
  pub not_failed : s.failed ≡ false
  pub counted : s.given + length input ≤ MOST

-- what is left moves to the front first; "the bytes behind them stay"
abbrev pub GatherPromise : Rest → List ℕ → List ℕ → AtHand → Type 0
GatherPromise rest input input_left hand = SupplyPromise rest.source (left_of rest) (written_over (left_in rest input) input) input_left hand

-- what is left lies in the input, and the same
pub record Gatherable (rest : Rest) (input : ℕ) : Type 0 where
  pub placed : rest.at ≤ rest.end
  pub inside : rest.end ≤ input
  pub enough : LONGEST-RECORD ≤ input
  pub not_failed : rest.source.failed ≡ false
  pub counted : rest.source.given + input ≤ MOST

-- HOW A TURN ENDED

-- a read failed: nothing is taken
abbrev pub unread_of : Rest → AtHand → Rest
unread_of rest hand = record { run = rest.run; source = hand.source; sink = rest.sink; at = 0; end = hand.end }

-- else by what was at hand, what the steps did, and the sink behind the write
abbrev pub rest_by : AtHand → Pumped → Sink → Rest
rest_by hand pumped sink = record { run = pumped.run; source = hand.source; sink = sink; at = pumped.taken; end = hand.end }

-- the refusal that ended reading, if one did
abbrev pub ending_of : Stop → Optional Refusal
ending_of Wants = None
ending_of Full = None
ending_of (Over r) = r

-- the place in the file: all that was given, less what is not taken
abbrev pub ending_by : AtHand → Pumped → Sink → Ending
ending_by hand pumped sink = record { refusal = ending_of pumped.stop; place = hand.source.given - (hand.end - pumped.taken); rest = rest_by hand pumped sink }

abbrev pub turned_by : AtHand → Pumped → Sink → Turned
turned_by hand pumped sink =
    if sink.failed then NotWritten (rest_by hand pumped sink) else if is_over pumped.stop then Done (ending_by hand pumped sink) else Goes (rest_by hand pumped sink)

-- where the copy stands then; the state of the run holds the whole's totals of the ledger
abbrev pub rest_in : Turned → Rest
rest_in (Goes r) = r
rest_in (Done e) = e.rest
rest_in (NotRead r) = r
rest_in (NotWritten r) = r
rest_in (Spent r) = r

-- WHAT IS DONE WITH THE INPUT AT HAND

-- a read failed, and no step was taken
pub record Unread (m : Lent) (rest : Rest) (hand : AtHand) (output : List ℕ) (after : Lent) (output_left : List ℕ) (t : Turned) : Type 0 where
  pub failed : hand.source.failed ≡ true
  pub memory_is : after ≡ m
  pub output_is : output_left ≡ output
  pub is : t ≡ NotRead (unread_of rest hand)

-- or steps over it, whose text is at the front of the output; `done` is what the system said of the write
pub record Stepped (m : Lent) (rest : Rest) (hand : AtHand) (input output : List ℕ) (after : Lent) (output_left : List ℕ) (t : Turned) : Type 0 where
  pub read : hand.source.failed ≡ false
  pub pumped : Pumped
  pub steps : PumpPromise m rest.run hand.source.ended (take hand.end input) output after output_left pumped
  pub done : Bool
  pub is : t ≡ turned_by hand pumped (sent rest.sink pumped.written done)

abbrev pub AdvancePromise : Lent → Rest → AtHand → List ℕ → List ℕ → Lent → List ℕ → Turned → Type 0
AdvancePromise m rest hand input output after output_left t = Unread m rest hand output after output_left t ⊎ Stepped m rest hand input output after output_left t

-- what is lent is a run's, what is at hand lies in the input and was given, and the sink has not failed and can count what the output holds
pub record Advanceable (m : Lent) (rest : Rest) (hand : AtHand) (input output : ℕ) : Type 0 where
  pub in_house : InHouse m rest.run.opened
  pub inside : hand.end ≤ input
  pub hand_given : hand.end ≤ hand.source.given
  pub not_failed : rest.sink.failed ≡ false
  pub counted : rest.sink.written + output ≤ MOST

-- THE PROMISE OF A TURN

-- what was at hand, and something that holds of it
pub record Gathered (rest : Rest) (input input_left : List ℕ) (Holds : AtHand → Type 0) : Type 0 where
  pub hand : AtHand
  pub gathers : GatherPromise rest input input_left hand
  pub so : Holds hand

abbrev pub TurnPromise : Lent → Rest → List ℕ → List ℕ → Lent → List ℕ → List ℕ → Turned → Type 0
TurnPromise m rest input output after input_left output_left t = Gathered rest input input_left (λ hand. AdvancePromise m rest hand input_left output after output_left t)

-- by what was done
abbrev pub UnreadTurn : Lent → Rest → List ℕ → List ℕ → Lent → List ℕ → List ℕ → Turned → Type 0
UnreadTurn m rest input output after input_left output_left t = Gathered rest input input_left (λ hand. Unread m rest hand output after output_left t)

abbrev pub Turning : Lent → Rest → List ℕ → List ℕ → Lent → List ℕ → List ℕ → Turned → Type 0
Turning m rest input output after input_left output_left t = Gathered rest input input_left (λ hand. Stepped m rest hand input_left output after output_left t)

-- what a turn asks: what is lent is a run's, what is left of the input, of bytes that were given, room for a line, and a sink that has not failed
pub record Turnable (m : Lent) (rest : Rest) (input output : ℕ) : Type 0 where
  pub in_house : InHouse m rest.run.opened
  pub left : Gatherable rest input
  pub left_given : left_of rest ≤ rest.source.given
  pub room : LONGEST ≤ output
  pub not_failed : rest.sink.failed ≡ false
  pub counted : rest.sink.written + output ≤ MOST
