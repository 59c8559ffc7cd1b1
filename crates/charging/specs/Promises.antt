-- What taking a call record promises, for anything lent.
use Rattle.std.specs.Prelude.{ℕ, ◌≡◌, Bool, true, List, length, take}
use Rattle.std.proofs.Math.Option.{some}
use Rattle.meaning.specs.Sizes.{CALL-BYTES, DIGIT-ROOM}
use Rattle.meaning.specs.Basics.{all_of}
use Rattle.meaning.specs.Answer.{refused}
use Rattle.meaning.specs.Answers.{answered_as}
use Rattle.meaning.specs.Ledger.{Ledger, ledger_in_range}
use Rattle.meaning.specs.Charges.{call_ranges, call_in_range, charged, ledger_after}
use Rattle.meaning.specs.declared.Answered.{Answered}
use Rattle.meaning.specs.declared.Taken.{Taken}
use Rattle.meaning.specs.declared.Totals.{Totals}
use Rattle.plan.specs.Layout.{plan_of}
use Rattle.plan.specs.State.{state_of}
use Rattle.prices.specs.Layout.{rows_in, prices_in_range, prices_of}
use Rattle.number.specs.Promises.{HoldsAnswer, GivesAnswer}

-- the fields before a call record's number: the first three tests of its range
abbrev pub head_in_range : List ℕ → Bool
head_in_range b = all_of (take 3 (call_ranges b))

abbrev pub taken_as : Answered → Totals → Taken
taken_as answer whole = record { answer = answer; whole = whole }

-- a refusal
abbrev pub refused_as : ℕ → Totals → Taken
refused_as number whole = taken_as (answered_as (refused number)) whole

-- a ledger and a call record that are in range
pub record Chargeable (l : Ledger) (body : List ℕ) : Type 0 where
  pub ledger_in : ledger_in_range l ≡ true
  pub whole : length body ≡ CALL-BYTES
  pub range : call_in_range body ≡ true

-- a price list beside them that is in range
pub record Priceable (prices : List ℕ) (l : Ledger) (body : List ℕ) : Type 0 where
  pub prices_in : prices_in_range prices ≡ true
  pub chargeable : Chargeable l body

-- the answer, with its digits at the front of a buffer of which nothing else is said, and the ledger that is left
pub record HoldsTaken (m prices : List ℕ) (l : Ledger) (body : List ℕ) (after : Ledger) (digits : List ℕ) (r : Answered) : Type 0 where
  pub answer : HoldsAnswer (charged (some (plan_of m)) (some (rows_in prices)) l DIGIT-ROOM body) digits r
  pub ledger : after ≡ ledger_after (some (plan_of m)) (some (rows_in prices)) l DIGIT-ROOM body

-- the same with the digits at the front of a lent buffer: "the bytes behind them stay"
pub record TakesKnown (m prices : List ℕ) (l : Ledger) (body out : List ℕ) (after : Ledger) (left : List ℕ) (r : Answered) : Type 0 where
  pub answer : GivesAnswer (charged (some (plan_of m)) (some (rows_in prices)) l DIGIT-ROOM body) out left r
  pub ledger : after ≡ ledger_after (some (plan_of m)) (some (rows_in prices)) l DIGIT-ROOM body

-- THE PROMISE, for any plan memory, price list, ledger, body and lent buffer
pub record Takes (m prices : List ℕ) (l : Ledger) (body out : List ℕ) (after : Ledger) (left : List ℕ) (r : Answered) : Type 0 where
  pub answer : GivesAnswer (charged (state_of m) (prices_of prices) l (length out) body) out left r
  pub ledger : after ≡ ledger_after (state_of m) (prices_of prices) l (length out) body
