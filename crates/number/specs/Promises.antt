-- What answering a number promises, for any plan memory, any body and any lent buffer.
use Rattle.std.specs.Prelude.{ℕ, ◌≤◌, ◌≡◌, List, length, take}
use Rattle.meaning.specs.Basics.{written_over}
use Rattle.meaning.specs.Answer.{Answer, answer}
use Rattle.meaning.specs.Answers.{answered_as}
use Rattle.meaning.specs.declared.Answered.{Answered}
use Rattle.plan.specs.State.{state_of}

-- an answer: every field of it, and what the buffer holds afterwards; "the bytes behind them stay"
pub record GivesAnswer (a : Answer) (out after : List ℕ) (r : Answered) : Type 0 where
  pub result : r ≡ answered_as a
  pub buffer : after ≡ written_over a.digits out

-- the same with the digits, 32 at most, at the front of a buffer of which nothing else is said
pub record HoldsAnswer (a : Answer) (after : List ℕ) (r : Answered) : Type 0 where
  pub result : r ≡ answered_as a
  pub few : length a.digits ≤ 32
  pub digits : take (length a.digits) after ≡ a.digits

abbrev pub AnswerPromise : List ℕ → List ℕ → List ℕ → List ℕ → Answered → Type 0
AnswerPromise m body out after r = GivesAnswer (answer (state_of m) (length out) body) out after r
