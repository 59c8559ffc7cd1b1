-- What comparing two plans promises, for any two memories and any lent buffer; and what the functions on the way to it ask.
use Rattle.std.specs.Prelude.{ℕ, ◌≡◌, List, length, Result}
use Rattle.meaning.specs.Basics.{written_over}
use Rattle.meaning.specs.Compare.{Comparison, comparison, count_in}
use Rattle.meaning.specs.Answers.{count_of}
use Rattle.meaning.specs.declared.Refusal.{Refusal}
use Rattle.buffer.specs.Slots.{flat}
use Rattle.plan.specs.State.{state_of}

-- a comparison: its refusal or how many differences, and what the buffer holds afterwards: "bytes behind stay"
pub record GivesComparison (c : Comparison) (out after : List ℕ) (r : Result ℕ Refusal) : Type 0 where
  pub result : count_of r ≡ count_in c
  pub buffer : after ≡ written_over (flat c.entries) out

abbrev pub ComparePromise : List ℕ → List ℕ → List ℕ → List ℕ → Result ℕ Refusal → Type 0
ComparePromise left right out after r = GivesComparison (comparison (state_of left) (state_of right) (length out)) out after r
