-- Records that have a number: alone, or in a call record.
use Rattle.std.specs.Prelude.{ℕ, ◌+◌, ◌≤◌, ◌<◌, ◌≡◌, Bool, true, false, ◌||◌, List, length, take, drop, eqb, Option, Some, None, Result, Ok, Err}
use Rattle.meaning.specs.Sizes.{NUMBER-BYTES, CALL-HEAD, CALL-BYTES}
use Rattle.meaning.specs.Refusals.{PLAN, RANGE}
use Rattle.meaning.specs.Calls.{NUMBER, CALL, body_length}
use Rattle.meaning.specs.Answers.{number_of_refusal}
use Rattle.meaning.specs.declared.Refusal.{Refusal}
use Rattle.charging.specs.Promises.{head_in_range}

abbrev pub has_number : ℕ → Bool
has_number k = eqb k NUMBER || eqb k CALL

-- the body of a record at the front of the input
abbrev pub body_at : ℕ → List ℕ → List ℕ
body_at k input = take (body_length k) (drop 1 input)

-- the number of a whole record begins at a place of the input; what stands before it in a call record is in range
pub data NumberAt : ℕ → List ℕ → ℕ → Type 0 where
  alone : {input : List ℕ} → 1 + NUMBER-BYTES ≤ length input → NumberAt NUMBER input 1
  called : {input : List ℕ} → 1 + CALL-BYTES ≤ length input → head_in_range (body_at CALL input) ≡ true → NumberAt CALL input (1 + CALL-HEAD)

-- a whole record is refused before its number is looked at: there is no plan, or what stands before the number is out of range
pub data RefusedAt : Bool → ℕ → List ℕ → ℕ → Type 0 where
  no_plan : {kind : ℕ} {input : List ℕ} → 1 + body_length kind ≤ length input → RefusedAt false kind input PLAN
  outside : {input : List ℕ} → 1 + CALL-BYTES ≤ length input → head_in_range (body_at CALL input) ≡ false → RefusedAt true CALL input RANGE

-- which of them, or none where the record is cut
abbrev pub GivesPlace : Bool → ℕ → List ℕ → Result (Option ℕ) Refusal → Type 0
GivesPlace opened kind input (Ok (Some n)) = (opened ≡ true) × NumberAt kind input n
GivesPlace opened kind input (Ok None) = length input < 1 + body_length kind
GivesPlace opened kind input (Err r) = RefusedAt opened kind input (number_of_refusal r)
