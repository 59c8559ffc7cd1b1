-- What the writers of lines promise, and what they ask.
use Rattle.std.specs.Prelude.{ℕ, ◌+◌, ◌≤◌, ◌<◌, ◌≡◌, List, [], ◌∷◌, map, ℤ, length, take, T}
use Rattle.std.specs.Int.Signed.{mag}
use Rattle.meaning.specs.Basics.{all, is_digit, written_over}
use Rattle.meaning.specs.Answer.{Answer}
use Rattle.meaning.specs.Reads.{Listed}
use Rattle.meaning.specs.Records.{digit_text}
use Rattle.meaning.specs.declared.Answered.{Answered}
use Rattle.meaning.specs.declared.ListedRule.{ListedRule}

-- the most bytes of a line: a number line with 32 digits
abbrev pub LONGEST : ℕ
LONGEST = 41

-- text written at the front of a buffer: the bytes behind it stay; n is how many bytes it has
pub record Writes (text out after : List ℕ) (n : ℕ) : Type 0 where
  pub count_is : n ≡ length text
  pub buffer_is : after ≡ written_over text out
  pub inside : n ≤ length out

-- digits as text, or the byte for none
abbrev pub digits_or : ℕ → List ℕ → List ℕ
digits_or none [] = none ∷ []
digits_or none (d ∷ ds) = map digit_text (d ∷ ds)

-- LISTED RULES

-- the rule that the fields give
abbrev pub listed_of : ListedRule → Listed
listed_of r = record { filter = record { class = r.class; prefix = take r.digits r.prefix; len = r.length }; set = r.set.0 }

pub record ListedIn (r : ListedRule) : Type 0 where
  pub few : r.digits ≤ 16
  pub digits : T (all is_digit (take r.digits r.prefix))

-- NUMBER LINES

-- the answer that the fields give, with these digits
abbrev pub answer_in : Answered → List ℕ → Answer
answer_in a ds =
    record {
      refusal = a.refusal;
      outcome = a.outcome;
      class = a.class;
      response = a.response;
      count = a.count;
      actions = a.actions;
      digits = ds;
    }

-- what a line has room for, with these digits
pub record NumberIn (a : Answered) (ds : List ℕ) : Type 0 where
  pub outcome : a.outcome < 10
  pub class : a.class < 10
  pub response : a.response < 10
  pub count : a.count < 10
  pub few : length ds ≤ 32
  pub digits : T (all is_digit ds)

-- what stands before the digits
unfoldable pub head_text : ℕ → ℕ → ℕ → ℕ → List ℕ
head_text outcome class response count = (48 + outcome) ∷ 32 ∷ (48 + class) ∷ 32 ∷ (48 + response) ∷ 32 ∷ (48 + count) ∷ 32 ∷ []

-- LOSSES

-- whole cents that a ledger in range can lose: 10,000,000 records of 86,400,000,000 units at 60,000 a cent
pub record Printable (x : ℤ) : Type 0 where
  pub size : mag x ≤ 14400000000000
