-- What the read calls promise, for any plan memory, any arguments and any lent buffer.
use Rattle.std.specs.Prelude.{ℕ, ◌+◌, ◌≡◌, List, length, Result}
use Rattle.meaning.specs.Basics.{written_over}
use Rattle.meaning.specs.Conditioning.{Stretch, digits_at}
use Rattle.meaning.specs.Reads.{Read, conditioned, set_content, referrer_count, stretch}
use Rattle.meaning.specs.Answers.{AnswersRead, count_of, span_of}
use Rattle.meaning.specs.declared.Refusal.{Refusal}
use Rattle.meaning.specs.declared.Span.{Span}
use Rattle.plan.specs.State.{state_of}

-- a read that writes: its refusal or how many bytes, and what the buffer holds afterwards
pub record GivesRead (read : Read) (out after : List ℕ) (r : Result ℕ Refusal) : Type 0 where
  pub result : AnswersRead r read
  pub buffer : after ≡ written_over read.bytes out

abbrev pub ConditionedPromise : List ℕ → ℕ → List ℕ → List ℕ → List ℕ → Result ℕ Refusal → Type 0
ConditionedPromise m class ds out after r = GivesRead (conditioned (state_of m) (length out) class ds) out after r

abbrev pub ContentPromise : List ℕ → ℕ → List ℕ → List ℕ → Result ℕ Refusal → Type 0
ContentPromise m n out after r = GivesRead (set_content (state_of m) (length out) n) out after r

abbrev pub ReferrersPromise : List ℕ → ℕ → Result ℕ Refusal → Type 0
ReferrersPromise m n r = count_of r ≡ referrer_count (state_of m) n

-- the start and the count of the stretch
abbrev pub SpanPromise : List ℕ → ℕ → List ℕ → ℕ → Span → Type 0
SpanPromise m class ds v r = r ≡ span_of (stretch (state_of m) class ds v)

-- "the very stretch of the incoming number": `at` and `part_at` tell where the digits and the part stand, a block of memory and a place in it
pub record GivesStretch (s : Stretch) (ds : List ℕ) (at : ℕ × ℕ) (part : List ℕ) (part_at : ℕ × ℕ) : Type 0 where
  pub digits : part ≡ digits_at s ds
  pub place : part_at ≡ (at.0, at.1 + s.start)

abbrev pub StretchPromise : List ℕ → ℕ → List ℕ → ℕ × ℕ → ℕ → List ℕ → ℕ × ℕ → Type 0
StretchPromise m class ds at v part part_at = GivesStretch (stretch (state_of m) class ds v) ds at part part_at
