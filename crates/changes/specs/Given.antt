-- What a call over a known plan is asked with, and the parts of its body, as the fields that callers use.
use Rattle.std.specs.Prelude.{ℕ, ◌≡◌, true, List, length}
use Rattle.meaning.specs.Sizes.{CONTENT-BYTES, FILTER-BYTES}
use Rattle.meaning.specs.Calls.{body_length, content_given, code_given}
use Rattle.meaning.specs.Answers.{number_of_edit}
use Rattle.meaning.specs.declared.kinds.Edit.{Edit}
use Rattle.plan.specs.State.{sound_of}

-- an edit of a sound plan, with a body of just its length
pub record KnownEdit (m : List ℕ) (edit : Edit) (b : List ℕ) : Type 0 where
  pub sound : sound_of m ≡ true
  pub whole : length b ≡ body_length (number_of_edit edit)

-- r is the content that body b gives
pub record ContentGiven (b r : List ℕ) : Type 0 where
  pub is : r ≡ content_given b
  pub size : length r ≡ CONTENT-BYTES

-- r is the filter that body b gives
pub record CodeGiven (b r : List ℕ) : Type 0 where
  pub is : r ≡ code_given b
  pub size : length r ≡ FILTER-BYTES
