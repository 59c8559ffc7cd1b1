-- How long the body of a record is.
use Rattle.std.specs.Prelude.{ℕ, ◌<◌, ◌≡◌}
use Rattle.meaning.specs.Sizes.{LONGEST-RECORD}
use Rattle.meaning.specs.Calls.{body_length}

-- the length that a kind fixes, and that no record is longer than the longest
pub record BodyBytes (kind r : ℕ) : Type 0 where
  pub is : r ≡ body_length kind
  pub most : r < LONGEST-RECORD
