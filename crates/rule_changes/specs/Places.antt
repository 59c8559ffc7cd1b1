-- What the calls about rules ask once RANGE is passed, and the number of a filter's place, whether it is held there or would be added there.
use Rattle.std.specs.Prelude.{ℕ, ◌≤◌, ◌≡◌, true, List, length}
use Rattle.meaning.specs.Sizes.{FILTER-BYTES}
use Rattle.meaning.specs.Filters.{filter_in_range}
use Rattle.meaning.specs.Calls.{code_given}
use Rattle.filter.specs.Place.{Place, held, absent}

abbrev pub place_number : Place → ℕ
place_number (held k) = k
place_number (absent k) = k

-- body b gives a filter in range
pub record GivesFilter (b : List ℕ) : Type 0 where
  pub whole : FILTER-BYTES ≤ length b
  pub range : filter_in_range (code_given b) ≡ true
