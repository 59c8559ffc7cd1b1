-- The exact place of a filter among rules in listing order: held at a place, or absent, with the place where adding would put it.
use Prim.Native.Nat.{ℕ, ◌+◌, Ordering}
use Rattle.std.specs.Prelude.{List, [], ◌∷◌, Result, Ok, Err}
use Rattle.meaning.specs.Filters.{Filter, compare_filters}
use Rattle.meaning.specs.Rules.{Rule, filter_in}
use Rattle.meaning.specs.declared.RulePlace.{RulePlace}

-- held at a place; or absent, and added before the rule at a place
pub data Place : Type 0 where
  held : ℕ → Place
  absent : ℕ → Place

-- by the order of f and the rule at place k; `later` is what the rules behind it give
abbrev pub by_order : Ordering → ℕ → Place → Place
by_order Ordering.lt k later = absent k
by_order Ordering.eq k later = held k
by_order Ordering.gt k later = later

-- the first rule of the list has place k
abbrev pub place_from : ℕ → Filter → List Rule → Place
place_from k f [] = absent k
place_from k f (r ∷ rs) = by_order (compare_filters f (filter_in r)) k (place_from (k + 1) f rs)

-- places count from 0
unfoldable pub filter_place : Filter → List Rule → Place
filter_place f rs = place_from 0 f rs

-- the answer's meaning: Ok where it is held, Err where adding would put it
abbrev pub place_given : Result RulePlace RulePlace → Place
place_given (Ok k) = held k.0
place_given (Err k) = absent k.0
