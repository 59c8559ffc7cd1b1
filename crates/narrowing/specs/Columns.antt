-- A column of the rule slots: the bytes at one offset of each; and what a rule weighs by its length alone.
use Rattle.std.specs.Prelude.{ℕ, ◌+◌, ◌*◌, ◌-◌, ◌≤◌, ◌<◌, List, length, get_or}
use Rattle.meaning.specs.Sizes.{RULE-WIDTH}
use Rattle.std.specs.Prelude.{if◌then◌else◌}
use Rattle.meaning.specs.Filters.{length_fits, stated}

-- the byte at an offset of the slot at place k
abbrev pub byte_at : List ℕ → ℕ → ℕ → ℕ
byte_at m column k = get_or m (RULE-WIDTH * k + column) 0

-- an area with the slots at the places from lo to hi
pub record Column (m : List ℕ) (lo hi column : ℕ) : Type 0 where
  pub low : lo ≤ hi
  pub few : hi ≤ 4096
  pub room : RULE-WIDTH * hi ≤ length m
  pub width : column < RULE-WIDTH

-- of the places from lo to hi the byte before r is below d, and the one at r is not: in a column that rises, r is the first that is not
pub record Start (m : List ℕ) (lo hi column d r : ℕ) : Type 0 where
  pub low : lo ≤ r
  pub high : r ≤ hi
  pub before : lo < r → byte_at m column (r - 1) < d
  pub behind : r < hi → d ≤ byte_at m column r

-- `from` is the first place whose byte is not below d, and `to` the first whose byte is above d
pub record Narrowed (m : List ℕ) (lo hi column d from to : ℕ) : Type 0 where
  pub start : Start m lo hi column d from
  pub end : Start m from hi column (d + 1) to

-- the weight of a filter that begins a number of n digits with a prefix of j digits: 0 where its length does not fit
unfoldable pub length_weight : ℕ → ℕ → ℕ → ℕ
length_weight j n len = if length_fits len n then 2 * j + stated len + 1 else 0
