-- A table of the stretches that conditioning takes: at each value's number, the place of its first digit and how many digits it has.
use Rattle.std.specs.Prelude.{ℕ, ◌+◌, ◌≤◌, ◌<◌, ◌≡◌, ◌≢◌, Bool, false, List, length, get_or, set, replicate, eqb}
use Rattle.meaning.specs.Actions.{LAST-CONDITIONED, DELIMITER-B, CA}
use Rattle.meaning.specs.Conditioning.{short, Stretch, takes_value, stretch_of}
use Rattle.meaning.specs.declared.Span.{Span}
use Rattle.conditioning.specs.declared.Marks.{Marks}

-- a table of values has a place for each formatting code, and place 0 for none
abbrev pub PLACES : ℕ
PLACES = DELIMITER-B + 1

-- r is the value whose digits an action takes; 0 is that of none
pub record Takes (a : CA) (r : ℕ) : Type 0 where
  pub is : (v : ℕ) → 0 < v → takes_value v a ≡ eqb r v
  pub small : r ≤ LAST-CONDITIONED

-- a table in which nothing is marked
abbrev pub no_marks : Marks
no_marks = record { starts = replicate PLACES 0; counts = replicate PLACES 0 }

-- what it has at v, and with a stretch put in there
abbrev pub marked : Marks → ℕ → Span
marked m v = record { start = get_or m.starts v 0; count = get_or m.counts v 0 }

abbrev pub marked_anew : Marks → ℕ → Span → Marks
marked_anew m v s = record { starts = set m.starts v s.start; counts = set m.counts v s.count }

-- the table before and after a mark at v: what is marked stays
pub record MarksOnce (v : ℕ) (s : Span) (old new : Marks) : Type 0 where
  pub unmarked : get_or old.starts v 0 ≡ 0 → new ≡ marked_anew old v s
  pub kept : get_or old.starts v 0 ≢ 0 → new ≡ old

-- n digits, the place of the first of them, all of it within 255 places, and a table in which nothing is marked
pub record Markable (n first : ℕ) (m : Marks) : Type 0 where
  pub not_zero : 0 < first
  pub near : first + n ≤ 255
  pub starts_none : (v : ℕ) → get_or m.starts v 0 ≡ 0
  pub counts_none : (v : ℕ) → get_or m.counts v 0 ≡ 0

-- the stretch s of a value, within n digits, is marked; where an empty one begins is of no account
pub record MarksOne (first n : ℕ) (s : Stretch) (start count : ℕ) : Type 0 where
  pub within : s.start + s.count ≤ n
  pub counted : count ≡ s.count
  pub begins : count ≢ 0 → start ≡ first + s.start

-- so is that of every value; no place is past the digits, and no count is above theirs
pub record MarksAll (prefix n first : ℕ) (xs : List CA) (m : Marks) : Type 0 where
  pub starts_long : length m.starts ≡ PLACES
  pub counts_long : length m.counts ≡ PLACES
  pub low : (v : ℕ) → get_or m.starts v 0 ≤ first + n
  pub few : (v : ℕ) → get_or m.counts v 0 ≤ n
  pub marks : (v : ℕ) → 0 < v → MarksOne first n (stretch_of v prefix n xs) (get_or m.starts v 0) (get_or m.counts v 0)

-- r tells whether the n digits are too few; where they are not, the stretch of every value is marked
pub record MarksUnlessShort (prefix n first : ℕ) (xs : List CA) (m : Marks) (r : Bool) : Type 0 where
  pub short_is : r ≡ short prefix n xs
  pub marked : r ≡ false → MarksAll prefix n first xs m
