-- The stretch of a value over a prefix's length and a set's CAs, and a span that gives it.
use Rattle.std.specs.Prelude.{ℕ, ◌+◌, ◌≤◌, ◌≡◌, List}
use Rattle.std.specs.Prelude.{if◌then◌else◌}
use Rattle.meaning.specs.Actions.{CA}
use Rattle.meaning.specs.Conditioning.{short, Stretch, empty_stretch, stretch_of}
use Rattle.meaning.specs.Answers.{span_of}
use Rattle.meaning.specs.declared.Span.{Span}

-- the `stretch_by` of a filter and a set (`Walk.antt`, stretch_by_lem): empty where the n digits are too few
abbrev pub stretch_in : ℕ → ℕ → ℕ → List CA → Stretch
stretch_in v prefix n xs = if short prefix n xs then empty_stretch else stretch_of v prefix n xs

-- r is the stretch s, and lies within n digits
pub record Covers (n : ℕ) (s : Stretch) (r : Span) : Type 0 where
  pub same : r ≡ span_of s
  pub inside : r.start + r.count ≤ n
