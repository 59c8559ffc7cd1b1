-- The choice in document 01's own words: what the rule chosen must be. proofs/Choice.antt proves that it is so, and that no other rule is.
use Rattle.std.specs.Prelude.{ℕ, ◌<◌, ◌≡◌, ◌≢◌, ◌⊎◌, false, length, T}
use mathlib.Core.List.{List, Memᴰ}
use Rattle.meaning.specs.Filters.{Filter, fits_number}
use Rattle.meaning.specs.Rules.{Rule, filter_in}

-- f gives way to g: "the longest prefix wins; for the same prefix a stated length beats the wildcard"
pub data LessSpecific (f g : Filter) : Type 0 where
  shorter_prefix : length f.prefix < length g.prefix → LessSpecific f g
  wildcard_length : f.prefix ≡ g.prefix → f.len ≡ 0 → g.len ≢ 0 → LessSpecific f g

-- r is held, it fits the number, and every other rule that fits gives way to it
pub record IsChoice (class : ℕ) (ds : List ℕ) (rs : List Rule) (r : Rule) : Type 0 where
  pub held : Memᴰ r rs
  pub fits : T (fits_number (filter_in r) class ds)
  pub others : (s : Rule) → Memᴰ s rs → T (fits_number (filter_in s) class ds) → (s ≡ r) ⊎ LessSpecific (filter_in s) (filter_in r)

-- no rule fits
abbrev pub NoneFits : ℕ → List ℕ → List Rule → Type 0
NoneFits class ds rs = (s : Rule) → Memᴰ s rs → fits_number (filter_in s) class ds ≡ false
