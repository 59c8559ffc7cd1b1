-- Where values are taken from: the bytes of a number's body that have them and, behind these, the settings.
use Rattle.std.specs.Prelude.{ℕ, ◌+◌, ◌≤◌, ◌≡◌, Bool, List, [], length, get_or}
use Rattle.meaning.specs.Sizes.{DELIMITER-B-AT, SETTINGS-BYTES, DIALLED-DIGITS-AT, LOOKUP-AT, LOOKUP-BYTES, VALUE-BYTES, NUMBER-BYTES}
use Rattle.meaning.specs.Basics.{part, digits_of}
use Rattle.std.specs.Prelude.{if◌then◌else◌}
use Rattle.meaning.specs.declared.Span.{Span}
use Rattle.conditioning.specs.declared.Marks.{Marks}
use Rattle.conditioning.specs.Marks.{PLACES}

-- the bytes of a source: behind the settings, room for a block that is taken whole
abbrev pub SOURCE-BYTES : ℕ
SOURCE-BYTES = 144

-- where a source has delimiter B, the last of its strings
abbrev pub LAST-STRING : ℕ
LAST-STRING = VALUE-BYTES + DELIMITER-B-AT

-- the settings that a source has
abbrev pub settings_in : List ℕ → List ℕ
settings_in source = part VALUE-BYTES SETTINGS-BYTES source

-- the lookup that a source has, and a body likewise
abbrev pub lookup_in : List ℕ → List ℕ
lookup_in source = part LOOKUP-AT LOOKUP-BYTES source

-- the first n digits of the number, of either
abbrev pub digits_in : ℕ → List ℕ → List ℕ
digits_in n source = part DIALLED-DIGITS-AT n source

-- the digits of a digit string where they are set
abbrev pub digits_if : Bool → List ℕ → List ℕ
digits_if set s = if set then digits_of s else []

-- the settings, a body, and a table of places within the body
pub record Formattable (settings body : List ℕ) (m : Marks) : Type 0 where
  pub settings_long : length settings ≡ SETTINGS-BYTES
  pub body_long : length body ≡ NUMBER-BYTES
  pub starts_long : length m.starts ≡ PLACES
  pub counts_long : length m.counts ≡ PLACES
  pub low : (v : ℕ) → get_or m.starts v 0 ≤ LOOKUP-AT
  pub few : (v : ℕ) → get_or m.counts v 0 ≤ 32

-- the place has room behind it for the two blocks that a value may take
pub record Held (source : List ℕ) (r : Span) : Type 0 where
  pub long : length source ≡ SOURCE-BYTES
  pub low : r.start ≤ LAST-STRING + 1
  pub few : r.count ≤ 32

-- r is where the value v lies
pub record Lies (v source : List ℕ) (r : Span) : Type 0 where
  pub is : part r.start r.count source ≡ v
  pub count : r.count ≡ length v
  pub low : r.start ≤ LAST-STRING + 1
  pub few : r.count ≤ 32
