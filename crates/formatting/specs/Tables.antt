-- A table of places: of the value of each FA, where it begins and how many digits it has.
use Rattle.std.specs.Prelude.{ℕ, ◌+◌, ◌≤◌, ◌≡◌, ◌&&◌, List, [], ◌∷◌, length, get_or, leb, eqb}
use Rattle.meaning.specs.Basics.{any, part}
use Rattle.std.specs.Prelude.{if◌then◌else◌}
use Rattle.meaning.specs.Settings.{settings_of, lookup_of}
use Rattle.meaning.specs.Actions.{CC, RN, DELIMITER-B, is_ccdef, cas_of}
use Rattle.meaning.specs.Services.{Stage, value_to_send}
use Rattle.meaning.specs.declared.Span.{Span}
use Rattle.services.specs.declared.Served.{Served}
use Rattle.services.specs.Stages.{stage_of}
use Rattle.conditioning.specs.declared.Marks.{Marks}
use Rattle.conditioning.specs.Marks.{PLACES, marked}
use Rattle.formatting.specs.Sources.{SOURCE-BYTES, LAST-STRING, lookup_in}

-- each place has room behind it for the two blocks that a value may take
pub record Table (source : List ℕ) (m : Marks) : Type 0 where
  pub long : length source ≡ SOURCE-BYTES
  pub starts_long : length m.starts ≡ PLACES
  pub counts_long : length m.counts ≡ PLACES
  pub low : (v : ℕ) → get_or m.starts v 0 ≤ LAST-STRING + 1
  pub few : (v : ℕ) → get_or m.counts v 0 ≤ 32

-- what a table has for the value v
abbrev pub value_at : List ℕ → Marks → ℕ → List ℕ
value_at source m v = part (get_or m.starts v 0) (get_or m.counts v 0) source

-- a table that has a value for each code up to the last FA's
pub record Has (value : ℕ → List ℕ) (source : List ℕ) (m : Marks) : Type 0 where
  pub table : Table source m
  pub values : (f : ℕ) → f ≤ DELIMITER-B → value_at source m f ≡ value f

-- where a table has the value of an FA; there is none behind the last
abbrev pub place_of : Marks → ℕ → Span
place_of m f = if leb f DELIMITER-B then marked m f else record { start = 0; count = 0 }

-- what is sent for an FA
unfoldable pub sent_at : List ℕ → Marks → ℕ → List ℕ
sent_at source m f = if leb f DELIMITER-B then value_at source m f else []

-- THE VALUES, over the settings, bytes that have the number and its lookup (a body or a source), and a table of what conditioning took of the number

-- "CCDEF takes none and sets CC to the default"
unfoldable pub conditioned_value : List ℕ → List ℕ → List ℕ → Marks → ℕ → List ℕ
conditioned_value settings source cas m v =
    if eqb v CC && any is_ccdef (cas_of cas) then (settings_of settings).country else value_at source m v

-- the stage by which an FA's value is asked for: RN is set where an FA asks for it
abbrev pub stage_asked : List ℕ → List ℕ → Served → Stage
stage_asked settings lookup served = stage_of (settings_of settings) (lookup_of lookup) (RN ∷ []) served

-- document 01's value of each FA, by the values that conditioning took
abbrev pub served_over : List ℕ → List ℕ → Served → (ℕ → List ℕ) → ℕ → List ℕ
served_over settings lookup served taken = value_to_send (settings_of settings) taken (stage_asked settings lookup served)

-- so the value of each FA
abbrev pub value_made : List ℕ → List ℕ → List ℕ → Marks → Served → ℕ → List ℕ
value_made settings source cas m served = served_over settings (lookup_in source) served (conditioned_value settings source cas m)
