-- The outgoing digits and the conditioned number as joined values, and what their writers promise.
use Rattle.std.specs.Prelude.{ℕ, ◌+◌, ◌≤◌, ◌≡◌, false, List, [], ◌∷◌, length, take, leb}
use Rattle.meaning.specs.Sizes.{SETTINGS-BYTES}
use Rattle.meaning.specs.Basics.{written_over}
use Rattle.std.specs.Prelude.{if◌then◌else◌}
use Rattle.meaning.specs.Settings.{settings_of}
use Rattle.meaning.specs.Actions.{CC, AC, SN, DN, ZN, CA, cas_of, codes_of}
use Rattle.meaning.specs.Groups.{is_set}
use Rattle.meaning.specs.Conditioning.{short, value_from, conditioned_from}
use Rattle.meaning.specs.Services.{join}
use Rattle.services.specs.declared.Served.{Served}
use Rattle.conditioning.specs.declared.Marks.{Marks}
use Rattle.formatting.specs.Tables.{value_made}

-- the outgoing digits, joined by a table of what conditioning took of the number's digits; that they are document 01's is `marked_outgoing` in proofs/Tables.antt
abbrev pub outgoing_by : List ℕ → List ℕ → List ℕ → Marks → Served → List ℕ → List ℕ
outgoing_by settings body cas m served fas = join (value_made settings body cas m served) (codes_of fas)

-- document 01's conditioned number
unfoldable pub conditioned : List ℕ → List ℕ → List ℕ → ℕ → List ℕ
conditioned settings digits cas prefix = conditioned_from (cas_of cas) (value_from (settings_of settings).country prefix digits (cas_of cas))

-- the values that it joins: "ZN, or CC then DN, or CC then AC then SN"
unfoldable pub conditioned_codes : List CA → List ℕ
conditioned_codes xs = if is_set ZN xs then (ZN ∷ []) else if is_set DN xs then (CC ∷ DN ∷ []) else (CC ∷ AC ∷ SN ∷ [])

-- the settings, and digits that are enough for the conditioning actions
pub record Conditionable (settings digits cas : List ℕ) (prefix : ℕ) : Type 0 where
  pub settings_long : length settings ≡ SETTINGS-BYTES
  pub enough : short prefix (length digits) (cas_of cas) ≡ false

-- the digits ds are written at the front of the buffer `entry`, and r is how many they are
pub record Writes (ds entry exit : List ℕ) (r : ℕ) : Type 0 where
  pub written : exit ≡ written_over ds entry
  pub count : r ≡ length ds

-- r is how many the digits ds are, or one more than `most` where they are more; where they are not, they stand at the front of the buffer
pub record JoinsInto (ds : List ℕ) (most : ℕ) (exit : List ℕ) (r : ℕ) : Type 0 where
  pub count : r ≡ (if leb (length ds) most then length ds else most + 1)
  pub digits : length ds ≤ most → take r exit ≡ ds
