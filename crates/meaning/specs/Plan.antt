-- The plan as data: what is put in by opening and provisioning, and what makes it sound.
use Rattle.std.specs.Prelude.{ℕ, ◌≡◌, Bool, true, false, ◌&&◌, List, [], ◌∷◌, length, get_or, set, replicate, T, leb, eqb}
use Rattle.std.proofs.Math.Option.{Option, none, some}
use Rattle.meaning.specs.Sizes.{ROOMS-BYTES, SETTINGS-BYTES, CONTENT-BYTES, FILTER-BYTES}
use Rattle.meaning.specs.Basics.{all, count, all_of}
use Rattle.meaning.specs.Settings.{Rooms, rooms_of, rooms_in_range, Settings, settings_of, settings_in_range}
use Rattle.meaning.specs.Filters.{Filter, filter_in_range}
use Rattle.meaning.specs.Rules.{Rule, filter_in, names, rules_in_order}
use Rattle.meaning.specs.Actions.{ActionSet, actions_of, content_in_range}
use Rattle.meaning.specs.Groups.{groups_hold, fit}

-- the bytes of the opening's rooms and of its settings; for each set number the bytes of its content where it is held; the rules in listing order
pub record Plan : Type 0 where
  pub rooms : List ℕ
  pub settings : List ℕ
  pub slots : List (Option (List ℕ))
  pub rules : List Rule

abbrev pub rooms_in : Plan → Rooms
rooms_in p = rooms_of p.rooms

abbrev pub settings_in : Plan → Settings
settings_in p = settings_of p.settings

-- the content of set n; none where it is not held
abbrev pub held : Plan → ℕ → Option (List ℕ)
held p n = get_or p.slots n none

-- "the count of rules naming a set"
unfoldable pub referrers : Plan → ℕ → ℕ
referrers p n = count (names n) p.rules

-- the actions of the set that a rule names; a rule of a sound plan names a set that is held
abbrev pub actions_in : Option (List ℕ) → ActionSet
actions_in none = actions_of []
actions_in (some c) = actions_of c

-- HOW A PLAN IS MADE

-- "An accepted opening over an old plan starts afresh"
unfoldable pub fresh : List ℕ → List ℕ → Plan
fresh rooms settings = record { rooms = rooms; settings = settings; slots = replicate (rooms_of rooms).sets none; rules = [] }

unfoldable pub with_slot : ℕ → Option (List ℕ) → Plan → Plan
with_slot n o p = record { rooms = p.rooms; settings = p.settings; slots = set p.slots n o; rules = p.rules }

unfoldable pub with_rules : List Rule → Plan → Plan
with_rules rs p = record { rooms = p.rooms; settings = p.settings; slots = p.slots; rules = rs }

-- SOUND: "demand 3's conditions on filters and on the sets named, the group rules, rules in listing order and every field in range"

-- a list of bytes of that many
abbrev pub sized : ℕ → List ℕ → Bool
sized n b = eqb (length b) n

-- a set's content in range that keeps the group rules
abbrev pub content_rules : List ℕ → List Bool
content_rules c = sized CONTENT-BYTES c ∷ content_in_range c ∷ groups_hold (actions_of c) ∷ []

unfoldable pub content_passes : List ℕ → Bool
content_passes c = all_of (content_rules c)

abbrev pub slot_passes : Option (List ℕ) → Bool
slot_passes none = true
slot_passes (some c) = content_passes c

-- a rule's filter in range
unfoldable pub code_passes : List ℕ → Bool
code_passes c = sized FILTER-BYTES c && filter_in_range c

-- the set is held, and the filter fits it
abbrev pub fits_held : Filter → Option (List ℕ) → Bool
fits_held f none = false
fits_held f (some c) = fit f (actions_of c)

-- each rule "names a set that exists and fits it"
unfoldable pub rules_fit : List (Option (List ℕ)) → List Rule → Bool
rules_fit slots rs = all (λ (r : Rule). fits_held (filter_in r) (get_or slots r.set none)) rs

unfoldable pub codes_pass : List Rule → Bool
codes_pass rs = all (λ (r : Rule). code_passes r.code) rs

abbrev pub sound_rules : Plan → List Bool
sound_rules p =
    sized ROOMS-BYTES p.rooms ∷ rooms_in_range p.rooms ∷ sized SETTINGS-BYTES p.settings ∷ settings_in_range p.settings
    ∷ eqb (length p.slots) (rooms_in p).sets ∷ all slot_passes p.slots
    ∷ leb (length p.rules) (rooms_in p).rules ∷ codes_pass p.rules ∷ rules_in_order p.rules ∷ rules_fit p.slots p.rules ∷ []

unfoldable pub sound : Plan → Bool
sound p = all_of (sound_rules p)

-- a rule "names a set that exists and fits it"
pub record NamesHeld (p : Plan) (r : Rule) : Type 0 where
  pub content : List ℕ
  pub is_held : held p r.set ≡ some content
  pub fits : T (fit (filter_in r) (actions_of content))
  pub passes : T (content_passes content)
