-- How a plan lies in the lent bytes (docs/LAYOUT.md): its image, and the plan that bytes hold.
use Rattle.std.specs.Prelude.{ℕ, ◌+◌, ◌-◌, ◌*◌, ◌/◌, ◌%◌, List, [], ◌∷◌, ◌++◌, map, length, drop, get_or}
use Rattle.std.proofs.Math.Option.{Option, none, some}
use Rattle.meaning.specs.Sizes.{ROOMS-BYTES, SETTINGS-BYTES, CONTENT-BYTES, RULE-BODY, RULES-AT, ROOMS-AT, SETTINGS-AT, SETTINGS-END, SETS-AT, CONTENT-AT, COUNT-AT, SET-WIDTH, RULE-WIDTH}
use Rattle.meaning.specs.Basics.{is_zero, word, part}
use Rattle.std.specs.Prelude.{if◌then◌else◌}
use Rattle.meaning.specs.Settings.{rooms_of, bytes_needed}
use Rattle.meaning.specs.Rules.{Rule}
use Rattle.meaning.specs.Plan.{Plan, rooms_in}
use Rattle.buffer.specs.Zeros.{zeros}
use Rattle.buffer.specs.Slots.{slots, flat}
use Rattle.filter.specs.Slots.{rules_of}

-- THE IMAGE OF A PLAN

-- the mark of this build, `NPP2`
abbrev pub mark : List ℕ
mark = 78 ∷ 80 ∷ 80 ∷ 50 ∷ []

-- "Two-byte numbers: high byte first"
abbrev pub word_bytes : ℕ → List ℕ
word_bytes n = n / 256 ∷ n % 256 ∷ []

-- mark 4, count of rules 2, unused 2, rooms, settings, and unused bytes up to where the sets begin
unfoldable pub header_image : Plan → List ℕ
header_image p = mark ++ (word_bytes (length p.rules) ++ (zeros 2 ++ (p.rooms ++ (p.settings ++ zeros (SETS-AT - SETTINGS-END)))))

-- held 1, content, and a two-byte number, 0 for now
abbrev pub slot_image : ℕ → Option (List ℕ) → List ℕ
slot_image n none = zeros COUNT-AT ++ word_bytes n
slot_image n (some c) = 1 ∷ c ++ word_bytes n

-- filter, set 2, and unused bytes
unfoldable pub rule_image : Rule → List ℕ
rule_image r = r.code ++ (word_bytes r.set ++ zeros (RULE-WIDTH - RULE-BODY))

-- the set slots
unfoldable pub sets_image : Plan → List ℕ
sets_image p = flat (map (slot_image 0) p.slots)

-- the rule slots that are held, and those that are free
unfoldable pub rules_image : Plan → List ℕ
rules_image p = flat (map rule_image p.rules) ++ zeros (RULE-WIDTH * ((rooms_in p).rules - length p.rules))

unfoldable pub image : Plan → List ℕ
image p = header_image p ++ (sets_image p ++ rules_image p)

-- THE PLAN THAT BYTES HOLD, whatever they are

abbrev pub rooms_at : List ℕ → List ℕ
rooms_at m = part ROOMS-AT ROOMS-BYTES m

-- the size that the rooms in the header need
abbrev pub size_of : List ℕ → ℕ
size_of m = bytes_needed (rooms_of (rooms_at m))

-- the rooms and the count of rules in the header, as numbers
abbrev pub set_room : List ℕ → ℕ
set_room m = (rooms_of (rooms_at m)).sets

abbrev pub rule_room : List ℕ → ℕ
rule_room m = (rooms_of (rooms_at m)).rules

abbrev pub rule_count : List ℕ → ℕ
rule_count m = word m RULES-AT

-- where the set slots and the rule slots begin
abbrev pub sets_from : List ℕ → List ℕ
sets_from m = drop SETS-AT m

abbrev pub rules_from : List ℕ → List ℕ
rules_from m = drop (SETS-AT + SET-WIDTH * set_room m) m

-- the content of a set slot
unfoldable pub slot_of : List ℕ → Option (List ℕ)
slot_of s = if is_zero (get_or s 0 0) then none else some (part CONTENT-AT CONTENT-BYTES s)

-- the set slots of an area
unfoldable pub slots_of : ℕ → List ℕ → List (Option (List ℕ))
slots_of n area = map slot_of (slots SET-WIDTH n area)

unfoldable pub plan_of : List ℕ → Plan
plan_of m =
    record { rooms = rooms_at m; settings = part SETTINGS-AT SETTINGS-BYTES m; slots = slots_of (set_room m) (sets_from m); rules = rules_of (rule_count m) (rules_from m) }
