-- What the examiner tests, in the order in which it does: the header, each set slot, each rule slot, each rule and the next, and the free slots.
use Rattle.std.specs.Prelude.{ℕ, ◌+◌, ◌-◌, ◌*◌, ◌≤◌, Bool, true, ◌&&◌, List, [], ◌∷◌, map, length, drop, get_or, leb, eqb}
use Rattle.std.proofs.Math.Option.{none}
use Rattle.meaning.specs.Sizes.{SETTINGS-BYTES, CONTENT-BYTES, RULE-BODY, SETTINGS-AT, SETTINGS-END, SETS-AT, CONTENT-AT, COUNT-AT, SET-WIDTH, RULE-WIDTH}
use Rattle.meaning.specs.Basics.{all, all_of, is_zero, part, begins_with}
use Rattle.std.specs.Prelude.{if◌then◌else◌}
use Rattle.meaning.specs.Settings.{rooms_in_range, settings_in_range}
use Rattle.meaning.specs.Filters.{filter_in_range, is_before}
use Rattle.meaning.specs.Rules.{Rule, filter_in}
use Rattle.meaning.specs.Actions.{actions_of, content_in_range}
use Rattle.meaning.specs.Groups.{groups_hold}
use Rattle.meaning.specs.Plan.{fits_held}
use Rattle.buffer.specs.Slots.{slots}
use Rattle.filter.specs.Slots.{rule_of}
use Rattle.plan.specs.Layout.{mark, rooms_at, size_of, set_room, rule_room, rule_count, slot_of}

-- THE HEADER

-- the bytes that every plan of this build has alike
abbrev pub fixed_tests : List ℕ → List Bool
fixed_tests m = begins_with mark m ∷ all is_zero (part 6 2 m) ∷ all is_zero (part SETTINGS-END (SETS-AT - SETTINGS-END) m) ∷ []

unfoldable pub fixed_pass : List ℕ → Bool
fixed_pass m = all_of (fixed_tests m)

-- the rooms and settings of the opening
abbrev pub opening_tests : List ℕ → List Bool
opening_tests m = rooms_in_range (rooms_at m) ∷ settings_in_range (part SETTINGS-AT SETTINGS-BYTES m) ∷ []

unfoldable pub opening_passes : List ℕ → Bool
opening_passes m = all_of (opening_tests m)

-- the rules have room, and the plan has the size that it needs
abbrev pub size_tests : List ℕ → List Bool
size_tests m = leb (rule_count m) (rule_room m) ∷ leb (size_of m) (length m) ∷ []

unfoldable pub sizes_pass : List ℕ → Bool
sizes_pass m = all_of (size_tests m)

abbrev pub header_tests : List ℕ → List Bool
header_tests m = leb SETS-AT (length m) ∷ fixed_pass m ∷ opening_passes m ∷ sizes_pass m ∷ []

unfoldable pub header_passes : List ℕ → Bool
header_passes m = all_of (header_tests m)

-- A SET SLOT

abbrev pub held_tests : List ℕ → List Bool
held_tests s = eqb (get_or s 0 0) 1 ∷ content_in_range (part CONTENT-AT CONTENT-BYTES s) ∷ groups_hold (actions_of (part CONTENT-AT CONTENT-BYTES s)) ∷ all is_zero (part COUNT-AT (SET-WIDTH - COUNT-AT) s) ∷ []

-- all 0, or held with a content that passes and nothing behind it
unfoldable pub slot_test : List ℕ → Bool
slot_test s = if is_zero (get_or s 0 0) then all is_zero s else all_of (held_tests s)

-- A RULE SLOT, over the set slots

-- the set that a rule names is held, and the rule's filter fits it
unfoldable pub set_fits : List (List ℕ) → Rule → Bool
set_fits sets r = fits_held (filter_in r) (get_or (map slot_of sets) r.set none)

-- its filter in range, nothing behind its set number, and its set held and fitting
abbrev pub rule_tests : List (List ℕ) → List ℕ → List Bool
rule_tests sets s = filter_in_range (rule_of s).code ∷ all is_zero (part RULE-BODY (RULE-WIDTH - RULE-BODY) s) ∷ set_fits sets (rule_of s) ∷ []

unfoldable pub rule_test : List (List ℕ) → List ℕ → Bool
rule_test sets s = all_of (rule_tests sets s)

-- LISTING ORDER, neighbour by neighbour

abbrev pub before_next : Rule → List Rule → Bool
before_next r [] = true
before_next r (s ∷ rs) = is_before (filter_in r) (filter_in s)

abbrev pub rising : List Rule → Bool
rising [] = true
rising (r ∷ rs) = before_next r rs && rising rs

-- THE SET SLOTS, THE RULE SLOTS THAT ARE HELD, AND THE FREE ONES

abbrev pub areas_tests : List (List ℕ) → List (List ℕ) → List ℕ → List Bool
areas_tests sets rules free = all slot_test sets ∷ all (rule_test sets) rules ∷ rising (map rule_of rules) ∷ all is_zero free ∷ []

unfoldable pub areas_pass : List (List ℕ) → List (List ℕ) → List ℕ → Bool
areas_pass sets rules free = all_of (areas_tests sets rules free)

-- the same of their bytes, with room for so many sets, and so many rules held
abbrev pub bytes_pass : ℕ → List ℕ → ℕ → List ℕ → Bool
bytes_pass room sets count rules = areas_pass (slots SET-WIDTH room sets) (slots RULE-WIDTH count rules) (drop (RULE-WIDTH * count) rules)

-- the set slots, and the rule slots, held or free
abbrev pub set_area : ℕ → List ℕ → List ℕ
set_area room m = part SETS-AT (SET-WIDTH * room) m

abbrev pub rule_area : ℕ → ℕ → List ℕ → List ℕ
rule_area room rules m = part (SETS-AT + SET-WIDTH * room) (RULE-WIDTH * rules) m

abbrev pub body_pass : List ℕ → Bool
body_pass m = bytes_pass (set_room m) (set_area (set_room m) m) (rule_count m) (rule_area (set_room m) (rule_room m) m)

unfoldable pub examined : List ℕ → Bool
examined m = header_passes m && body_pass m

-- WHAT THE BODY'S EXAMINATION ASKS

-- rooms and a count of rules in range, in a memory of the size that they need
pub record Sized (room rules count : ℕ) (m : List ℕ) : Type 0 where
  pub few_sets : room ≤ 1024
  pub few_rules : rules ≤ 4096
  pub held : count ≤ rules
  pub size : SETS-AT + SET-WIDTH * room + RULE-WIDTH * rules ≤ length m
