-- The seven calls that open and provision a plan: the checks of each in order, what an accepted one makes, and what a list of calls puts in.
use Rattle.std.specs.Prelude.{ℕ, Bool, true, ◌&&◌, ◌||◌, not, List, [], ◌∷◌, length, take, get_or, leb, ltb, eqb}
use Rattle.std.proofs.Math.Option.{Option, none, some}
use Rattle.meaning.specs.Sizes.{ROOMS-BYTES, SETTINGS-BYTES, OPENING-BYTES, SET-NUMBER-BYTES, CONTENT-BYTES, SET-BODY, FILTER-BYTES, SET-AT, RULE-BODY, NUMBER-BYTES, CALL-BYTES, PRICE-BODY}
use Rattle.meaning.specs.Basics.{within, all, any, is_some, is_zero, part, word}
use Rattle.std.specs.Prelude.{if◌then◌else◌}
use Rattle.meaning.specs.Refusals.{CUT, PLAN, ROOM, RANGE, GROUPS, TAKEN, ABSENT, MISFIT, FULL, IN-USE, Line, first_of}
use Rattle.meaning.specs.Settings.{rooms_of, rooms_in_range, settings_in_range, bytes_needed}
use Rattle.meaning.specs.Filters.{filter_of, filter_in_range}
use Rattle.meaning.specs.Rules.{Rule, filter_in, names, has_filter, insert, rename, without}
use Rattle.meaning.specs.Actions.{actions_of, content_in_range}
use Rattle.meaning.specs.Groups.{groups_hold, fit}
use Rattle.meaning.specs.Plan.{Plan, rooms_in, held, fresh, with_slot, with_rules, fits_held}
use Rattle.meaning.specs.Reads.{over_room}

-- THE CALLS

-- "calls that open a plan, add, replace or remove a set, or add, change or remove a rule"
pub data Operation : Type 0 where
  open_plan add_set replace_set remove_set add_rule change_rule remove_rule : Operation

-- a call: what it is to do, and its body, of any length
pub record Call : Type 0 where
  pub operation : Operation
  pub body : List ℕ

-- THE KINDS OF HOUSE RECORDS: "open", "add, replace set", "remove set", "add rule, change its set", "remove rule"

abbrev pub OPEN-PLAN : ℕ
OPEN-PLAN = 0

abbrev pub ADD-SET : ℕ
ADD-SET = 1

abbrev pub REPLACE-SET : ℕ
REPLACE-SET = 2

abbrev pub REMOVE-SET : ℕ
REMOVE-SET = 3

abbrev pub ADD-RULE : ℕ
ADD-RULE = 4

abbrev pub CHANGE-RULE : ℕ
CHANGE-RULE = 5

abbrev pub REMOVE-RULE : ℕ
REMOVE-RULE = 6

-- "number", "count rules naming a set", "list"
abbrev pub NUMBER : ℕ
NUMBER = 7

abbrev pub REFS : ℕ
REFS = 8

abbrev pub LIST : ℕ
LIST = 9

-- C-11: "A call record is kind 16"; "Kind 17 adds a row"; "kind 18, no body, a line for each district"
abbrev pub CALL : ℕ
CALL = 16

abbrev pub PRICE : ℕ
PRICE = 17

abbrev pub LOSSES : ℕ
LOSSES = 18

abbrev pub kinds : List ℕ
kinds =
    OPEN-PLAN ∷ ADD-SET ∷ REPLACE-SET ∷ REMOVE-SET ∷ ADD-RULE ∷ CHANGE-RULE ∷ REMOVE-RULE ∷ NUMBER ∷ REFS ∷ LIST ∷ CALL ∷ PRICE ∷ LOSSES ∷ []

-- KIND: "unknown kind byte" is where this is false
unfoldable pub is_kind : ℕ → Bool
is_kind k = leb k LIST || within CALL LOSSES k

-- the kinds of the calls that open and provision: "Kinds 0 to 6 write `ok`"
unfoldable pub is_call : ℕ → Bool
is_call k = leb k REMOVE-RULE

-- "a body whose length the kind fixes": of kinds 0 to 9, of 10 to 15, which are no kinds, and of 16 to 18
abbrev pub body_lengths : List ℕ
body_lengths =
    OPENING-BYTES ∷ SET-BODY ∷ SET-BODY ∷ SET-NUMBER-BYTES ∷ RULE-BODY ∷ RULE-BODY ∷ FILTER-BYTES ∷ NUMBER-BYTES ∷ SET-NUMBER-BYTES ∷ 0
    ∷ 0 ∷ 0 ∷ 0 ∷ 0 ∷ 0 ∷ 0
    ∷ CALL-BYTES ∷ PRICE-BODY ∷ 0 ∷ []

unfoldable pub body_length : ℕ → ℕ
body_length k = get_or body_lengths k 0

-- the kind of a call as a house record
abbrev pub kind_of : Operation → ℕ
kind_of open_plan = OPEN-PLAN
kind_of add_set = ADD-SET
kind_of replace_set = REPLACE-SET
kind_of remove_set = REMOVE-SET
kind_of add_rule = ADD-RULE
kind_of change_rule = CHANGE-RULE
kind_of remove_rule = REMOVE-RULE

-- and back: what the call of a kind is to do; no kind that is not a call's is asked for
unfoldable pub operation_of : ℕ → Operation
operation_of k = get_or (open_plan ∷ add_set ∷ replace_set ∷ remove_set ∷ add_rule ∷ change_rule ∷ []) k remove_rule

-- a call by its kind
abbrev pub call_of : ℕ → List ℕ → Call
call_of k body = record { operation = operation_of k; body = body }

-- CUT: "a record's body is shorter than its kind says"
abbrev pub is_cut : Call → Bool
is_cut c = ltb (length c.body) (body_length (kind_of c.operation))

-- the bytes of the body that its kind says: those behind are not looked at (docs/DECISIONS.md, 17)
abbrev pub body_of : Call → List ℕ
body_of c = take (body_length (kind_of c.operation)) c.body

-- what stands in a body: "rooms 2+2", and the settings; "number 2", and the content; the filter, and "set 2"
abbrev pub opened_rooms : List ℕ → List ℕ
opened_rooms b = take ROOMS-BYTES b

abbrev pub opened_settings : List ℕ → List ℕ
opened_settings b = part ROOMS-BYTES SETTINGS-BYTES b

abbrev pub set_number : List ℕ → ℕ
set_number b = word b 0

abbrev pub content_given : List ℕ → List ℕ
content_given b = part SET-NUMBER-BYTES CONTENT-BYTES b

abbrev pub code_given : List ℕ → List ℕ
code_given b = take FILTER-BYTES b

abbrev pub set_given : List ℕ → ℕ
set_given b = word b SET-AT

-- THE CHECKS OF EACH, "Order: as numbered"

abbrev pub holds_filter : Plan → List ℕ → Bool
holds_filter p code = any (has_filter (filter_of code)) p.rules

-- "opening checks RANGE before ROOM"; `lacks` tells whether the memory is too small for the rooms asked
unfoldable pub opening_lines : (List ℕ → Bool) → List ℕ → List Line
opening_lines lacks b =
    (not (rooms_in_range (opened_rooms b) && settings_in_range (opened_settings b)), RANGE) ∷ (lacks (opened_rooms b), ROOM) ∷ []

unfoldable pub add_set_lines : Plan → List ℕ → List Line
add_set_lines p b =
    (over_room p (set_number b) || not (content_in_range (content_given b)), RANGE)
    ∷ (not (groups_hold (actions_of (content_given b))), GROUPS)
    ∷ (is_some (held p (set_number b)), TAKEN) ∷ []

-- "Replacing a set checks every rule that names it"
unfoldable pub replace_set_lines : Plan → List ℕ → List Line
replace_set_lines p b =
    (over_room p (set_number b) || not (content_in_range (content_given b)), RANGE)
    ∷ (not (groups_hold (actions_of (content_given b))), GROUPS)
    ∷ (not (is_some (held p (set_number b))), ABSENT)
    ∷ (not (all (λ (r : Rule). not (names (set_number b) r) || fit (filter_in r) (actions_of (content_given b))) p.rules), MISFIT) ∷ []

-- IN USE: "removing a set that a rule names"
unfoldable pub remove_set_lines : Plan → List ℕ → List Line
remove_set_lines p b =
    (over_room p (set_number b), RANGE)
    ∷ (not (is_some (held p (set_number b))), ABSENT)
    ∷ (any (names (set_number b)) p.rules, IN-USE) ∷ []

-- "Adding a rule: TAKEN asks about the filter, ABSENT about the set"; FULL: "the rules held equal the room"
unfoldable pub add_rule_lines : Plan → List ℕ → List Line
add_rule_lines p b =
    (over_room p (set_given b) || not (filter_in_range (code_given b)), RANGE)
    ∷ (holds_filter p (code_given b), TAKEN)
    ∷ (not (is_some (held p (set_given b))), ABSENT)
    ∷ (not (fits_held (filter_of (code_given b)) (held p (set_given b))), MISFIT)
    ∷ (eqb (length p.rules) (rooms_in p).rules, FULL) ∷ []

-- ABSENT: "a named set .., or a filter to change or remove, not there"
unfoldable pub change_rule_lines : Plan → List ℕ → List Line
change_rule_lines p b =
    (over_room p (set_given b) || not (filter_in_range (code_given b)), RANGE)
    ∷ (not (holds_filter p (code_given b) && is_some (held p (set_given b))), ABSENT)
    ∷ (not (fits_held (filter_of (code_given b)) (held p (set_given b))), MISFIT) ∷ []

unfoldable pub remove_rule_lines : Plan → List ℕ → List Line
remove_rule_lines p b = (not (filter_in_range (code_given b)), RANGE) ∷ (not (holds_filter p (code_given b)), ABSENT) ∷ []

-- PLAN: "any call but opening: the lent plan memory isn't a sound plan of this build"
abbrev pub over_plan : Option Plan → (Plan → List Line) → List Line
over_plan none lines = (true, PLAN) ∷ []
over_plan (some p) lines = lines p

abbrev pub lines_of : Operation → (List ℕ → Bool) → Option Plan → List ℕ → List Line
lines_of open_plan lacks s b = opening_lines lacks b
lines_of add_set lacks s b = over_plan s (λ (p : Plan). add_set_lines p b)
lines_of replace_set lacks s b = over_plan s (λ (p : Plan). replace_set_lines p b)
lines_of remove_set lacks s b = over_plan s (λ (p : Plan). remove_set_lines p b)
lines_of add_rule lacks s b = over_plan s (λ (p : Plan). add_rule_lines p b)
lines_of change_rule lacks s b = over_plan s (λ (p : Plan). change_rule_lines p b)
lines_of remove_rule lacks s b = over_plan s (λ (p : Plan). remove_rule_lines p b)

-- the number a call is answered with: 0 where it is accepted
unfoldable pub refusal : (List ℕ → Bool) → Option Plan → Call → ℕ
refusal lacks s c = first_of ((is_cut c, CUT) ∷ lines_of c.operation lacks s (body_of c))

-- ROOM at opening: "plan memory under 64 bytes + 48 a set + 24 a rule of the rooms asked"
abbrev pub lacks_bytes : ℕ → List ℕ → Bool
lacks_bytes size rooms = ltb size (bytes_needed (rooms_of rooms))

-- WHAT AN ACCEPTED CALL MAKES

abbrev pub on_plan : Option Plan → (Plan → Plan) → Option Plan
on_plan none change = none
on_plan (some p) change = some (change p)

abbrev pub rule_given : List ℕ → Rule
rule_given b = record { code = code_given b; set = set_given b }

abbrev pub made : Operation → Option Plan → List ℕ → Option Plan
made open_plan s b = some (fresh (opened_rooms b) (opened_settings b))
made add_set s b = on_plan s (with_slot (set_number b) (some (content_given b)))
made replace_set s b = on_plan s (with_slot (set_number b) (some (content_given b)))
made remove_set s b = on_plan s (with_slot (set_number b) none)
made add_rule s b = on_plan s (λ (p : Plan). with_rules (insert (rule_given b) p.rules) p)
made change_rule s b = on_plan s (λ (p : Plan). with_rules (rename (filter_of (code_given b)) (set_given b) p.rules) p)
made remove_rule s b = on_plan s (λ (p : Plan). with_rules (without (filter_of (code_given b)) p.rules) p)

-- WHAT WAS PUT IN, by carrying a plan through the calls. Nothing is in until an opening is accepted.

abbrev pub is_accepted : (List ℕ → Bool) → Option Plan → Call → Bool
is_accepted lacks s c = is_zero (refusal lacks s c)

-- a refused call changes nothing
unfoldable pub after : (List ℕ → Bool) → Option Plan → Call → Option Plan
after lacks s c = if is_accepted lacks s c then made c.operation s (body_of c) else s

abbrev pub put_in_from : (List ℕ → Bool) → Option Plan → List Call → Option Plan
put_in_from lacks s [] = s
put_in_from lacks s (c ∷ cs) = put_in_from lacks (after lacks s c) cs

abbrev pub put_in : (List ℕ → Bool) → List Call → Option Plan
put_in lacks cs = put_in_from lacks none cs

-- the number of each call
abbrev pub refusals_from : (List ℕ → Bool) → Option Plan → List Call → List ℕ
refusals_from lacks s [] = []
refusals_from lacks s (c ∷ cs) = refusal lacks s c ∷ refusals_from lacks (after lacks s c) cs
