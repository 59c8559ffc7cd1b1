-- The definitions tried by computing them: document 01's run, given whole, and what the table of marked examples does not reach, a row for each sentence or reading.
-- The results are worked out from the papers' rules, and each is what the definitions compute. Some rows carry 64 elements and more.
use Prim.Native.Nat.{ℕ, zero, suc, ◌+◌, ◌-◌, ◌/◌, ◌%◌}
use Prim.Native.Char.{code}
use Prim.Native.String.{String, [] as empty, ◌∷◌ as ◌before◌}
use mathlib.Core.Path.{◌≡◌, refl}
use mathlib.Core.Bool.{Bool}
use mathlib.Core.List.{List, [], ◌∷◌, ◌++◌, map, reverse}
use mathlib.Core.Option.{Option, none, some}
use lib.IntN.{ℤ, pos, negsuc}
use lib.ListN.{length, take, drop, set, replicate}
use lib.Dec.{ltb}
use Rattle.meaning.specs.Sizes.{ROOMS-BYTES, ACCEPTING-AT, SETTINGS-BYTES, OPENING-BYTES, CONTENT-BYTES, SET-BODY, NUMBER-BYTES, LONGEST-RECORD, DIFFERENCE-FILTER-AT, LEFT-SET-AT, RIGHT-SET-AT, DIFFERENCE-BYTES, DIGIT-ROOM, RULES-AT, ROOMS-AT, SETTINGS-AT, SETTINGS-END, SETS-AT, CONTENT-AT, COUNT-AT, SET-WIDTH, RULE-WIDTH, PRICE-ROOM, PRICES-BYTES, DISTRICTS, LEDGER-NUMBERS, RUN-SETS, RUN-RULES, RUN-BYTES}
use Rattle.meaning.specs.Basics.{all_of, written_over, padded}
use Rattle.std.specs.Prelude.{if◌then◌else◌}
use Rattle.meaning.specs.Settings.{Number, rooms_of, rooms_in_range, bytes_needed, settings_of, settings_in_range, lookup_of, entity_in_range, asd_or_grn_in_range, lookup_in_range, number_of, number_in_range, dialled_in_range}
use Rattle.meaning.specs.Filters.{filter_of, filter_in_range, fits_number, rank, compare_filters}
use Rattle.meaning.specs.Rules.{first_largest, weight, chosen_place, chosen}
use Rattle.meaning.specs.Actions.{value_of, actions_of, most_of, ca_in_range, content_in_range}
use Rattle.meaning.specs.Groups.{nothing_without_ca, one_format, format_stands, fpfx_first, one_x_action, precedence, is_backed, formatting_backed, groups_hold, fpfx_meets_prefix, cas_fit, fit}
use Rattle.meaning.specs.Conditioning.{Stretch, digits_at, stretch_of, value_from, conditioned_from, joined}
use Rattle.meaning.specs.Services.{at_start, responded, unsuccessful, inprtg, rn_set, cdpnnp, asdlkup, grnlkup, cdial, carry_out, eight_places, value_to_send}
use Rattle.meaning.specs.Plan.{Plan, settings_in, referrers, fresh, with_slot, with_rules, content_passes, code_passes, rules_fit, codes_pass, sound}
use Rattle.meaning.specs.Answer.{Answer, refused, unserved, served, outgoing_class, formatted, after_services, answer_by, answer_with, answer_of, answer}
use Rattle.meaning.specs.View.{view, answer_by_view}
use Rattle.meaning.specs.Reads.{Read, Count, Listed, conditioned_by, conditioned, stretch_by, stretch, set_content, referrer_count, listing, rule_count, rule_at_place}
use Rattle.meaning.specs.Calls.{Call, OPEN-PLAN, ADD-SET, REPLACE-SET, REMOVE-SET, ADD-RULE, CHANGE-RULE, REMOVE-RULE, NUMBER, REFS, LIST, CALL, PRICE, LOSSES, kinds, is_kind, is_call, body_length, opening_lines, add_set_lines, replace_set_lines, remove_set_lines, add_rule_lines, change_rule_lines, remove_rule_lines, refusal, lacks_bytes, after, put_in, refusals_from, operation_of, call_of}
use Rattle.meaning.specs.LookBack.{accepted, last_opening, last_content, last_set}
use Rattle.meaning.specs.History.{rising}
use Rattle.meaning.specs.Prices.{PriceRow, row_given, row_in_range, row_weight, row_place, price_for, row_passes, list_tests, prices_pass, price_refusal, rows_after}
use Rattle.meaning.specs.Ledger.{LEDGER-LIMIT, Ledger, ledger_of, totals_of, empty_ledger, sum_in_range, totals_in_range, ledger_in_range, is_full, Entry, plus, with_totals, entered, cents}
use Rattle.meaning.specs.Charges.{CallRecord, call_record_of, call_in_range, priced_on, due_of, entry_of, charge_lines, taking_refusal, charged, ledger_after}
use Rattle.meaning.specs.Records.{decimal, digit_text, ok_line, no_line, number_line, refs_line, listed_line, end_line, loss_line, total_line, loss_text, lacks_program_room, record_text, record_house, house_with, text_from, file_text, End, file_end}
use Rattle.meaning.specs.Answers.{code_of, class_of, outgoing_of, number_of_refusal}
use Rattle.std.specs.Prelude.{Result, Ok, Err}
use Rattle.meaning.specs.declared.Class.{Class}
use Rattle.meaning.specs.declared.UnknownClass.{UnknownClass}
use Rattle.meaning.specs.declared.Outgoing.{Outgoing}
use Rattle.meaning.specs.declared.Outgoing.TheVariants.{Given, AsIncoming}
use Rattle.meaning.specs.declared.Refusal.TheVariants.{Cut, Kind, Plan as PlanRefused, Room, Range, Groups, Taken, Absent, Misfit, Full, InUse, Short, Long}
use Rattle.meaning.specs.Examples.{string, MEMORY}
use Rattle.meaning.specs.Run.{ascii, file, run, nine_lines, three_accounts, seven_lines}

-- every definition that is computed with
unfoldable pub everything : ℕ
unfolding rooms_of rooms_in_range bytes_needed settings_of settings_in_range lookup_of entity_in_range asd_or_grn_in_range lookup_in_range number_of number_in_range dialled_in_range filter_of filter_in_range fits_number rank compare_filters first_largest weight chosen_place chosen value_of actions_of most_of ca_in_range content_in_range nothing_without_ca one_format format_stands fpfx_first one_x_action precedence is_backed formatting_backed groups_hold fpfx_meets_prefix cas_fit fit stretch_of value_from conditioned_from at_start responded unsuccessful inprtg rn_set cdpnnp asdlkup grnlkup cdial carry_out eight_places value_to_send referrers fresh with_slot with_rules content_passes code_passes rules_fit codes_pass sound refused unserved served outgoing_class formatted after_services answer_by answer_with answer_of view answer_by_view conditioned_by stretch_by listing is_kind is_call body_length opening_lines add_set_lines replace_set_lines remove_set_lines add_rule_lines change_rule_lines remove_rule_lines refusal after decimal digit_text ok_line no_line number_line refs_line listed_line end_line lacks_program_room operation_of record_text record_house file_text file_end
everything = 0

-- THE RUN

-- document 01's run writes document 01's nine lines
pub run_given_whole : file_text run ≡ nine_lines
unfolding everything run nine_lines
run_given_whole = refl

-- every definition that a call record, a row and the lines of losses are computed with besides
losing : ℕ
unfolding everything row_given row_in_range row_weight row_place price_for row_passes prices_pass price_refusal rows_after empty_ledger sum_in_range totals_in_range ledger_in_range plus with_totals entered cents call_record_of call_in_range priced_on due_of entry_of charge_lines taking_refusal charged ledger_after loss_line total_line loss_text
losing = 0

-- C-11's three accounts of one district: each loses less than half a cent, and together they lose one
pub three_accounts_lem : file_text three_accounts ≡ seven_lines
unfolding losing three_accounts seven_lines
three_accounts_lem = refl

-- what ended reading, and where
abbrev end_fields : End → List ℕ
end_fields e = e.refusal ∷ e.place ∷ []

-- "KIND before CUT": an unknown kind as the last byte; and the empty file
pub ends_at_once : (end_fields (file_end (9 ∷ 9 ∷ 10 ∷ [])) ≡ 2 ∷ 2 ∷ []) × (end_fields (file_end (3 ∷ 0 ∷ [])) ≡ 1 ∷ 0 ∷ []) × (end_fields (file_end []) ≡ 0 ∷ 0 ∷ [])
unfolding everything
ends_at_once = (refl, refl, refl)

-- RECORDS: a byte of kind, and its body

-- "written 0 to 9 and a to f"
abbrev pub digits : String → List ℕ
digits empty = []
digits (c before s) = (if ltb (code c) 58 then code c - 48 else code c - 87) ∷ digits s

abbrev pub two : ℕ → List ℕ
two n = n / 256 ∷ n % 256 ∷ []

-- rooms, country code, DFLTRN, the delimiters, the four answers; accepting 0
abbrev pub opening : ℕ → ℕ → String → String → String → String → List ℕ → List ℕ
opening sets rules country dfltrn a b answers =
    OPEN-PLAN
    ∷ (two sets
    ++ (two rules ++ padded SETTINGS-BYTES (string 3 (digits country) ++ (string 15 (digits dfltrn) ++ (string 5 (digits a) ++ (string 5 (digits b) ++ answers))))))

-- number, class, CAs as codes and counts, SAs, FAs
abbrev pub set_record : ℕ → ℕ → ℕ → List ℕ → List ℕ → List ℕ → List ℕ
set_record kind n class cas sas fas = kind ∷ (two n ++ padded CONTENT-BYTES (class ∷ (padded 24 cas ++ (padded 8 sas ++ padded 12 fas))))

abbrev pub new_set : ℕ → ℕ → List ℕ → List ℕ → List ℕ → List ℕ
new_set n class cas sas fas = set_record ADD-SET n class cas sas fas

abbrev pub replaced_set : ℕ → ℕ → List ℕ → List ℕ → List ℕ → List ℕ
replaced_set n class cas sas fas = set_record REPLACE-SET n class cas sas fas

abbrev pub removed_set : ℕ → List ℕ
removed_set n = REMOVE-SET ∷ two n

-- class, prefix, length
abbrev pub filter : ℕ → String → ℕ → List ℕ
filter class prefix len = class ∷ (string 16 (digits prefix) ++ (len ∷ []))

abbrev pub new_rule : ℕ → String → ℕ → ℕ → List ℕ
new_rule class prefix len n = ADD-RULE ∷ (filter class prefix len ++ two n)

abbrev pub changed_rule : ℕ → String → ℕ → ℕ → List ℕ
changed_rule class prefix len n = CHANGE-RULE ∷ (filter class prefix len ++ two n)

abbrev pub removed_rule : ℕ → String → ℕ → List ℕ
removed_rule class prefix len = REMOVE-RULE ∷ filter class prefix len

-- class, digits, lookup kind, entity, ASD, GRN
abbrev pub number_with : ℕ → String → ℕ → String → String → String → List ℕ
number_with class ds kind entity asd grn =
    NUMBER
    ∷ padded NUMBER-BYTES (class ∷ (string 32 (digits ds) ++ (kind ∷ (string 15 (digits entity) ++ (string 10 (digits asd) ++ string 10 (digits grn))))))

abbrev pub number : ℕ → String → ℕ → String → List ℕ
number class ds kind entity = number_with class ds kind entity "" ""

abbrev pub refs : ℕ → List ℕ
refs n = REFS ∷ two n

abbrev pub list : List ℕ
list = LIST ∷ []

-- a record with another byte at a place
abbrev pub but : ℕ → ℕ → List ℕ → List ℕ
but at v r = set r at v

-- OPENINGS AND SETS THAT THE ROWS SHARE

-- an opening under another accepting byte
abbrev pub accepting : ℕ → List ℕ → List ℕ
accepting v r = but (1 + ROOMS-BYTES + ACCEPTING-AT) v r

-- every kind RELAY
abbrev pub relay : List ℕ
relay = 1 ∷ 1 ∷ 1 ∷ 1 ∷ []

-- "Country code 55, no DFLTRN", 8 sets, 8 rules
abbrev pub plain : List ℕ
plain = opening 8 8 "55" "" "" "" relay

abbrev pub rooms : ℕ → ℕ → List ℕ
rooms sets rules = opening sets rules "55" "" "" "" relay

-- "DNX, CCDEF"
abbrev pub dnx_ccdef : List ℕ
dnx_ccdef = 12 ∷ 0 ∷ 15 ∷ 0 ∷ []

-- document 01's S1
abbrev pub s1 : ℕ → List ℕ
s1 n = new_set n 255 dnx_ccdef (2 ∷ []) (11 ∷ 4 ∷ [])

-- document 01's S2
abbrev pub s2 : ℕ → List ℕ
s2 n = new_set n 1 (1 ∷ 1 ∷ 3 ∷ 2 ∷ 7 ∷ 4 ∷ 11 ∷ 0 ∷ 15 ∷ 0 ∷ []) (2 ∷ 5 ∷ []) (7 ∷ 11 ∷ 2 ∷ 3 ∷ [])

-- a set with no CA: its numbers escape with its class
abbrev pub escape : ℕ → ℕ → List ℕ
escape n class = new_set n class [] [] []

-- set 0 with these CAs, SAs and FAs
abbrev pub given : List ℕ → List ℕ → List ℕ → List ℕ
given cas sas fas = new_set 0 255 cas sas fas

-- THE CALLS OF THE LIBRARY over the plan behind some records, in a memory for 1,024 sets and 4,096 rules

abbrev pub as_call : List ℕ → Call
as_call [] = call_of 0 []
as_call (k ∷ body) = call_of k body

abbrev pub LARGEST : ℕ
LARGEST = bytes_needed (record { sets = 1024; rules = 4096 })

abbrev pub behind : List (List ℕ) → Option Plan
behind rs = put_in (lacks_bytes LARGEST) (map as_call rs)

-- the number of each call, over a memory of so many bytes
abbrev pub numbers_over : ℕ → List (List ℕ) → List ℕ
numbers_over size rs = refusals_from (lacks_bytes size) none (map as_call rs)

-- refusal, outcome, class, response, count, the eight actions, the digits
abbrev pub answer_fields : Answer → List ℕ
answer_fields a = a.refusal ∷ a.outcome ∷ a.class ∷ a.response ∷ a.count ∷ (a.actions ++ a.digits)

-- refusal, the bytes
abbrev pub read_fields : Read → List ℕ
read_fields r = r.refusal ∷ r.bytes

-- class, length, set, prefix
abbrev pub listed_fields : Listed → List ℕ
listed_fields l = l.filter.class ∷ l.filter.len ∷ l.set ∷ l.filter.prefix

-- eight places with no action carried out
abbrev pub no_actions : List ℕ
no_actions = replicate 8 0

-- the answer to a number's record, over a digit buffer of so many bytes
abbrev pub answered_over : List (List ℕ) → ℕ → List ℕ → List ℕ
answered_over rs size n = answer_fields (answer (behind rs) size (drop 1 n))

-- refusal, the conditioned number
abbrev pub conditioned_over : List (List ℕ) → ℕ → ℕ → List ℕ → List ℕ
conditioned_over rs size class ds = read_fields (conditioned (behind rs) size class ds)

-- start and count
abbrev pub shown_stretch : Stretch → List ℕ
shown_stretch s = s.start ∷ s.count ∷ []

abbrev pub stretches_over : List (List ℕ) → ℕ → List ℕ → List ℕ → List ℕ
stretches_over rs class ds [] = []
stretches_over rs class ds (v ∷ vs) = shown_stretch (stretch (behind rs) class ds v) ++ stretches_over rs class ds vs

-- refusal, the bytes of the body
abbrev pub content_over : List (List ℕ) → ℕ → ℕ → List ℕ
content_over rs size n = read_fields (set_content (behind rs) size n)

-- refusal and number
abbrev pub shown_count : Count → List ℕ
shown_count c = c.refusal ∷ c.number ∷ []

-- nothing for what is not there
abbrev pub or_nothing : {A : Type 0} → (A → List ℕ) → Option A → List ℕ
or_nothing show none = []
or_nothing show (some a) = show a

-- refusal, and class, length, set and prefix
abbrev pub shown_place : ℕ × Option Listed → List ℕ
shown_place l = l.0 ∷ or_nothing listed_fields l.1

-- ROWS: each is an equation, with its proof by computing

-- found is what the definitions compute, expected what the papers say
pub record Row : Type 0 where
  pub found : List ℕ
  pub expected : List ℕ
  pub holds : found ≡ expected

abbrev pub row : (found expected : List ℕ) → found ≡ expected → Row
row found expected holds = record { found = found; expected = expected; holds = holds }

-- a file of these records writes this text
abbrev pub writes : (rs : List (List ℕ)) (text : String) → file_text (file rs) ≡ ascii text → Row
writes rs text holds = row (file_text (file rs)) (ascii text) holds

-- CARRYING IT OUT

pub carried : List Row
unfolding everything
carried =
    -- DFLTRN serves kind 3 and SP stays beside it, kind 2 keeps its RN, kinds 0 and 1 are unsuccessful
    writes
    (opening 8 8 "55" "0099" "" "" relay ∷ new_set 0 255 dnx_ccdef (2 ∷ []) (11 ∷ 12 ∷ 4 ∷ []) ∷ new_rule 1 "" 0 0
    ∷ number 1 "87654321" 3 "77" ∷ number 1 "87654321" 2 "0015" ∷ number 1 "87654321" 0 "" ∷ number 1 "87654321" 1 "" ∷ [])
    "ok\nok\nok\n4 1 0 1 00997787654321\n4 1 0 1 001587654321\n3 1 0 1 -\n3 1 0 1 -\n" refl
    -- the answers stand by lookup kind, CDIAL lifts the withholding and no response, the class answered is the set's in outcome 4 alone
    ∷ writes
    (opening 8 8 "55" "" "" "" (4 ∷ 1 ∷ 2 ∷ 3 ∷ []) ∷ new_set 0 3 dnx_ccdef (1 ∷ 2 ∷ 5 ∷ []) (11 ∷ 4 ∷ []) ∷ new_rule 1 "" 0 0
    ∷ number 1 "87654321" 0 "" ∷ number 1 "87654321" 1 "" ∷ number 1 "87654321" 2 "0015" ∷ number 1 "87654321" 3 "77" ∷ [])
    "ok\nok\nok\n2 1 4 1 -\n4 3 1 3 87654321\n2 1 2 1 -\n2 1 3 1 -\n" refl
    -- outcome 3 answers the incoming class whatever the set's, and the response is 1 after RELAY
    ∷ writes
    (plain ∷ new_set 0 3 dnx_ccdef (1 ∷ 2 ∷ []) (11 ∷ 4 ∷ []) ∷ new_rule 1 "" 0 0 ∷ number 1 "87654321" 0 "" ∷ number 1 "87654321" 2 "0015" ∷ [])
    "ok\nok\nok\n3 1 1 2 -\n4 3 1 2 001587654321\n" refl
    -- outcome 1 answers the set's class, 255 the incoming one, and an empty number escapes too
    ∷ writes
    (plain ∷ escape 0 4 ∷ escape 1 255 ∷ new_rule 1 "" 0 0 ∷ new_rule 0 "" 0 1
    ∷ number 1 "" 0 "" ∷ number 0 "12" 2 "1" ∷ number 2 "12" 0 "" ∷ [])
    "ok\nok\nok\nok\nok\n1 4 0 0 -\n1 0 0 0 -\n0 2 0 0 -\n" refl
    -- the longest prefix wins, and for the same prefix the stated length
    ∷ writes
    (plain ∷ escape 0 2 ∷ escape 1 3 ∷ escape 2 4 ∷ escape 3 5
    ∷ new_rule 1 "" 0 0 ∷ new_rule 1 "" 8 1 ∷ new_rule 1 "87" 0 2 ∷ new_rule 1 "87" 8 3
    ∷ number 1 "87654321" 0 "" ∷ removed_rule 1 "87" 8 ∷ number 1 "87654321" 0 "" ∷ removed_rule 1 "87" 0 ∷ number 1 "87654321" 0 ""
    ∷ removed_rule 1 "" 8 ∷ number 1 "87654321" 0 "" ∷ removed_rule 1 "" 0 ∷ number 1 "87654321" 0 "" ∷ [])
    "ok\nok\nok\nok\nok\nok\nok\nok\nok\n1 5 0 0 -\nok\n1 4 0 0 -\nok\n1 3 0 0 -\nok\n1 2 0 0 -\nok\n0 1 0 0 -\n" refl
    -- delimiters, ASD and GRN, which do not depend on CDPNNP's success; empty values add nothing
    ∷ writes
    (opening 8 8 "55" "" "12" "bc" relay ∷ new_set 0 2 (13 ∷ 0 ∷ []) (2 ∷ 4 ∷ 3 ∷ 5 ∷ []) (15 ∷ 13 ∷ 16 ∷ 14 ∷ 5 ∷ 15 ∷ []) ∷ new_rule 1 "" 0 0
    ∷ number_with 1 "987" 2 "7" "40" "5" ∷ number_with 1 "987" 1 "" "40" "" ∷ number 1 "987" 0 "" ∷ [])
    "ok\nok\nok\n4 2 0 4 1240bc598712\n4 2 0 4 1240bc98712\n4 2 0 4 12bc98712\n" refl
    -- FPFX takes the matched prefix and IGN drops its digits; no SA: outcome 4; SHORT where the number is no longer than F
    ∷ writes
    (plain ∷ given (14 ∷ 0 ∷ 1 ∷ 2 ∷ 2 ∷ 1 ∷ 3 ∷ 1 ∷ 1 ∷ 1 ∷ 11 ∷ 0 ∷ []) [] (3 ∷ 6 ∷ 6 ∷ 2 ∷ 1 ∷ []) ∷ new_rule 1 "00" 0 0
    ∷ number 1 "00994728765" 0 "" ∷ number 1 "00994728" 0 "" ∷ number 1 "0099472" 0 "" ∷ number 1 "00" 0 "" ∷ [])
    "ok\nok\nok\n4 1 0 0 8765000074\n4 1 0 0 8000074\nno 12\nno 12\n" refl
    -- PFXA to PFXD; CC and DN under a stated length; no FA: outcome 4 with no digits
    ∷ writes
    (plain ∷ given (10 ∷ 1 ∷ 9 ∷ 1 ∷ 8 ∷ 1 ∷ 7 ∷ 1 ∷ 13 ∷ 0 ∷ []) [] (7 ∷ 8 ∷ 9 ∷ 10 ∷ 5 ∷ [])
    ∷ new_set 1 255 (2 ∷ 2 ∷ 5 ∷ 6 ∷ []) [] (4 ∷ 1 ∷ []) ∷ new_set 2 0 (13 ∷ 0 ∷ []) [] []
    ∷ new_rule 0 "" 0 0 ∷ new_rule 2 "" 8 1 ∷ new_rule 3 "" 0 2
    ∷ number 0 "1234567" 0 "" ∷ number 2 "12345678" 0 "" ∷ number 2 "1234567" 0 "" ∷ number 3 "5" 0 "" ∷ [])
    "ok\nok\nok\nok\nok\nok\nok\n4 0 0 0 4321567\n4 2 0 0 34567812\n0 2 0 0 -\n4 0 0 0 -\n" refl
    -- LONG over 32 digits, in outcome 4 alone; SHORT before the services
    ∷ writes
    (opening 8 8 "55" "" "" "" (1 ∷ 4 ∷ 1 ∷ 1 ∷ []) ∷ new_set 0 255 dnx_ccdef (1 ∷ 2 ∷ []) (11 ∷ 4 ∷ []) ∷ new_rule 1 "" 0 0
    ∷ number 1 "1234567890123456789012345678901" 2 "1" ∷ number 1 "12345678901234567890123456789012" 2 "1"
    ∷ number 1 "12345678901234567890123456789012" 0 "" ∷ number 1 "12345678901234567890123456789012" 1 ""
    ∷ number 1 "" 1 "" ∷ [])
    "ok\nok\nok\n4 1 1 2 11234567890123456789012345678901\nno 13\n3 1 1 2 -\n2 1 4 1 -\nno 12\n" refl
    -- the actions carried out, in eight places
    ∷ row
    (answered_over (plain ∷ new_set 0 255 dnx_ccdef (1 ∷ 2 ∷ 4 ∷ 3 ∷ 5 ∷ []) (13 ∷ 4 ∷ 14 ∷ []) ∷ new_rule 1 "" 0 0 ∷ []) DIGIT-ROOM (number_with 1 "87" 3 "1" "4" "6"))
    (0 ∷ 4 ∷ 1 ∷ 1 ∷ 5 ∷ 1 ∷ 2 ∷ 4 ∷ 3 ∷ 5 ∷ 0 ∷ 0 ∷ 0 ∷ 4 ∷ 8 ∷ 7 ∷ 6 ∷ []) refl
    ∷ []

-- A SUBSCRIBER WITHOUT ENTITY (C-12)

pub without_entity : List Row
unfolding everything
without_entity =
    -- under 1: kind 1 is formatted with RN and SP empty and without DFLTRN, which kind 3 alone gets; kind 0 stays unsuccessful
    writes
    (accepting 1 (opening 8 8 "55" "0099" "" "" relay) ∷ new_set 0 255 dnx_ccdef (2 ∷ []) (11 ∷ 12 ∷ 4 ∷ []) ∷ new_rule 1 "" 0 0
    ∷ number 1 "87654321" 3 "77" ∷ number 1 "87654321" 2 "0015" ∷ number 1 "87654321" 0 "" ∷ number 1 "87654321" 1 "" ∷ [])
    "ok\nok\nok\n4 1 0 1 00997787654321\n4 1 0 1 001587654321\n3 1 0 1 -\n4 1 0 1 87654321\n" refl
    -- it is formatted like any other: with the set's class and the delimiters, LONG over 32 digits, SHORT before the services
    ∷ writes
    (accepting 1 (opening 8 8 "55" "0099" "d" "" relay) ∷ new_set 0 3 dnx_ccdef (2 ∷ []) (11 ∷ 15 ∷ 12 ∷ 4 ∷ []) ∷ new_rule 1 "" 0 0
    ∷ number 1 "87654321" 1 "" ∷ number 1 "12345678123456781234567812345678" 1 "" ∷ number 1 "" 1 "" ∷ [])
    "ok\nok\nok\n4 3 0 1 d87654321\nno 13\nno 12\n" refl
    -- INPRTG answers kind 1 under 1 as under 0, ASD and GRN are set under both, and what withholds under 0 is CDPNNP alone
    ∷ writes
    (accepting 1 (opening 8 8 "55" "" "" "" (1 ∷ 4 ∷ 1 ∷ 1 ∷ [])) ∷ new_set 0 255 dnx_ccdef (1 ∷ 2 ∷ []) (11 ∷ 4 ∷ []) ∷ new_rule 1 "" 0 0 ∷ number 1 "87654321" 1 ""
    ∷ accepting 1 plain ∷ new_set 0 255 dnx_ccdef (2 ∷ 3 ∷ 4 ∷ []) (13 ∷ 11 ∷ 14 ∷ 4 ∷ []) ∷ new_set 1 255 dnx_ccdef (3 ∷ 4 ∷ []) (13 ∷ 14 ∷ 4 ∷ []) ∷ new_rule 1 "" 0 0 ∷ new_rule 2 "" 0 1
    ∷ number_with 1 "8765" 1 "" "40" "5" ∷ number_with 2 "8765" 1 "" "40" "5"
    ∷ plain ∷ new_set 0 255 dnx_ccdef (2 ∷ 3 ∷ 4 ∷ []) (13 ∷ 11 ∷ 14 ∷ 4 ∷ []) ∷ new_set 1 255 dnx_ccdef (3 ∷ 4 ∷ []) (13 ∷ 14 ∷ 4 ∷ []) ∷ new_rule 1 "" 0 0 ∷ new_rule 2 "" 0 1
    ∷ number_with 1 "8765" 1 "" "40" "5" ∷ number_with 2 "8765" 1 "" "40" "5" ∷ [])
    "ok\nok\nok\n2 1 4 1 -\nok\nok\nok\nok\nok\n4 1 0 3 4058765\n4 2 0 2 4058765\nok\nok\nok\nok\nok\n3 1 0 3 -\n4 2 0 2 4058765\n" refl
    ∷ []

-- FILTERS, GROUP RULES AND FIT

pub ruled : List Row
unfolding everything
ruled =
    -- listing order: class, then the prefix as in a dictionary, then stated lengths rising and the wildcard last, which is printed *
    writes
    (rooms 8 16 ∷ s1 7 ∷ new_rule 2 "" 0 7 ∷ new_rule 1 "2" 0 7 ∷ new_rule 1 "1" 0 7 ∷ new_rule 1 "1a" 0 7 ∷ new_rule 1 "1" 10 7 ∷ new_rule 1 "" 0 7
    ∷ new_rule 1 "19" 0 7 ∷ new_rule 1 "1" 2 7 ∷ new_rule 1 "" 32 7 ∷ new_rule 0 "f" 0 7 ∷ list ∷ refs 7 ∷ [])
    "ok\nok\nok\nok\nok\nok\nok\nok\nok\nok\nok\nok\n0 f * 7\n1 * 32 7\n1 * * 7\n1 1 2 7\n1 1 10 7\n1 1 * 7\n1 19 * 7\n1 1a * 7\n1 2 * 7\n2 * * 7\nend 10\nrefs 10\n" refl
    -- F at most 31 under a wildcard length, F < L with an X action, F = L without one, FPFX meets a prefix
    ∷ writes
    (rooms 8 16 ∷ new_set 0 255 (1 ∷ 16 ∷ 1 ∷ 15 ∷ 13 ∷ 0 ∷ []) [] (5 ∷ []) ∷ new_set 1 255 (1 ∷ 16 ∷ 1 ∷ 16 ∷ 13 ∷ 0 ∷ []) [] []
    ∷ new_set 2 255 (6 ∷ 15 ∷ []) [] [] ∷ new_set 3 255 (14 ∷ 0 ∷ 13 ∷ 0 ∷ []) [] [] ∷ new_set 4 255 (14 ∷ 0 ∷ 1 ∷ 16 ∷ 13 ∷ 0 ∷ []) [] [] ∷ escape 5 0
    ∷ new_rule 1 "" 0 0 ∷ new_rule 1 "1" 0 1 ∷ new_rule 1 "" 32 1 ∷ new_rule 1 "" 32 0 ∷ new_rule 1 "" 31 0
    ∷ new_rule 1 "2" 0 2 ∷ new_rule 1 "2" 14 2 ∷ new_rule 1 "2" 16 2 ∷ new_rule 1 "2" 15 2
    ∷ new_rule 1 "" 1 3 ∷ new_rule 1 "3" 1 3 ∷ new_rule 1 "3" 2 3
    ∷ new_rule 1 "0123456789abcdef" 0 4 ∷ new_rule 1 "0123456789abcde" 0 4 ∷ new_rule 0 "" 0 5
    ∷ number 1 "1234567890123456789012345678901" 0 "" ∷ number 1 "12345678901234567890123456789012" 0 "" ∷ [])
    "ok\nok\nok\nok\nok\nok\nok\nok\nno 9\nno 9\nok\nno 9\nno 9\nno 9\nno 9\nok\nno 9\nno 9\nok\nno 9\nok\nok\nno 12\n4 1 0 0 2\n" refl
    -- a group rule broken: no CA beside an SA or FA, formats, values set twice, FPFX behind, more than CCDEF behind an X action, SAs, FAs with nothing behind them
    ∷ writes
    (plain ∷ given [] (2 ∷ []) [] ∷ given [] [] (15 ∷ [])
    ∷ given (2 ∷ 2 ∷ []) [] [] ∷ given (12 ∷ 0 ∷ []) [] [] ∷ given (2 ∷ 1 ∷ 11 ∷ 0 ∷ []) [] [] ∷ given (13 ∷ 0 ∷ 15 ∷ 0 ∷ []) [] [] ∷ given (1 ∷ 1 ∷ []) [] []
    ∷ given (2 ∷ 1 ∷ 3 ∷ 1 ∷ 4 ∷ 1 ∷ 5 ∷ 1 ∷ []) [] [] ∷ given (2 ∷ 1 ∷ 3 ∷ 1 ∷ 5 ∷ 1 ∷ []) [] []
    ∷ given (2 ∷ 1 ∷ 15 ∷ 0 ∷ 5 ∷ 3 ∷ []) [] [] ∷ given (5 ∷ 3 ∷ 12 ∷ 0 ∷ 15 ∷ 0 ∷ []) [] [] ∷ given (7 ∷ 1 ∷ 7 ∷ 1 ∷ 13 ∷ 0 ∷ []) [] []
    ∷ given (15 ∷ 0 ∷ 14 ∷ 0 ∷ 12 ∷ 0 ∷ []) [] [] ∷ given (13 ∷ 0 ∷ 1 ∷ 1 ∷ []) [] []
    ∷ given dnx_ccdef (5 ∷ 2 ∷ []) [] ∷ given dnx_ccdef (2 ∷ 2 ∷ []) []
    ∷ given dnx_ccdef [] (2 ∷ []) ∷ given dnx_ccdef [] (6 ∷ []) ∷ given dnx_ccdef [] (11 ∷ []) ∷ given dnx_ccdef (3 ∷ []) (12 ∷ [])
    ∷ given dnx_ccdef (2 ∷ 4 ∷ []) (13 ∷ []) ∷ given dnx_ccdef (2 ∷ 3 ∷ []) (14 ∷ []) ∷ [])
    "ok\nno 6\nno 6\nno 6\nno 6\nno 6\nno 6\nno 6\nno 6\nno 6\nno 6\nno 6\nno 6\nno 6\nno 6\nno 6\nno 6\nno 6\nno 6\nno 6\nno 6\nno 6\nno 6\n" refl
    -- the group rules kept: ASDLKUP and GRNLKUP in either order, IGN and FAs may repeat, delimiters need nothing, CCDEF at any place behind FPFX
    ∷ writes
    (plain ∷ new_set 0 255 (13 ∷ 0 ∷ []) (4 ∷ 3 ∷ []) (13 ∷ 14 ∷ 15 ∷ 16 ∷ 15 ∷ 5 ∷ [])
    ∷ new_set 1 255 (14 ∷ 0 ∷ 15 ∷ 0 ∷ 12 ∷ 0 ∷ []) (3 ∷ 4 ∷ 5 ∷ []) (6 ∷ 1 ∷ 4 ∷ 4 ∷ [])
    ∷ new_set 2 255 (1 ∷ 1 ∷ 2 ∷ 1 ∷ 1 ∷ 1 ∷ 3 ∷ 8 ∷ 4 ∷ 15 ∷ []) (1 ∷ 2 ∷ []) (1 ∷ 2 ∷ 3 ∷ 11 ∷ 12 ∷ []) ∷ escape 3 0 ∷ [])
    "ok\nok\nok\nok\nok\n" refl
    ∷ []

-- RANGES

pub ranged : List Row
unfolding everything
ranged =
    -- the settings' ranges, and their unused bytes
    writes
    (but 5 4 plain ∷ but 5 0 plain ∷ but 6 16 plain ∷ but 8 1 plain ∷ but 9 16 plain ∷ but 24 1 plain ∷ but 25 6 plain ∷ but 30 1 plain ∷ but 31 6 plain
    ∷ but 36 1 plain ∷ but 37 0 plain ∷ but 40 5 plain ∷ but 40 4 plain ∷ but 41 2 plain ∷ but 41 255 plain ∷ but 41 1 plain ∷ [])
    "no 5\nno 5\nno 5\nno 5\nno 5\nno 5\nno 5\nno 5\nno 5\nno 5\nno 5\nno 5\nok\nno 5\nno 5\nok\n" refl
    -- a set's ranges: classes, codes and counts, a gap in a list, a count beside code 0, bytes behind the end of a list
    ∷ writes
    (plain ∷ but 3 6 (s1 0) ∷ but 3 254 (s1 0) ∷ but 4 0 (s1 0) ∷ but 4 16 (s1 0) ∷ but 5 1 (s1 0) ∷ but 9 1 (s1 0) ∷ but 10 12 (s1 0) ∷ but 27 1 (s1 0)
    ∷ but 28 6 (s1 0) ∷ but 30 5 (s1 0) ∷ but 36 17 (s1 0) ∷ but 39 4 (s1 0) ∷ but 47 4 (s1 0)
    ∷ given (2 ∷ 4 ∷ 12 ∷ 0 ∷ []) [] [] ∷ given (2 ∷ 0 ∷ 12 ∷ 0 ∷ []) [] [] ∷ given (2 ∷ 1 ∷ 3 ∷ 9 ∷ 11 ∷ 0 ∷ []) [] [] ∷ given (1 ∷ 17 ∷ 13 ∷ 0 ∷ []) [] []
    ∷ given (6 ∷ 16 ∷ []) [] [] ∷ given (7 ∷ 9 ∷ 13 ∷ 0 ∷ []) [] [] ∷ [])
    "ok\nno 5\nno 5\nno 5\nno 5\nno 5\nno 5\nno 5\nno 5\nno 5\nno 5\nno 5\nno 5\nno 5\nno 5\nno 5\nno 5\nno 5\nno 5\nno 5\n" refl
    -- the largest counts and full lists
    ∷ writes
    (plain ∷ new_set 0 5 (1 ∷ 16 ∷ 2 ∷ 3 ∷ 3 ∷ 8 ∷ 4 ∷ 15 ∷ 7 ∷ 8 ∷ 8 ∷ 8 ∷ 9 ∷ 8 ∷ 10 ∷ 8 ∷ []) [] [] ∷ new_set 1 0 (5 ∷ 15 ∷ 2 ∷ 1 ∷ []) [] [] ∷ new_set 2 0 (6 ∷ 15 ∷ []) [] []
    ∷ new_set 3 255 (1 ∷ 1 ∷ 1 ∷ 1 ∷ 1 ∷ 1 ∷ 1 ∷ 1 ∷ 1 ∷ 1 ∷ 1 ∷ 1 ∷ 1 ∷ 1 ∷ 1 ∷ 1 ∷ 1 ∷ 1 ∷ 1 ∷ 1 ∷ 12 ∷ 0 ∷ 15 ∷ 0 ∷ []) [] (replicate 12 4) ∷ [])
    "ok\nok\nok\nok\nok\n" refl
    -- a filter's ranges, and a prefix longer than a stated length, in adding, changing and removing a rule
    ∷ writes
    (plain ∷ s1 0 ∷ but 1 6 (new_rule 1 "1" 0 0) ∷ but 1 255 (new_rule 1 "1" 0 0) ∷ but 2 17 (new_rule 1 "1" 0 0) ∷ but 3 16 (new_rule 1 "1" 0 0) ∷ but 4 1 (new_rule 1 "1" 0 0) ∷ but 18 1 (new_rule 1 "1" 0 0)
    ∷ new_rule 1 "1" 33 0 ∷ new_rule 1 "12" 1 0 ∷ changed_rule 1 "12" 1 0 ∷ removed_rule 1 "12" 1 ∷ new_rule 1 "12" 2 0 ∷ new_rule 1 "0123456789abcdef" 32 0 ∷ [])
    "ok\nok\nno 5\nno 5\nno 5\nno 5\nno 5\nno 5\nno 5\nno 5\nno 5\nno 5\nok\nok\n" refl
    -- a number's ranges, with no rule that fits it, and its unused bytes
    ∷ writes
    (plain ∷ number 2 "123" 2 "7"
    ∷ but 1 6 (number 2 "123" 2 "7") ∷ but 2 33 (number 2 "123" 2 "7") ∷ but 3 16 (number 2 "123" 2 "7") ∷ but 6 1 (number 2 "123" 2 "7") ∷ but 34 1 (number 2 "123" 2 "7")
    ∷ but 35 4 (number 2 "123" 2 "7") ∷ but 35 1 (number 2 "123" 2 "7") ∷ but 35 0 (number 2 "123" 2 "7") ∷ but 36 16 (number 2 "123" 2 "7") ∷ but 37 16 (number 2 "123" 2 "7") ∷ but 38 1 (number 2 "123" 2 "7")
    ∷ but 52 11 (number 2 "123" 2 "7") ∷ but 62 1 (number 2 "123" 2 "7") ∷ but 63 11 (number 2 "123" 2 "7") ∷ but 73 1 (number 2 "123" 2 "7")
    ∷ number 2 "123" 2 "" ∷ number 2 "123" 3 "" ∷ number_with 2 "1" 0 "" "4" "" ∷ number_with 2 "1" 0 "" "" "4" ∷ number_with 2 "1" 1 "" "0123456789" "4"
    ∷ number_with 5 "0123456789abcdef0123456789abcdef" 3 "0123456789abcde" "" "0123456789" ∷ [])
    "ok\n0 2 0 0 -\nno 5\nno 5\nno 5\nno 5\nno 5\nno 5\nno 5\nno 5\nno 5\nno 5\nno 5\nno 5\nno 5\nno 5\nno 5\nno 5\nno 5\nno 5\nno 5\n0 2 0 0 -\n0 5 0 0 -\n" refl
    ∷ []

-- REFUSALS AND THEIR ORDER

pub ordered : List Row
unfolding everything
ordered =
    -- sets: RANGE, GROUPS, TAKEN; RANGE, GROUPS, ABSENT, MISFIT; RANGE, ABSENT, IN USE; and the count of rules
    writes
    (plain ∷ s1 0 ∷ s1 8 ∷ s1 7 ∷ new_set 0 6 dnx_ccdef (5 ∷ 2 ∷ []) [] ∷ new_set 0 5 dnx_ccdef (5 ∷ 2 ∷ []) [] ∷ s1 0
    ∷ replaced_set 8 5 dnx_ccdef (5 ∷ 2 ∷ []) [] ∷ replaced_set 1 5 dnx_ccdef (5 ∷ 2 ∷ []) [] ∷ replaced_set 1 5 dnx_ccdef [] []
    ∷ removed_set 8 ∷ removed_set 1 ∷ new_rule 1 "" 0 0 ∷ new_rule 1 "" 9 7 ∷ removed_set 0 ∷ replaced_set 0 5 (6 ∷ 9 ∷ []) [] [] ∷ replaced_set 7 5 (6 ∷ 9 ∷ []) [] (5 ∷ [])
    ∷ number 1 "123456789" 0 "" ∷ refs 0 ∷ refs 1 ∷ refs 8 ∷ removed_rule 1 "" 0 ∷ refs 0 ∷ removed_set 0 ∷ removed_set 0 ∷ refs 0 ∷ [])
    "ok\nok\nno 5\nok\nno 5\nno 6\nno 7\nno 5\nno 6\nno 8\nno 5\nno 8\nok\nok\nno 11\nno 9\nok\n4 5 0 0 123456789\nrefs 1\nno 8\nno 5\nok\nrefs 0\nok\nno 8\nno 8\n" refl
    -- rules: RANGE, TAKEN, ABSENT, MISFIT, FULL in adding; RANGE, ABSENT, MISFIT in changing; freed room is used again
    ∷ writes
    (rooms 8 2 ∷ s1 0 ∷ new_set 1 255 (6 ∷ 5 ∷ []) [] [] ∷ new_rule 1 "" 0 0 ∷ new_rule 1 "" 0 8 ∷ new_rule 1 "" 0 3 ∷ new_rule 1 "1" 0 3 ∷ new_rule 1 "1" 0 1 ∷ new_rule 1 "1" 5 1
    ∷ new_rule 1 "2" 0 3 ∷ new_rule 1 "2" 0 1 ∷ new_rule 1 "" 0 0 ∷ new_rule 1 "2" 0 0
    ∷ changed_rule 1 "2" 0 0 ∷ changed_rule 1 "" 0 3 ∷ changed_rule 1 "" 0 8 ∷ changed_rule 1 "" 0 1 ∷ changed_rule 1 "" 0 0 ∷ changed_rule 1 "1" 5 0
    ∷ refs 0 ∷ refs 1 ∷ removed_rule 1 "2" 0 ∷ removed_rule 1 "" 0 ∷ new_rule 1 "2" 0 0 ∷ new_rule 1 "3" 0 0 ∷ list ∷ [])
    "ok\nok\nok\nok\nno 5\nno 7\nno 8\nno 9\nok\nno 8\nno 9\nno 7\nno 10\nno 8\nno 8\nno 5\nno 9\nok\nok\nrefs 2\nrefs 0\nno 8\nok\nok\nno 10\n1 1 5 0\n1 2 * 0\nend 2\n" refl
    -- PLAN until an opening is accepted, RANGE before ROOM, the program's rooms, and a refused opening leaves the plan as it was
    ∷ writes
    (list ∷ number 1 "" 0 "" ∷ refs 0 ∷ s1 0 ∷ replaced_set 0 0 [] [] [] ∷ removed_set 0 ∷ new_rule 1 "" 0 0 ∷ changed_rule 1 "" 0 0 ∷ removed_rule 1 "" 0 ∷ opening 8 8 "" "" "" "" relay ∷ list
    ∷ rooms 65 1 ∷ rooms 1 513 ∷ rooms 0 1 ∷ rooms 1 0 ∷ rooms 1025 1 ∷ rooms 1 4097 ∷ rooms 1024 4096 ∷ but 40 5 (rooms 65 1) ∷ rooms 64 512 ∷ s1 63 ∷ s1 64 ∷ new_rule 1 "" 0 63
    ∷ rooms 65 8 ∷ but 40 5 plain ∷ list ∷ plain ∷ list ∷ refs 0 ∷ refs 63 ∷ [])
    "no 3\nno 3\nno 3\nno 3\nno 3\nno 3\nno 3\nno 3\nno 3\nno 5\nno 3\nno 4\nno 4\nno 5\nno 5\nno 5\nno 5\nno 4\nno 5\nok\nok\nno 5\nok\nno 4\nno 5\n1 * * 63\nend 1\nok\nend 0\nno 8\nno 5\n" refl
    -- an empty file writes nothing
    ∷ writes [] "" refl
    -- KIND before CUT, and nothing after it
    ∷ writes (plain ∷ list ∷ (10 ∷ []) ∷ list ∷ []) "ok\nend 0\nno 2\n" refl
    -- an unknown kind as the last byte
    ∷ writes ((255 ∷ []) ∷ []) "no 2\n" refl
    -- CUT before PLAN
    ∷ writes ((3 ∷ 0 ∷ []) ∷ []) "no 1\n" refl
    -- CUT before RANGE, and nothing after it
    ∷ writes (plain ∷ list ∷ take OPENING-BYTES (but 5 9 plain) ∷ []) "ok\nend 0\nno 1\n" refl
    -- CUT of each kind, one byte short, and the whole body before any opening
    ∷ row
    (numbers_over MEMORY (map (λ k. k ∷ replicate (body_length k - 1) 0) (take 7 kinds) ++ map (λ k. k ∷ replicate (body_length k) 0) (take 7 kinds)))
    (1 ∷ 1 ∷ 1 ∷ 1 ∷ 1 ∷ 1 ∷ 1 ∷ 5 ∷ 3 ∷ 3 ∷ 3 ∷ 3 ∷ 3 ∷ 3 ∷ []) refl
    -- bytes behind a body are not looked at
    ∷ row
    (numbers_over MEMORY ((plain ++ (255 ∷ [])) ∷ (s1 0 ++ (255 ∷ [])) ∷ (new_rule 1 "" 0 0 ++ (255 ∷ [])) ∷ (removed_rule 1 "" 0 ++ (255 ∷ [])) ∷ (removed_set 0 ++ (255 ∷ [])) ∷ []))
    (0 ∷ 0 ∷ 0 ∷ 0 ∷ 0 ∷ []) refl
    -- a memory of exactly the bytes needed
    ∷ row (numbers_over MEMORY (plain ∷ [])) (0 ∷ []) refl
    -- a number: CUT before PLAN
    ∷ row (answered_over [] (DIGIT-ROOM - 1) (take NUMBER-BYTES (number 6 "" 0 ""))) (1 ∷ 0 ∷ 0 ∷ 0 ∷ 0 ∷ no_actions) refl
    -- a number: PLAN before ROOM
    ∷ row (answered_over [] (DIGIT-ROOM - 1) (number 6 "" 0 "")) (3 ∷ 0 ∷ 0 ∷ 0 ∷ 0 ∷ no_actions) refl
    -- a number: CUT before ROOM
    ∷ row (answered_over (plain ∷ []) (DIGIT-ROOM - 1) (take NUMBER-BYTES (number 6 "" 0 ""))) (1 ∷ 0 ∷ 0 ∷ 0 ∷ 0 ∷ no_actions) refl
    -- a number: ROOM under 35 bytes, before RANGE
    ∷ row (answered_over (plain ∷ []) (DIGIT-ROOM - 1) (number 6 "" 0 "")) (4 ∷ 0 ∷ 0 ∷ 0 ∷ 0 ∷ no_actions) refl
    -- a number: no ROOM at 35 bytes, then RANGE
    ∷ row (answered_over (plain ∷ []) DIGIT-ROOM (number 6 "" 0 "")) (5 ∷ 0 ∷ 0 ∷ 0 ∷ 0 ∷ no_actions) refl
    -- a number: bytes behind its body are not looked at
    ∷ row (answered_over (plain ∷ []) DIGIT-ROOM (number 4 "" 0 "" ++ (255 ∷ []))) (0 ∷ 0 ∷ 4 ∷ 0 ∷ 0 ∷ no_actions) refl
    ∷ []

-- THE READ CALLS AND THE LISTING

-- N of document 01: b33909087654321
abbrev pub n15 : List ℕ
n15 = digits "b33909087654321"

-- S2 under UNKNOWN, S1 under NATL, no CA under INTL
abbrev pub three_sets : List (List ℕ)
three_sets = plain ∷ s2 0 ∷ s1 1 ∷ escape 2 0 ∷ new_rule 2 "" 0 0 ∷ new_rule 1 "" 0 1 ∷ new_rule 0 "" 0 2 ∷ new_rule 0 "1" 0 1 ∷ []

pub reads : List Row
unfolding everything
reads =
    -- conditioned: CC, AC, SN
    row (conditioned_over three_sets DIGIT-ROOM 2 n15) (0 ∷ digits "553387654321") refl
    -- conditioned: CC, DN
    ∷ row (conditioned_over three_sets DIGIT-ROOM 1 (digits "87654321")) (0 ∷ digits "5587654321") refl
    -- conditioned: ZN
    ∷ row (conditioned_over (plain ∷ given (1 ∷ 2 ∷ 13 ∷ 0 ∷ []) [] [] ∷ new_rule 5 "a" 0 0 ∷ []) DIGIT-ROOM 5 (digits "abcdef")) (0 ∷ digits "cdef") refl
    -- conditioned: at most 35 digits
    ∷ row
    (conditioned_over (opening 8 8 "123" "" "" "" relay ∷ s1 0 ∷ new_rule 1 "" 0 0 ∷ []) DIGIT-ROOM 1 (replicate 32 7))
    (0 ∷ 1 ∷ 2 ∷ 3 ∷ replicate 32 7) refl
    -- conditioned: none in outcome 0
    ∷ row (conditioned_over three_sets DIGIT-ROOM 3 n15) (0 ∷ []) refl
    -- conditioned: none in outcome 1
    ∷ row (conditioned_over three_sets DIGIT-ROOM 0 n15) (0 ∷ []) refl
    -- conditioned: SHORT
    ∷ row (conditioned_over three_sets DIGIT-ROOM 2 (digits "b339090")) (12 ∷ []) refl
    -- conditioned: PLAN, then ROOM
    ∷ row (conditioned_over [] (DIGIT-ROOM - 1) 2 n15) (3 ∷ []) refl
    -- conditioned: ROOM under 35 bytes, before RANGE
    ∷ row (conditioned_over three_sets (DIGIT-ROOM - 1) 6 n15) (4 ∷ []) refl
    -- conditioned: a class over 5
    ∷ row (conditioned_over three_sets DIGIT-ROOM 6 n15) (5 ∷ []) refl
    -- conditioned: more than 32 digits
    ∷ row (conditioned_over three_sets DIGIT-ROOM 1 (replicate 33 7)) (5 ∷ []) refl
    -- conditioned: a byte over 15
    ∷ row (conditioned_over three_sets DIGIT-ROOM 1 (8 ∷ 16 ∷ [])) (5 ∷ []) refl
    -- stretches of values 0 to 11: none for CC by CCDEF, for a value that no CA sets, and outside 1 to 10
    ∷ row
    (stretches_over three_sets 2 n15 (0 ∷ 1 ∷ 2 ∷ 3 ∷ 4 ∷ 5 ∷ 6 ∷ 7 ∷ 8 ∷ 9 ∷ 10 ∷ 11 ∷ []))
    (0 ∷ 0 ∷ 0 ∷ 0 ∷ 1 ∷ 2 ∷ 7 ∷ 8 ∷ 0 ∷ 0 ∷ 0 ∷ 0 ∷ 0 ∷ 0 ∷ 3 ∷ 4 ∷ 0 ∷ 0 ∷ 0 ∷ 0 ∷ 0 ∷ 0 ∷ 0 ∷ 0 ∷ []) refl
    -- stretches of FPFX, CC and DN taken from the number
    ∷ row
    (stretches_over (plain ∷ given (14 ∷ 0 ∷ 1 ∷ 1 ∷ 2 ∷ 3 ∷ 12 ∷ 0 ∷ []) [] [] ∷ new_rule 1 "00" 0 0 ∷ []) 1 (digits "00935112345") (6 ∷ 1 ∷ 4 ∷ []))
    (0 ∷ 2 ∷ 3 ∷ 3 ∷ 6 ∷ 5 ∷ []) refl
    -- no stretch: SHORT
    ∷ row (stretches_over three_sets 2 (digits "b339090") (2 ∷ [])) (0 ∷ 0 ∷ []) refl
    -- no stretch: no rule
    ∷ row (stretches_over three_sets 3 n15 (2 ∷ [])) (0 ∷ 0 ∷ []) refl
    -- no stretch: no CA
    ∷ row (stretches_over three_sets 0 n15 (2 ∷ [])) (0 ∷ 0 ∷ []) refl
    -- no stretch: out of range
    ∷ row (stretches_over three_sets 1 (8 ∷ 16 ∷ []) (4 ∷ [])) (0 ∷ 0 ∷ []) refl
    -- no stretch: no sound plan
    ∷ row (stretches_over [] 2 n15 (2 ∷ [])) (0 ∷ 0 ∷ []) refl
    -- a set's content, as the 47 bytes of a kind 1 body
    ∷ row (content_over three_sets SET-BODY 1) (0 ∷ drop 1 (s1 1)) refl
    -- a set's content: its number in two bytes
    ∷ row (content_over (rooms 300 1 ∷ s2 258 ∷ []) SET-BODY 258) (0 ∷ 1 ∷ 2 ∷ drop 3 (s2 0)) refl
    -- a set's content: PLAN before ROOM
    ∷ row (content_over [] (SET-BODY - 1) 1) (3 ∷ []) refl
    -- a set's content: ROOM under 47 bytes, before RANGE
    ∷ row (content_over three_sets (SET-BODY - 1) 8) (4 ∷ []) refl
    -- a set's content: RANGE at the room
    ∷ row (content_over three_sets SET-BODY 8) (5 ∷ []) refl
    -- a set's content: ABSENT
    ∷ row (content_over three_sets SET-BODY 7) (8 ∷ []) refl
    -- the rules naming a set
    ∷ row (shown_count (referrer_count (behind three_sets) 1)) (0 ∷ 2 ∷ []) refl
    -- the rules naming a set: PLAN
    ∷ row (shown_count (referrer_count none 1)) (3 ∷ 0 ∷ []) refl
    -- the rules naming a set: RANGE at the room
    ∷ row (shown_count (referrer_count (behind three_sets) 8)) (5 ∷ 0 ∷ []) refl
    -- the rules naming a set: ABSENT
    ∷ row (shown_count (referrer_count (behind three_sets) 3)) (8 ∷ 0 ∷ []) refl
    -- how many rules
    ∷ row (shown_count (rule_count (behind three_sets))) (0 ∷ 4 ∷ []) refl
    -- how many rules: PLAN
    ∷ row (shown_count (rule_count none)) (3 ∷ 0 ∷ []) refl
    -- the rule at a place: class, length, set, prefix
    ∷ row (shown_place (rule_at_place (behind three_sets) 1)) (0 ∷ 0 ∷ 0 ∷ 1 ∷ 1 ∷ []) refl
    -- the rule at a place: RANGE at the count
    ∷ row (shown_place (rule_at_place (behind three_sets) 4)) (5 ∷ []) refl
    -- the rule at a place: PLAN
    ∷ row (shown_place (rule_at_place none 0)) (3 ∷ []) refl
    -- what is written stands at the front of a buffer, and the bytes behind stay
    ∷ row (written_over (7 ∷ 8 ∷ []) (1 ∷ 2 ∷ 3 ∷ 4 ∷ [])) (7 ∷ 8 ∷ 3 ∷ 4 ∷ []) refl
    ∷ []

-- WHAT THE CLAIMS LOOK AT: sound plans, the calls looked back on, the view, the stretches joined

abbrev pub as_number : Bool → ℕ
as_number b = if b then 1 else 0

-- 1 for a sound plan
abbrev pub soundness : (Plan → Plan) → Option Plan → List ℕ
soundness change s = or_nothing (λ p. as_number (sound (change p)) ∷ []) s

-- 1 for a listing strictly in order
abbrev pub rising_listing : (Plan → Plan) → Option Plan → List ℕ
rising_listing change s = or_nothing (λ p. as_number (rising (listing (change p))) ∷ []) s

abbrev pub unchanged : Plan → Plan
unchanged p = p

abbrev pub reversed : Plan → Plan
reversed p = with_rules (reverse p.rules) p

-- the calls of some records that were accepted, the newest first
abbrev pub past : List (List ℕ) → List Call
past rs = accepted (lacks_bytes LARGEST) (map as_call rs)

-- the set number last accepted for a filter
abbrev pub set_looked_back : List (List ℕ) → List ℕ → List ℕ
set_looked_back rs code = or_nothing (λ n. n ∷ []) (last_set (filter_of code) (past rs))

abbrev pub content_looked_back : List (List ℕ) → ℕ → List ℕ
content_looked_back rs n = or_nothing (λ c. c) (last_content n (past rs))

-- the answer to a number's record from the settings and the view alone
abbrev pub answered_by_view : Option Plan → List ℕ → List ℕ
answered_by_view s n = or_nothing (λ p. answer_fields (answer_by_view (settings_in p) (view p) (number_of (drop 1 n)))) s

-- the stretches of a set's CAs, joined in their order
abbrev pub joined_over : List (List ℕ) → ℕ → List ℕ → List ℕ → List ℕ
joined_over rs class ds content = joined (λ v. digits_at (stretch (behind rs) class ds v) ds) ds 0 (actions_of content).cas

-- rules of sets 0 and 1, one of them changed, set 1 replaced, and set 2 and a rule of set 0 taken out again, with refused calls between
abbrev pub edited : List (List ℕ)
edited =
    plain ∷ s1 0 ∷ s1 1 ∷ s2 2 ∷ new_rule 1 "" 0 0 ∷ new_rule 1 "" 0 1 ∷ new_rule 1 "8" 0 0 ∷ changed_rule 1 "8" 0 1 ∷ changed_rule 1 "9" 0 1
    ∷ replaced_set 1 4 (13 ∷ 0 ∷ []) [] (5 ∷ []) ∷ replaced_set 1 4 (6 ∷ 1 ∷ []) [] [] ∷ removed_set 2 ∷ new_rule 2 "" 0 0 ∷ removed_rule 2 "" 0 ∷ []

pub looked : List Row
unfolding everything
looked =
    -- a plan made by accepted calls is sound
    row (soundness unchanged (behind edited)) (1 ∷ []) refl
    -- not sound: rules out of listing order
    ∷ row (soundness reversed (behind edited)) (0 ∷ []) refl
    -- not sound: a rule that names a set that is not there
    ∷ row (soundness (with_slot 1 none) (behind edited)) (0 ∷ []) refl
    -- not sound: a rule and its set that do not fit
    ∷ row (soundness (with_slot 1 (some (drop 3 (given (6 ∷ 9 ∷ []) [] [])))) (behind edited)) (0 ∷ []) refl
    -- not sound: a group rule broken, in a set that no rule names
    ∷ row (soundness (with_slot 5 (some (drop 3 (given (12 ∷ 0 ∷ []) [] [])))) (behind edited)) (0 ∷ []) refl
    -- not sound: a field out of range
    ∷ row (soundness (with_slot 5 (some (drop 3 (but 3 6 (s1 5))))) (behind edited)) (0 ∷ []) refl
    -- sound with that set in range
    ∷ row (soundness (with_slot 5 (some (drop 3 (s1 5)))) (behind edited)) (1 ∷ []) refl
    -- "the content or set number last accepted for it": a refused addition changes nothing
    ∷ row (set_looked_back edited (filter 1 "" 0)) (0 ∷ []) refl
    -- a changed rule names the set last accepted
    ∷ row (set_looked_back edited (filter 1 "8" 0)) (1 ∷ []) refl
    -- a refused change puts nothing in
    ∷ row (set_looked_back edited (filter 1 "9" 0)) [] refl
    -- "added and not since removed"
    ∷ row (set_looked_back edited (filter 2 "" 0)) [] refl
    -- since the last accepted opening
    ∷ row (set_looked_back (edited ++ (plain ∷ [])) (filter 1 "" 0)) [] refl
    -- a refused opening forgets nothing
    ∷ row (set_looked_back (edited ++ (but 5 0 plain ∷ [])) (filter 1 "" 0)) (0 ∷ []) refl
    -- a set's content as first added
    ∷ row (content_looked_back edited 0) (drop 3 (s1 0)) refl
    -- as last replaced: a refused replacement changes nothing
    ∷ row (content_looked_back edited 1) (drop 3 (new_set 1 4 (13 ∷ 0 ∷ []) [] (5 ∷ []))) refl
    -- a set removed
    ∷ row (content_looked_back edited 2) [] refl
    -- the last accepted opening's rooms and settings
    ∷ row (or_nothing (λ b. b) (last_opening (past (edited ++ (rooms 9 9 ∷ but 5 0 plain ∷ []))))) (drop 1 (rooms 9 9)) refl
    -- the answer comes from the settings and the view
    ∷ row (answered_by_view (behind edited) (number 1 "87" 0 "")) (0 ∷ 4 ∷ 4 ∷ 0 ∷ 0 ∷ (no_actions ++ (8 ∷ 7 ∷ []))) refl
    -- "the stretches taken and ignored .. joined in the order of the actions, are the incoming digits"
    ∷ row (joined_over three_sets 2 n15 (drop 3 (s2 0))) n15 refl
    ∷ []

-- THE ANSWERS' CASES BY THEIR NUMBERS

-- 255 stands for "as incoming", 256 for a byte that is no class
abbrev pub shown_class : Result Class UnknownClass → ℕ
shown_class (Ok c) = code_of c
shown_class (Err e) = 256

abbrev pub shown_outgoing : Result Outgoing UnknownClass → ℕ
shown_outgoing (Ok (Given c)) = code_of c
shown_outgoing (Ok AsIncoming) = 255
shown_outgoing (Err e) = 256

pub numbered : List Row
numbered =
    -- the table's thirteen, in its order
    row
    (map number_of_refusal (Cut ∷ Kind ∷ PlanRefused ∷ Room ∷ Range ∷ Groups ∷ Taken ∷ Absent ∷ Misfit ∷ Full ∷ InUse ∷ Short ∷ Long ∷ []))
    (1 ∷ 2 ∷ 3 ∷ 4 ∷ 5 ∷ 6 ∷ 7 ∷ 8 ∷ 9 ∷ 10 ∷ 11 ∷ 12 ∷ 13 ∷ []) refl
    -- "Classes are INTL 0, NATL 1, UNKNOWN 2, and three house classes 3, 4, 5"
    ∷ row (map (λ c. shown_class (class_of c)) (0 ∷ 1 ∷ 2 ∷ 3 ∷ 4 ∷ 5 ∷ 6 ∷ 255 ∷ [])) (0 ∷ 1 ∷ 2 ∷ 3 ∷ 4 ∷ 5 ∷ 256 ∷ 256 ∷ []) refl
    -- "An outgoing class is 0 to 5, or 255"
    ∷ row (map (λ c. shown_outgoing (outgoing_of c)) (0 ∷ 1 ∷ 2 ∷ 3 ∷ 4 ∷ 5 ∷ 6 ∷ 254 ∷ 255 ∷ [])) (0 ∷ 1 ∷ 2 ∷ 3 ∷ 4 ∷ 5 ∷ 256 ∷ 256 ∷ 255 ∷ []) refl
    ∷ []

-- THE LOSS BY DISTRICT (C-11)

-- "4 bytes, high byte first as in every number here"
abbrev pub four : ℕ → List ℕ
four n = two (n / 65536) ++ two (n % 65536)

-- prefix, price
abbrev pub new_price : String → ℕ → List ℕ
new_price prefix price = PRICE ∷ (string 16 (digits prefix) ++ four price)

-- account, district, seconds, billed, and a number's record of which the body is taken
abbrev pub new_call : ℕ → ℕ → ℕ → ℕ → List ℕ → List ℕ
new_call account district seconds billed n = CALL ∷ (four account ++ (two district ++ (four seconds ++ (four billed ++ drop 1 n))))

abbrev pub losses : List ℕ
losses = LOSSES ∷ []

-- to a number that no rule is for
abbrev pub some_call : ℕ → ℕ → ℕ → List ℕ
some_call district seconds billed = new_call 7 district seconds billed (number 1 "87654321" 0 "")

-- 1 for a call record in range, and for a row's body
abbrev pub call_passes : List ℕ → ℕ
call_passes r = as_number (call_in_range (drop 1 r))

abbrev pub price_passes : List ℕ → ℕ
price_passes r = as_number (row_in_range (drop 1 r))

-- 1 and what is there, or 0
abbrev pub shown_option : {A : Type 0} → (A → List ℕ) → Option A → List ℕ
shown_option show none = 0 ∷ []
shown_option show (some a) = 1 ∷ show a

-- THE RECORD

abbrev call_fields : CallRecord → List ℕ
call_fields c = c.account ∷ c.district ∷ c.seconds ∷ c.billed ∷ c.number

-- "account .., district .., seconds .., billed .., then a number record's body": each at its place
pub call_fields_lem : call_fields (call_record_of (1 ∷ 2 ∷ 3 ∷ 4 ∷ 5 ∷ 6 ∷ 7 ∷ 8 ∷ 9 ∷ 10 ∷ 11 ∷ 12 ∷ 13 ∷ 14 ∷ drop 1 (number 1 "87654321" 2 "0015")))
    ≡ 16909060 ∷ 1286 ∷ 117967114 ∷ 185339150 ∷ drop 1 (number 1 "87654321" 2 "0015")
unfolding losing
call_fields_lem = refl

-- "seconds (4, at most 86,400)"
pub seconds_bound : map call_passes (some_call 4 86400 0 ∷ some_call 4 86401 0 ∷ []) ≡ 1 ∷ 0 ∷ []
unfolding losing
seconds_bound = refl

-- "billed (4, in thousandths of a cent, at most 1,440,000,000)"
pub billed_bound : map call_passes (some_call 4 0 1440000000 ∷ some_call 4 0 1440000001 ∷ []) ≡ 1 ∷ 0 ∷ []
unfolding losing
billed_bound = refl

-- "then a number record's body", with its own ranges
pub called_number : map call_passes (some_call 4 0 0 ∷ new_call 7 4 0 0 (number 6 "87654321" 0 "") ∷ []) ≡ 1 ∷ 0 ∷ []
unfolding losing
called_number = refl

-- WHAT IT IS DUE

-- an answer of this outcome, with outgoing digits 3
abbrev outcome_of : ℕ → Answer
outcome_of o = record { refusal = 0; outcome = o; class = 1; response = 0; count = 0; actions = no_actions; digits = 3 ∷ [] }

-- incoming digits 1, 2
abbrev incoming : Number
incoming = number_of (drop 1 (number 1 "12" 0 ""))

abbrev rows_given : List (List ℕ) → List PriceRow
rows_given rs = map (λ r. row_given (drop 1 r)) rs

abbrev digits_priced : ℕ → List ℕ
digits_priced o = shown_option (λ ds. ds) (priced_on incoming (outcome_of o))

-- of 60 seconds
abbrev due_after : List PriceRow → ℕ → List ℕ
due_after rs o = shown_option (λ n. n ∷ []) (due_of rs 60 incoming (outcome_of o))

-- "Outcome 4 is priced on the outgoing digits; 0, 1 and 3 on the incoming; 2 is due nothing"
pub priced_on_lem : map digits_priced (0 ∷ 1 ∷ 2 ∷ 3 ∷ 4 ∷ []) ≡ (1 ∷ 1 ∷ 2 ∷ []) ∷ (1 ∷ 1 ∷ 2 ∷ []) ∷ (0 ∷ []) ∷ (1 ∷ 1 ∷ 2 ∷ []) ∷ (1 ∷ 3 ∷ []) ∷ []
unfolding losing
priced_on_lem = refl

-- so at 1,000 for the incoming digits and 7,000 for the outgoing
pub due_after_lem : map (due_after (rows_given (new_price "1" 1000 ∷ new_price "3" 7000 ∷ []))) (0 ∷ 1 ∷ 2 ∷ 3 ∷ 4 ∷ [])
    ≡ (1 ∷ 60000 ∷ []) ∷ (1 ∷ 60000 ∷ []) ∷ (1 ∷ 0 ∷ []) ∷ (1 ∷ 60000 ∷ []) ∷ (1 ∷ 420000 ∷ []) ∷ []
unfolding losing
due_after_lem = refl

-- "no row fits, outcome 2 excepted"
pub due_without_row : map (due_after []) (0 ∷ 1 ∷ 2 ∷ 3 ∷ 4 ∷ []) ≡ (0 ∷ []) ∷ (0 ∷ []) ∷ (1 ∷ 0 ∷ []) ∷ (0 ∷ []) ∷ (0 ∷ []) ∷ []
unfolding losing
due_without_row = refl

-- "the longest that fits winning", the empty prefix too
pub longest_row : map (λ ds. shown_option (λ n. n ∷ []) (price_for (rows_given (new_price "" 1 ∷ new_price "8" 2 ∷ new_price "876" 3 ∷ new_price "9" 4 ∷ [])) (digits ds))) ("" ∷ "7" ∷ "87" ∷ "8765" ∷ "98" ∷ [])
    ≡ (1 ∷ 1 ∷ []) ∷ (1 ∷ 1 ∷ []) ∷ (1 ∷ 2 ∷ []) ∷ (1 ∷ 3 ∷ []) ∷ (1 ∷ 4 ∷ []) ∷ []
unfolding losing
longest_row = refl

abbrev entry_fields : Entry → List ℕ
entry_fields e = e.district ∷ e.due ∷ e.billed ∷ []

-- what a call adds at this price for every number
abbrev entry_at : ℕ → List ℕ → List ℕ
entry_at price r = or_nothing (λ p. entry_fields (entry_of p (rows_given (new_price "" price ∷ [])) (drop 1 r))) (behind (plain ∷ []))

-- "due is seconds times price, billed is taken times 60"; the most of either is 86,400,000,000
pub units_entered : (entry_at 1000 (some_call 4 61 601) ∷ entry_at 1000000 (some_call 5 86400 1440000000) ∷ []) ≡ (4 ∷ 61000 ∷ 36060 ∷ []) ∷ (5 ∷ 86400000000 ∷ 86400000000 ∷ []) ∷ []
unfolding losing
units_entered = refl

-- THE PRICE LIST

-- "up to 1,000,000 thousandths of a cent"
pub price_bound : map price_passes (new_price "8" 1000000 ∷ new_price "8" 1000001 ∷ []) ≡ 1 ∷ 0 ∷ []
unfolding losing
price_bound = refl

-- the same in a lent list: "a field out of range"
pub held_price_bound : map (λ n. as_number (prices_pass (rows_given (new_price "8" n ∷ [])))) (1000000 ∷ 1000001 ∷ []) ≡ 1 ∷ 0 ∷ []
unfolding losing
held_price_bound = refl

-- "by prefix of 0 to 16 digits", and its unused bytes
pub prefix_bound : map price_passes (new_price "" 5 ∷ new_price "0123456789abcdef" 5 ∷ but 1 17 (new_price "0123456789abcdef" 5) ∷ but 2 16 (new_price "8" 5) ∷ but 3 1 (new_price "8" 5) ∷ []) ≡ 1 ∷ 1 ∷ 0 ∷ 0 ∷ 0 ∷ []
unfolding losing
prefix_bound = refl

-- "or a prefix twice", and rows out of order
pub prefix_twice : map (λ rs. as_number (prices_pass (rows_given rs))) ((new_price "" 5 ∷ new_price "8" 6 ∷ []) ∷ (new_price "8" 5 ∷ new_price "8" 6 ∷ []) ∷ (new_price "8" 6 ∷ new_price "" 5 ∷ []) ∷ []) ≡ 1 ∷ 0 ∷ 0 ∷ []
unfolding losing
prefix_twice = refl

-- rows 0 to n - 1 behind those in hand: row k has k / 16 and k % 16 for its prefix
abbrev rows_to : ℕ → List PriceRow → List PriceRow
rows_to zero rs = rs
rows_to (suc k) rs = rows_to k (record { prefix = k / 16 ∷ k % 16 ∷ []; price = 5 } ∷ rs)

-- CUT, RANGE for a list and for a row, TAKEN, FULL, each where all that come later hold too; and a row that is added
pub price_refusals : (price_refusal none (drop 2 (new_price "00" 1000001)) ∷ price_refusal none (drop 1 (new_price "00" 1000001))
    ∷ map (λ r. price_refusal (some (rows_to PRICE-ROOM [])) (drop 1 r)) (new_price "00" 1000001 ∷ new_price "00" 5 ∷ new_price "000" 5 ∷ [])
    ++ (price_refusal (some (rows_to 3 [])) (drop 1 (new_price "000" 5)) ∷ [])) ≡ 1 ∷ 5 ∷ 5 ∷ 7 ∷ 10 ∷ 0 ∷ []
unfolding losing
price_refusals = refl

abbrev row_fields : PriceRow → List ℕ
row_fields r = r.price ∷ r.prefix

-- price and prefix of each row behind a row's record
abbrev rows_behind : List (List ℕ) → List ℕ → List ℕ
rows_behind rs r = or_nothing (λ (left : List PriceRow). file (map row_fields left)) (rows_after (some (rows_given rs)) (drop 1 r))

-- a row goes to its place in prefix order: the first, the last and between; one that is refused leaves the rows
pub row_placed : map (rows_behind (new_price "1" 5 ∷ new_price "2" 6 ∷ [])) (new_price "" 7 ∷ new_price "12" 7 ∷ new_price "3" 7 ∷ new_price "2" 7 ∷ [])
    ≡ (7 ∷ 5 ∷ 1 ∷ 6 ∷ 2 ∷ []) ∷ (5 ∷ 1 ∷ 7 ∷ 1 ∷ 2 ∷ 6 ∷ 2 ∷ []) ∷ (5 ∷ 1 ∷ 6 ∷ 2 ∷ 7 ∷ 3 ∷ []) ∷ (5 ∷ 1 ∷ 6 ∷ 2 ∷ []) ∷ []
unfolding losing
row_placed = refl

-- THE LEDGER

-- these for the whole, and no number for a district, which is read as 0: what 1,536 of them make is in the files below
abbrev whole_of : ℤ → ℤ → ℤ → Ledger
whole_of count due billed = ledger_of [] (totals_of count due billed)

-- "A ledger takes 10,000,000 records": LEDGER FULL from there on, and RANGE over it
pub records_bound : (map (λ n. as_number (is_full (whole_of (pos n) (pos 0) (pos 0)))) (9999999 ∷ 10000000 ∷ [])
    ++ map (λ n. as_number (ledger_in_range (whole_of (pos n) (pos 0) (pos 0)))) (10000000 ∷ 10000001 ∷ [])) ≡ 0 ∷ 1 ∷ 1 ∷ 0 ∷ []
unfolding losing
records_bound = refl

-- "a due or billed sum .. is negative or over the count beside it times 86,400,000,000"
pub sum_bound : map (λ s. as_number (sum_in_range (pos 2) s)) (negsuc 0 ∷ pos 0 ∷ pos 172800000000 ∷ pos 172800000001 ∷ []) ≡ 0 ∷ 1 ∷ 1 ∷ 0 ∷ []
unfolding losing
sum_bound = refl

-- so for either sum, beside a count that is at most 2
pub each_sum : map (λ t. as_number (totals_in_range (pos 2) t))
    (totals_of (pos 2) (pos 1) (pos 1) ∷ totals_of (pos 3) (pos 1) (pos 1) ∷ totals_of (pos 2) (negsuc 0) (pos 1) ∷ totals_of (pos 2) (pos 1) (negsuc 0) ∷ []) ≡ 1 ∷ 0 ∷ 0 ∷ 0 ∷ []
unfolding losing
each_sum = refl

-- "a district's count is over the whole's": district 1 has 2 and 3 records beside 2
pub district_count : map (λ n. as_number (ledger_in_range (ledger_of (pos 0 ∷ pos 0 ∷ pos 0 ∷ pos n ∷ []) (totals_of (pos 2) (pos 0) (pos 0))))) (2 ∷ 3 ∷ []) ≡ 1 ∷ 0 ∷ []
unfolding losing
district_count = refl

-- THE REFUSALS OF A CALL RECORD

-- RELEASECALL for no record, DFLTRN none; a rule for NATL, with INPRTG and CDPNNP
abbrev charge_plan : List (List ℕ)
charge_plan = opening 8 8 "55" "" "" "" (4 ∷ 1 ∷ 1 ∷ 1 ∷ []) ∷ new_set 0 255 dnx_ccdef (1 ∷ 2 ∷ []) (11 ∷ 4 ∷ []) ∷ new_rule 1 "" 0 0 ∷ []

-- calls that are formatted, responded to, refused with SHORT and with LONG, and one out of range besides
abbrev formatted_call : List ℕ
formatted_call = new_call 7 4 60 0 (number 1 "87654321" 2 "0015")

abbrev responded_call : List ℕ
responded_call = new_call 7 4 60 0 (number 1 "87654321" 0 "")

abbrev short_call : List ℕ
short_call = new_call 7 4 60 0 (number 1 "" 2 "0015")

abbrev long_call : List ℕ
long_call = new_call 7 4 60 0 (number 1 "12345678901234567890123456789012" 2 "1")

abbrev wrong_call : List ℕ
wrong_call = new_call 7 4 100000 0 (number 1 "" 2 "0015")

abbrev full_ledger : Ledger
full_ledger = whole_of (pos LEDGER-LIMIT) (pos 0) (pos 0)

-- full, and over the limit
abbrev wrong_ledger : Ledger
wrong_ledger = whole_of (pos (LEDGER-LIMIT + 1)) (pos 0) (pos 0)

abbrev taken_over : Option (List PriceRow) → Ledger → ℕ → List ℕ → ℕ
taken_over rows l size r = taking_refusal (behind charge_plan) rows l size (drop 1 r)

-- CUT, PLAN, ROOM and RANGE, each where all that come later hold too: RANGE for the list, the ledger and the record
pub taking_first : (taking_refusal none none wrong_ledger (DIGIT-ROOM - 1) (drop 2 wrong_call) ∷ taking_refusal none none wrong_ledger (DIGIT-ROOM - 1) (drop 1 wrong_call)
    ∷ taken_over none wrong_ledger (DIGIT-ROOM - 1) wrong_call ∷ taken_over none full_ledger DIGIT-ROOM short_call ∷ taken_over (some []) wrong_ledger DIGIT-ROOM short_call
    ∷ taken_over (some []) full_ledger DIGIT-ROOM wrong_call ∷ []) ≡ 1 ∷ 3 ∷ 4 ∷ 5 ∷ 5 ∷ 5 ∷ []
unfolding losing
taking_first = refl

-- "14 NO PRICE (no row fits, outcome 2 excepted) and 15 LEDGER FULL, after 13": over a full ledger and no row LONG, NO PRICE and, responded to, LEDGER FULL
pub taking_last : map (taken_over (some []) full_ledger DIGIT-ROOM) (long_call ∷ formatted_call ∷ responded_call ∷ []) ≡ 13 ∷ 14 ∷ 15 ∷ []
unfolding losing
taking_last = refl

-- LEDGER FULL with a row that fits; a call that is responded to is taken without one
pub full_or_taken : (taken_over (some (rows_given (new_price "" 5 ∷ []))) full_ledger DIGIT-ROOM formatted_call ∷ taken_over (some []) (whole_of (pos 0) (pos 0) (pos 0)) DIGIT-ROOM responded_call ∷ []) ≡ 15 ∷ 0 ∷ []
unfolding losing
full_or_taken = refl

-- FILES

-- the text of a file, over an empty ledger with the numbers of districts 0 to 17 alone, which computes sooner: C-11's three accounts have all of them
abbrev month_text : List (List ℕ) → List ℕ
month_text rs = text_from (length (file rs)) (house_with none [] (ledger_of (replicate 54 (pos 0)) (totals_of (pos 0) (pos 0) (pos 0)))) (file rs)

-- "below zero where we were overcharged", "as `17 -1`": 60 seconds at 2,500 less 3,000 billed, half a cent; a district whose loss is nothing, by outcome 4 at 3,000 for its outgoing
-- digits; a refused row changes no line
pub overcharged : month_text
    (plain ∷ s1 0 ∷ new_rule 1 "" 0 0 ∷ new_price "8" 2500 ∷ new_price "0015" 3000 ∷ new_price "8" 1 ∷ new_call 7 17 60 3000 (number 0 "87654321" 0 "")
    ∷ new_call 8 4 60 3000 (number 1 "87654321" 2 "0015") ∷ losses ∷ [])
    ≡ ascii "ok\nok\nok\nok\nok\nno 7\n0 0 0 0 -\n4 1 0 1 001587654321\n4 0\n17 -1\ntotal -1\n"
unfolding losing
overcharged = refl

-- "Kinds 17 and 18 don't look at the plan": before an opening, where a call record draws PLAN
pub before_opening : file_text (file (new_price "" 1000 ∷ some_call 4 60 0 ∷ losses ∷ [])) ≡ ascii "ok\nno 3\ntotal 0\n"
unfolding losing
before_opening = refl

-- "an opening leaves rows and ledger"
pub opening_between : month_text (new_price "" 1000 ∷ plain ∷ some_call 4 60 0 ∷ plain ∷ some_call 4 60 0 ∷ losses ∷ []) ≡ ascii "ok\nok\n0 1 0 0 -\nok\n0 1 0 0 -\n4 2\ntotal 2\n"
unfolding losing
opening_between = refl

-- SIXTY-FOUR AND MORE

-- rules 63 to 0 of set 0: rule k has class k / 16 and the one digit k % 16 for its prefix
abbrev pub falling_rules : ℕ → List (List ℕ)
falling_rules zero = []
falling_rules (suc k) = (4 ∷ k / 16 ∷ (string 16 (k % 16 ∷ []) ++ (0 ∷ two 0))) ∷ falling_rules k

-- 66 records: an opening, S1 as set 0, and 64 rules in falling order
abbrev pub sixty_four_rules : List (List ℕ)
sixty_four_rules = rooms 64 512 ∷ s1 0 ∷ falling_rules 64

-- prefixes 1, 11, 111 and so on up to n digits, each with lengths wildcard, 30, 31 and 32, in set 0, 1, 2 and 3
abbrev pub nested_rules : ℕ → List (List ℕ)
nested_rules zero = []
nested_rules (suc k) = nested 0 0 ∷ nested 30 1 ∷ nested 31 2 ∷ nested 32 3 ∷ nested_rules k
  where
    nested : ℕ → ℕ → List ℕ
    nested len n = 4 ∷ 1 ∷ (string 16 (replicate (suc k) 1) ++ (len ∷ two n))

abbrev pub sixty_four_nested : List (List ℕ)
sixty_four_nested = rooms 4 64 ∷ escape 0 2 ∷ escape 1 3 ∷ escape 2 4 ∷ escape 3 5 ∷ nested_rules 16

-- sets 63 to 0 with no CA: set k has class k % 6
abbrev pub falling_sets : ℕ → List (List ℕ)
falling_sets zero = []
falling_sets (suc k) = escape k (k % 6) ∷ falling_sets k

-- n, n - 1, and so on down to 1
abbrev pub down_from : ℕ → List ℕ
down_from zero = []
down_from (suc k) = suc k ∷ down_from k

-- a text so many times
abbrev pub times : ℕ → String → List ℕ
times zero t = []
times (suc k) t = ascii t ++ times k t

pub large : List Row
unfolding everything
large =
    -- a file of 70 records: rules added in falling order are listed rising, counted, and chosen among
    row (file_text (file (sixty_four_rules ++ (list ∷ refs 0 ∷ number 2 "a5" 2 "1" ∷ number 4 "a5" 2 "1" ∷ []))))
    (times 66 "ok\n"
    ++ (ascii "0 0 * 0\n0 1 * 0\n0 2 * 0\n0 3 * 0\n0 4 * 0\n0 5 * 0\n0 6 * 0\n0 7 * 0\n0 8 * 0\n0 9 * 0\n0 a * 0\n0 b * 0\n0 c * 0\n0 d * 0\n0 e * 0\n0 f * 0\n"
    ++ (ascii "1 0 * 0\n1 1 * 0\n1 2 * 0\n1 3 * 0\n1 4 * 0\n1 5 * 0\n1 6 * 0\n1 7 * 0\n1 8 * 0\n1 9 * 0\n1 a * 0\n1 b * 0\n1 c * 0\n1 d * 0\n1 e * 0\n1 f * 0\n"
    ++ (ascii "2 0 * 0\n2 1 * 0\n2 2 * 0\n2 3 * 0\n2 4 * 0\n2 5 * 0\n2 6 * 0\n2 7 * 0\n2 8 * 0\n2 9 * 0\n2 a * 0\n2 b * 0\n2 c * 0\n2 d * 0\n2 e * 0\n2 f * 0\n"
    ++ (ascii "3 0 * 0\n3 1 * 0\n3 2 * 0\n3 3 * 0\n3 4 * 0\n3 5 * 0\n3 6 * 0\n3 7 * 0\n3 8 * 0\n3 9 * 0\n3 a * 0\n3 b * 0\n3 c * 0\n3 d * 0\n3 e * 0\n3 f * 0\n"
    ++ ascii "end 64\nrefs 64\n4 2 0 1 1a5\n0 4 0 0 -\n"))))) refl
    -- over 64 rules with nested prefixes: the rule at the last place; a sound plan; a listing that rises, and backwards does not; of the 32 that
    -- fit a number of 31 ones the longest prefix wins, with the stated length; fifteen ones and sixteen twos; two ones; FULL
    ∷ row
    (or_nothing
    (λ p. file
    (shown_place (rule_at_place (some p) 63) ∷ soundness unchanged (some p) ∷ rising_listing unchanged (some p) ∷ rising_listing reversed (some p)
    ∷ answered_by_view (some p) (number 1 "1111111111111111111111111111111" 0 "")
    ∷ answer_fields (answer (some p) DIGIT-ROOM (drop 1 (number 1 "1111111111111112222222222222222" 0 "")))
    ∷ answer_fields (answer (some p) DIGIT-ROOM (drop 1 (number 1 "11" 0 "")))
    ∷ refusals_from lacks_program_room (some p) (as_call (new_rule 1 "" 0 0) ∷ []) ∷ []))
    (behind sixty_four_nested))
    (file
    ((0 ∷ 1 ∷ 0 ∷ 0 ∷ replicate 16 1) ∷ (1 ∷ []) ∷ (1 ∷ []) ∷ (0 ∷ []) ∷ (0 ∷ 1 ∷ 4 ∷ 0 ∷ 0 ∷ no_actions) ∷ (0 ∷ 1 ∷ 4 ∷ 0 ∷ 0 ∷ no_actions) ∷ (0 ∷ 1 ∷ 2 ∷ 0 ∷ 0 ∷ no_actions)
    ∷ (10 ∷ []) ∷ []))
    refl
    -- 65 calls looked back on
    ∷ row (content_looked_back (rooms 64 1 ∷ falling_sets 64) 3) (drop 3 (escape 3 3)) refl
    -- 64 sets
    ∷ row
    (file_text (file (rooms 64 1 ∷ (falling_sets 64 ++ (escape 64 0 ∷ escape 63 0 ∷ new_rule 1 "" 0 62 ∷ number 1 "5" 0 "" ∷ refs 62 ∷ removed_set 62 ∷ removed_set 63 ∷ refs 63 ∷ [])))))
    (times 65 "ok\n" ++ ascii "no 5\nno 7\nok\n1 2 0 0 -\nrefs 1\nno 11\nok\nno 8\n") refl
    -- the largest of 64 numbers is the first
    ∷ row (or_nothing (λ k. k ∷ []) (first_largest (down_from 64))) (0 ∷ []) refl
    -- the last
    ∷ row (or_nothing (λ k. k ∷ []) (first_largest (replicate 63 5 ++ (6 ∷ [])))) (63 ∷ []) refl
    -- the first of 64 that are alike
    ∷ row (or_nothing (λ k. k ∷ []) (first_largest (0 ∷ replicate 64 7))) (1 ∷ []) refl
    -- none above 0
    ∷ row (or_nothing (λ k. k ∷ []) (first_largest (replicate 64 0))) [] refl
    -- "Numbers are written in decimal"
    ∷ row (decimal 1234567890) (ascii "1234567890") refl
    ∷ []

-- THE SIZES: the sums of specs/Sizes.antt are document 01's numbers, and docs/LAYOUT.md's. Whatever moves a width changes rows here, and no other rows: nothing else stands behind this line.

-- "Kind | Body bytes", 0 to 9, "kind 0's body becomes 41" (C-12), 16 to 18 (C-11), and no other kind has a body
pub body_bytes_lem : map body_length (kinds ++ (10 ∷ 15 ∷ 19 ∷ 255 ∷ [])) ≡ 41 ∷ 47 ∷ 47 ∷ 2 ∷ 21 ∷ 21 ∷ 19 ∷ 73 ∷ 2 ∷ 0 ∷ 87 ∷ 21 ∷ 0 ∷ 0 ∷ 0 ∷ 0 ∷ 0 ∷ []
unfolding everything
body_bytes_lem = refl

-- "64 bytes + 48 a set + 24 a rule of the rooms asked; digit buffer under 35, or 47 for a set's content"
pub room_asked : (bytes_needed (record { sets = 0; rules = 0 }) ∷ SET-WIDTH ∷ RULE-WIDTH ∷ DIGIT-ROOM ∷ SET-BODY ∷ []) ≡ 64 ∷ 48 ∷ 24 ∷ 35 ∷ 47 ∷ []
unfolding everything
room_asked = refl

-- "A program run uses at most 64 sets and 512 rules", the longest record, and the examples' memory
pub run_asked : (RUN-SETS ∷ RUN-RULES ∷ RUN-BYTES ∷ LONGEST-RECORD ∷ MEMORY ∷ []) ≡ 64 ∷ 512 ∷ 15424 ∷ 88 ∷ 640 ∷ []
unfolding everything
run_asked = refl

-- the places in a set slot and in the header (docs/LAYOUT.md)
pub places : (RULES-AT ∷ ROOMS-AT ∷ SETTINGS-AT ∷ SETTINGS-END ∷ SETS-AT ∷ CONTENT-AT ∷ COUNT-AT ∷ []) ≡ 4 ∷ 8 ∷ 12 ∷ 49 ∷ 64 ∷ 1 ∷ 46 ∷ []
places = refl

-- "A price list of up to 256 rows", its bytes (docs/LAYOUT.md), and "count, due and billed for each district", "up to 511"
pub losses_asked : (PRICE-ROOM ∷ PRICES-BYTES ∷ DISTRICTS ∷ LEDGER-NUMBERS ∷ []) ≡ 256 ∷ 6146 ∷ 512 ∷ 1536 ∷ []
losses_asked = refl

-- "An entry is 24 bytes" (C-20), and its places: "the filter in 19; the left and right set in 2 each"
pub entry_asked : (DIFFERENCE-FILTER-AT ∷ LEFT-SET-AT ∷ RIGHT-SET-AT ∷ DIFFERENCE-BYTES ∷ []) ≡ 1 ∷ 20 ∷ 22 ∷ 24 ∷ []
entry_asked = refl

-- "FULL at 256": over 255 rows and over 256; of a lent list the first test, over 256 rows and over 257
pub rows_bound : (map (λ n. price_refusal (some (rows_to n [])) (drop 1 (new_price "" 5))) (255 ∷ 256 ∷ [])
    ++ map (λ n. as_number (all_of (take 1 (list_tests (rows_to n []))))) (256 ∷ 257 ∷ [])) ≡ 0 ∷ 10 ∷ 1 ∷ 0 ∷ []
unfolding losing
rows_bound = refl

-- "district (2, up to 511)"
pub district_bound : map call_passes (some_call 511 0 0 ∷ some_call 512 0 0 ∷ []) ≡ 1 ∷ 0 ∷ []
unfolding losing
district_bound = refl

-- the last one's sums and its line
pub last_district : loss_text (entered (record { district = 511; due = 60000; billed = 0 }) empty_ledger) ≡ ascii "511 1\ntotal 1\n"
unfolding losing
last_district = refl

-- ROOM at opening: "64 bytes + 48 a set + 24 a rule"; RANGE first
pub room_refused : numbers_over (MEMORY - 1) (plain ∷ rooms 8 7 ∷ rooms 9 7 ∷ rooms 7 8 ∷ rooms 7 10 ∷ but 5 0 plain ∷ []) ≡ 4 ∷ 0 ∷ 4 ∷ 0 ∷ 4 ∷ 5 ∷ []
unfolding everything
room_refused = refl

-- document 01's run comes to its end, behind its 337 bytes and C-12's one; a byte that is no kind, or a record that is cut, ends it there
pub ends_of_run : (end_fields (file_end run) ≡ 0 ∷ 338 ∷ []) × (end_fields (file_end (run ++ (200 ∷ 9 ∷ []))) ≡ 2 ∷ 338 ∷ []) × (end_fields (file_end (run ++ (7 ∷ 1 ∷ []))) ≡ 1 ∷ 338 ∷ [])
unfolding everything run
ends_of_run = (refl, refl, refl)
