-- Document 01's marked examples, M1 to M12, and document 02's of C-12, as one table: the calls that make the plan, what is asked, and the result, every field of it.
use Rattle.std.specs.Prelude.{ℕ, ◌≡◌, List, [], ◌∷◌, ◌++◌, length, replicate}
use Rattle.std.proofs.Math.Option.{Option, none, some}
use Rattle.meaning.specs.Sizes.{SETTINGS-BYTES, CONTENT-BYTES, NUMBER-BYTES, DIGIT-ROOM}
use Rattle.meaning.specs.Basics.{padded}
use Rattle.meaning.specs.Settings.{bytes_needed}
use Rattle.meaning.specs.Rules.{Rule, chosen}
use Rattle.meaning.specs.Plan.{Plan}
use Rattle.meaning.specs.Answer.{Answer, answer}
use Rattle.meaning.specs.Reads.{Read, conditioned, Listed, listed}
use Rattle.meaning.specs.Calls.{Operation, open_plan, add_set, add_rule, Call, lacks_bytes, put_in, refusals_from}

-- THE BODIES, those that a request may widen padded to their width

abbrev pub string : ℕ → List ℕ → List ℕ
string n ds = length ds ∷ padded n ds

-- 8 sets, 8 rules, country code 55
abbrev pub opening_body : List ℕ → List ℕ → ℕ → List ℕ
opening_body dfltrn answers accepting =
    0 ∷ 8 ∷ 0 ∷ 8 ∷ padded SETTINGS-BYTES (string 3 (5 ∷ 5 ∷ []) ++ (string 15 dfltrn ++ (string 5 [] ++ (string 5 [] ++ (answers ++ (accepting ∷ []))))))

abbrev pub set_body : ℕ → List ℕ → List ℕ → List ℕ → List ℕ
set_body class cas sas fas = 0 ∷ 0 ∷ padded CONTENT-BYTES (class ∷ (padded 24 cas ++ (padded 8 sas ++ padded 12 fas)))

abbrev pub rule_body : ℕ → List ℕ → ℕ → List ℕ
rule_body class prefix len = class ∷ (string 16 prefix ++ (len ∷ 0 ∷ 0 ∷ []))

abbrev pub number_body : ℕ → List ℕ → ℕ → List ℕ → List ℕ
number_body class ds kind entity = padded NUMBER-BYTES (class ∷ (string 32 ds ++ (kind ∷ (string 15 entity ++ (string 10 [] ++ string 10 [])))))

-- THE CALLS

abbrev pub call : Operation → List ℕ → Call
call o b = record { operation = o; body = b }

-- "Country code 55, no DFLTRN"; every kind RELAY, accepting 0
abbrev pub open55 : Call
open55 = call open_plan (opening_body [] (1 ∷ 1 ∷ 1 ∷ 1 ∷ []) 0)

-- M8: "with DFLTRN 0099"
abbrev pub open0099 : Call
open0099 = call open_plan (opening_body (0 ∷ 0 ∷ 9 ∷ 9 ∷ []) (1 ∷ 1 ∷ 1 ∷ 1 ∷ []) 0)

-- M12: "no record, which is set to RELEASECALL"
abbrev pub open_release : Call
open_release = call open_plan (opening_body [] (4 ∷ 1 ∷ 1 ∷ 1 ∷ []) 0)

-- C-12: "1 for success on kind 1"
abbrev pub open_accepting : Call
open_accepting = call open_plan (opening_body [] (1 ∷ 1 ∷ 1 ∷ 1 ∷ []) 1)

-- S1: "DNX, CCDEF; CDPNNP; RN, DN; class 255", with another SA list in M10 and M12
abbrev pub S1 : List ℕ → List ℕ
S1 sas = set_body 255 (12 ∷ 0 ∷ 15 ∷ 0 ∷ []) sas (11 ∷ 4 ∷ [])

-- S2: "IGN 1, AC 2, PFXA 4, SNX, CCDEF; CDPNNP, CDIAL; PFXA, RN, AC, SN; class 1"
abbrev pub S2 : List ℕ
S2 = set_body 1 (1 ∷ 1 ∷ 3 ∷ 2 ∷ 7 ∷ 4 ∷ 11 ∷ 0 ∷ 15 ∷ 0 ∷ []) (2 ∷ 5 ∷ []) (7 ∷ 11 ∷ 2 ∷ 3 ∷ [])

-- N: b33909087654321
abbrev pub N : List ℕ
N = 11 ∷ 3 ∷ 3 ∷ 9 ∷ 0 ∷ 9 ∷ 0 ∷ 8 ∷ 7 ∷ 6 ∷ 5 ∷ 4 ∷ 3 ∷ 2 ∷ 1 ∷ []

-- 87654321
abbrev pub subscriber : List ℕ
subscriber = 8 ∷ 7 ∷ 6 ∷ 5 ∷ 4 ∷ 3 ∷ 2 ∷ 1 ∷ []

abbrev pub b339090 : List ℕ
b339090 = 11 ∷ 3 ∷ 3 ∷ 9 ∷ 0 ∷ 9 ∷ 0 ∷ []

-- "the set stands under one rule, the number's class with both wildcards"
abbrev pub under : Call → List ℕ → ℕ → List Call
under opening set class = opening ∷ call add_set set ∷ call add_rule (rule_body class [] 0) ∷ []

-- M1: "S2 under UNKNOWN filters b/15 and b339090/*"
abbrev pub two_filters : List Call
two_filters = open55 ∷ call add_set S2 ∷ call add_rule (rule_body 2 (11 ∷ []) 15) ∷ call add_rule (rule_body 2 b339090 0) ∷ []

-- M2: "and b339090/15 added"
abbrev pub three_filters : List Call
three_filters = two_filters ++ (call add_rule (rule_body 2 b339090 15) ∷ [])

-- WHAT IS ASKED, and what the table shows of it, as numbers

pub data Query : Type 0 where
  choice : ℕ → List ℕ → Query  -- the filter chosen: its class, its length, the set, its prefix
  answered : List ℕ → Query  -- refusal, outcome, class, response, count, the eight actions, how many digits, the digits
  condition : ℕ → List ℕ → Query  -- refusal, the conditioned number
  nothing : Query  -- the numbers of the calls say all

abbrev pub shown_listed : Listed → List ℕ
shown_listed l = l.filter.class ∷ l.filter.len ∷ l.set ∷ l.filter.prefix

abbrev pub shown_rule : Option Rule → List ℕ
shown_rule none = []
shown_rule (some r) = shown_listed (listed r)

abbrev pub shown_answer : Answer → List ℕ
shown_answer a = a.refusal ∷ a.outcome ∷ a.class ∷ a.response ∷ a.count ∷ (a.actions ++ (length a.digits ∷ a.digits))

abbrev pub shown_read : Read → List ℕ
shown_read r = r.refusal ∷ r.bytes

abbrev pub shown_choice : Option Plan → ℕ → List ℕ → List ℕ
shown_choice none class ds = []
shown_choice (some p) class ds = shown_rule (chosen class ds p.rules)

-- a memory with room for 8 sets and 8 rules, and no byte more
abbrev pub MEMORY : ℕ
MEMORY = bytes_needed (record { sets = 8; rules = 8 })

abbrev pub shown : Query → List Call → List ℕ
shown (choice class ds) cs = shown_choice (put_in (lacks_bytes MEMORY) cs) class ds
shown (answered b) cs = shown_answer (answer (put_in (lacks_bytes MEMORY) cs) DIGIT-ROOM b)
shown (condition class ds) cs = shown_read (conditioned (put_in (lacks_bytes MEMORY) cs) DIGIT-ROOM class ds)
shown nothing cs = []

-- THE TABLE

-- the calls, the number that each is answered with, and what is asked behind them
pub record Row : Type 0 where
  pub calls : List Call
  pub numbers : List ℕ
  pub query : Query
  pub result : List ℕ

abbrev pub row : List Call → List ℕ → Query → List ℕ → Row
row cs ns q r = record { calls = cs; numbers = ns; query = q; result = r }

-- every call accepted
abbrev pub accepted3 : List ℕ
accepted3 = 0 ∷ 0 ∷ 0 ∷ []

-- the eight places with no action, one, or two
abbrev pub actions0 : List ℕ
actions0 = replicate 8 0

abbrev pub actions1 : ℕ → List ℕ
actions1 a = a ∷ replicate 7 0

abbrev pub actions2 : ℕ → ℕ → List ℕ
actions2 a b = a ∷ b ∷ replicate 6 0

unfoldable pub table : List Row
table =
    -- M1: the second
    row two_filters (0 ∷ accepted3) (choice 2 N) (2 ∷ 0 ∷ 0 ∷ b339090)
    -- M2: the third
    ∷ row three_filters (0 ∷ 0 ∷ accepted3) (choice 2 N) (2 ∷ 15 ∷ 0 ∷ b339090)
    -- M3: NO RULE
    ∷ row three_filters (0 ∷ 0 ∷ accepted3) (answered (number_body 1 N 0 [])) (0 ∷ 0 ∷ 1 ∷ 0 ∷ 0 ∷ (actions0 ++ (0 ∷ [])))
    -- M4: SHORT
    ∷ row (under open55 (S1 (2 ∷ [])) 1) accepted3 (answered (number_body 1 [] 0 [])) (12 ∷ 0 ∷ 0 ∷ 0 ∷ 0 ∷ (actions0 ++ (0 ∷ [])))
    -- M5: 553387654321
    ∷ row (under open55 S2 2) accepted3 (condition 2 N) (0 ∷ 5 ∷ 5 ∷ 3 ∷ 3 ∷ subscriber)
    -- M6: 90903387654321, class 1, two actions
    ∷ row (under open55 S2 2) accepted3 (answered (number_body 2 N 0 []))
    (0 ∷ 4 ∷ 1 ∷ 0 ∷ 2 ∷ (actions2 2 5 ++ (14 ∷ 9 ∷ 0 ∷ 9 ∷ 0 ∷ 3 ∷ 3 ∷ subscriber)))
    -- M7: 87654321
    ∷ row (under open55 (S1 (2 ∷ [])) 1) accepted3 (answered (number_body 1 subscriber 3 (7 ∷ 7 ∷ []))) (0 ∷ 4 ∷ 1 ∷ 0 ∷ 1 ∷ (actions1 2 ++ (8 ∷ subscriber)))
    -- M8: 009987654321
    ∷ row (under open0099 (S1 (2 ∷ [])) 1) accepted3 (answered (number_body 1 subscriber 3 (7 ∷ 7 ∷ [])))
    (0 ∷ 4 ∷ 1 ∷ 0 ∷ 1 ∷ (actions1 2 ++ (12 ∷ 0 ∷ 0 ∷ 9 ∷ 9 ∷ subscriber)))
    -- M9: LONG
    ∷ row (under open55 (S1 (2 ∷ [])) 1) accepted3 (answered (number_body 1 (replicate 32 7) 2 (1 ∷ []))) (13 ∷ 0 ∷ 0 ∷ 0 ∷ 0 ∷ (actions0 ++ (0 ∷ [])))
    -- M10: GROUPS
    ∷ row (open55 ∷ call add_set (S1 (3 ∷ 2 ∷ [])) ∷ []) (0 ∷ 6 ∷ []) nothing []
    -- M11: MISFIT; fits
    ∷ row (open55 ∷ call add_set S2 ∷ call add_rule (rule_body 2 (11 ∷ []) 7) ∷ call add_rule (rule_body 2 (11 ∷ []) 8) ∷ []) (0 ∷ 0 ∷ 9 ∷ 0 ∷ []) nothing []
    -- M12: RESPONDED, 4, one action
    ∷ row (under open_release (S1 (1 ∷ 2 ∷ [])) 1) accepted3 (answered (number_body 1 subscriber 0 [])) (0 ∷ 2 ∷ 1 ∷ 4 ∷ 1 ∷ (actions1 1 ++ (0 ∷ [])))
    -- C-12: FORMATTED 87654321
    ∷ row (under open_accepting (S1 (2 ∷ [])) 1) accepted3 (answered (number_body 1 subscriber 1 [])) (0 ∷ 4 ∷ 1 ∷ 0 ∷ 1 ∷ (actions1 2 ++ (8 ∷ subscriber)))
    ∷ []

-- a row holds: each call is answered with its number, and what is asked with the row's result
pub record Holds (r : Row) : Type 0 where
  pub numbers : refusals_from (lacks_bytes MEMORY) none r.calls ≡ r.numbers
  pub result : shown r.query r.calls ≡ r.result
