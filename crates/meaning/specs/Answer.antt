-- Document 01, "Carrying it out": the answer to a number over a plan, with all its fields.
use Rattle.std.specs.Prelude.{ℕ, suc, zero, true, not, List, [], ◌∷◌, length, take, replicate, leb, ltb, eqb}
use Rattle.std.proofs.Math.Option.{Option, none, some}
use Rattle.meaning.specs.Sizes.{NUMBER-BYTES, DIGIT-ROOM}
use Rattle.meaning.specs.Basics.{is_empty}
use Rattle.std.specs.Prelude.{if◌then◌else◌}
use Rattle.meaning.specs.Refusals.{CUT, PLAN, ROOM, RANGE, SHORT, LONG, first_of}
use Rattle.meaning.specs.Settings.{AS-INCOMING, Settings, Number, number_of, number_in_range}
use Rattle.meaning.specs.Filters.{Filter}
use Rattle.meaning.specs.Rules.{Rule, filter_in, chosen}
use Rattle.meaning.specs.Actions.{ActionSet}
use Rattle.meaning.specs.Conditioning.{short, value_from}
use Rattle.meaning.specs.Services.{Stage, at_start, responded, serve, eight_places, value_to_send, join}
use Rattle.meaning.specs.Plan.{Plan, settings_in, held, actions_in}

-- THE OUTCOMES

abbrev pub NO-RULE : ℕ
NO-RULE = 0

abbrev pub ESCAPED : ℕ
ESCAPED = 1

abbrev pub RESPONDED : ℕ
RESPONDED = 2

abbrev pub UNCHANGED : ℕ
UNCHANGED = 3

abbrev pub FORMATTED : ℕ
FORMATTED = 4

-- actions: "in eight places, zero after the last, and their count"
pub record Answer : Type 0 where
  pub refusal : ℕ
  pub outcome : ℕ
  pub class : ℕ
  pub response : ℕ
  pub count : ℕ
  pub actions : List ℕ
  pub digits : List ℕ

-- "Each returns its number, every other field 0 and no digits"
unfoldable pub refused : ℕ → Answer
refused r = record { refusal = r; outcome = 0; class = 0; response = 0; count = 0; actions = replicate 8 0; digits = [] }

-- outcomes 0 and 1: no service action was carried out
unfoldable pub unserved : ℕ → ℕ → Answer
unserved outcome class =
    record { refusal = 0; outcome = outcome; class = class; response = 0; count = 0; actions = replicate 8 0; digits = [] }

-- outcomes 2, 3 and 4: after the service actions
unfoldable pub served : ℕ → ℕ → Stage → List ℕ → Answer
served outcome class s ds =
    record {
      refusal = 0;
      outcome = outcome;
      class = class;
      response = s.response;
      count = length s.done;
      actions = eight_places s.done;
      digits = ds;
    }

-- the set's class, or the incoming one where that is 255, "as incoming"
unfoldable pub outgoing_class : ℕ → ℕ → ℕ
outgoing_class set incoming = if eqb set AS-INCOMING then incoming else set

-- FORMATTED, or LONG: "outgoing digits over 32"
unfoldable pub formatted : ℕ → Stage → List ℕ → Answer
formatted class s out = if leb (length out) 32 then served FORMATTED class s out else refused LONG

-- "If it is not RELAY nothing more is carried out: outcome 2 RESPONDED"; "Withheld: outcome 3 UNCHANGED. Else outcome 4 FORMATTED".
-- "The class answered is the set's in outcomes 1 and 4, else the incoming one."
unfoldable pub after_services : ℕ → ℕ → Stage → List ℕ → Answer
after_services incoming outgoing s out =
    if responded s then served RESPONDED incoming s [] else
    if s.withheld then served UNCHANGED incoming s [] else formatted outgoing s out

-- what a rule whose prefix has so many digits, and the actions of its set, make of a number: "No CA: outcome 1 ESCAPED. Otherwise condition .. Then the SAs"
unfoldable pub answer_with : Settings → Number → ℕ → ActionSet → Answer
answer_with settings n prefix s =
    let stage : Stage = serve settings n.lookup s.fas s.sas at_start in
    let value : ℕ → List ℕ = value_from settings.country prefix n.digits s.cas in
    if is_empty s.cas then unserved ESCAPED (outgoing_class s.class n.class) else
    if short prefix (length n.digits) s.cas then refused SHORT else
    after_services n.class (outgoing_class s.class n.class) stage (join (value_to_send settings value stage) s.fas)

-- by its filter
unfoldable pub answer_by : Settings → Number → Filter → ActionSet → Answer
answer_by settings n f s = answer_with settings n (length f.prefix) s

-- "No filter fits: outcome 0 NO RULE"
abbrev pub answer_under : Plan → Number → Option Rule → Answer
answer_under p n none = unserved NO-RULE n.class
answer_under p n (some r) = answer_by (settings_in p) n (filter_in r) (actions_in (held p r.set))

unfoldable pub answer_of : Plan → Number → Answer
answer_of p n = answer_under p n (chosen n.class n.digits p.rules)

-- THE CALL: its checks in order, over a lent buffer of `size` bytes and a body of any length

abbrev pub checked : ℕ → Answer → Answer
checked zero a = a
checked (suc r) a = refused (suc r)

abbrev pub answer : Option Plan → ℕ → List ℕ → Answer
answer none size body = refused (first_of ((ltb (length body) NUMBER-BYTES, CUT) ∷ (true, PLAN) ∷ []))
answer (some p) size body =
    checked
    (first_of ((ltb (length body) NUMBER-BYTES, CUT) ∷ (ltb size DIGIT-ROOM, ROOM) ∷ (not (number_in_range (take NUMBER-BYTES body)), RANGE) ∷ []))
    (answer_of p (number_of (take NUMBER-BYTES body)))
