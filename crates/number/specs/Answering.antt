-- The answer to a number by the struct of its service stage, and what the functions on the way to it ask.
use Rattle.std.specs.Prelude.{ℕ, ◌≤◌, ◌≡◌, true, List, [], length, get_or, leb}
use Rattle.std.proofs.Math.Option.{some}
use Rattle.meaning.specs.Sizes.{SETTINGS-BYTES, CONTENT-BYTES, CLASS-AT, NUMBER-BYTES}
use Rattle.std.specs.Prelude.{if◌then◌else◌}
use Rattle.meaning.specs.Refusals.{LONG}
use Rattle.meaning.specs.Settings.{settings_of, lookup_of, number_of, number_in_range}
use Rattle.meaning.specs.Rules.{chosen_place}
use Rattle.meaning.specs.Actions.{actions_of}
use Rattle.meaning.specs.Answer.{NO-RULE, ESCAPED, RESPONDED, UNCHANGED, FORMATTED, Answer, refused, answer_with}
use Rattle.meaning.specs.declared.Answered.{Answered}
use Rattle.services.specs.declared.Served.{Served}
use Rattle.formatting.specs.Sources.{lookup_in, digits_in}
use Rattle.plan.specs.Layout.{plan_of}
use Rattle.number.specs.declared.Outcome.{Outcome}
use Rattle.number.specs.declared.Outcome.TheVariants.{NoRule, Escaped, Responded, Unchanged, Formatted}

-- document 01's number of an outcome
abbrev pub number_of_outcome : Outcome → ℕ
number_of_outcome NoRule = NO-RULE
number_of_outcome Escaped = ESCAPED
number_of_outcome Responded = RESPONDED
number_of_outcome Unchanged = UNCHANGED
number_of_outcome Formatted = FORMATTED

-- the struct of an answer after the service actions, with n digits
abbrev pub counted_as : ℕ → ℕ → Served → ℕ → Answered
counted_as outcome class s n =
    record { refusal = 0; outcome = outcome; class = class; response = s.effect.response; count = s.count; actions = s.actions; digits = n }

-- the answer itself
abbrev pub served_by : ℕ → ℕ → Served → List ℕ → Answer
served_by outcome class s ds =
    record { refusal = 0; outcome = outcome; class = class; response = s.effect.response; count = s.count; actions = s.actions; digits = ds }

-- what follows the service actions: the incoming class, the outgoing one, and the outgoing digits
unfoldable pub finished : ℕ → ℕ → Served → List ℕ → Answer
finished incoming class s out =
    if leb 2 s.effect.response then served_by RESPONDED incoming s [] else
    if s.effect.withheld then served_by UNCHANGED incoming s [] else
    if leb (length out) 32 then served_by FORMATTED class s out else refused LONG

-- document 01's answer by a rule, over the bytes of the settings, the lookup and the content
abbrev pub given_by : List ℕ → List ℕ → ℕ → List ℕ → ℕ → List ℕ → Answer
given_by settings lookup class digits prefix content =
    answer_with (settings_of settings) (record { class = class; digits = digits; lookup = lookup_of lookup }) prefix (actions_of content)

-- the bytes that the outgoing digits take while they are made: room for all of them, and behind them for the two blocks that a value may take
abbrev pub ANSWER-BYTES : ℕ
ANSWER-BYTES = 64

-- the settings, a body of n digits with its lookup's kind in range, a set's content, and room
pub record Answerable (settings body : List ℕ) (n : ℕ) (content out : List ℕ) : Type 0 where
  pub settings_long : length settings ≡ SETTINGS-BYTES
  pub body_long : length body ≡ NUMBER-BYTES
  pub kind : get_or (lookup_in body) 0 0 ≤ 3
  pub few : n ≤ 32
  pub content_long : length content ≡ CONTENT-BYTES
  pub room : ANSWER-BYTES ≤ length out

-- ds are the digits of a body
pub record Digits (body ds : List ℕ) : Type 0 where
  pub is : ds ≡ (number_of body).digits
  pub from : digits_in (length ds) body ≡ ds
  pub few : length ds ≤ 32

-- a number's body in range
pub record Known (body : List ℕ) : Type 0 where
  pub whole : length body ≡ NUMBER-BYTES
  pub range : number_in_range body ≡ true

-- and room for the outgoing digits
pub record Ready (body out : List ℕ) : Type 0 where
  pub known : Known body
  pub room : 32 ≤ length out

-- and for two blocks behind them
pub record Holdable (body out : List ℕ) : Type 0 where
  pub known : Known body
  pub room : ANSWER-BYTES ≤ length out

-- and the rule chosen, at place k, for the n digits of the body
pub record Placed (m body : List ℕ) (n k : ℕ) (out : List ℕ) : Type 0 where
  pub holdable : Holdable body out
  pub digits : digits_in n body ≡ (number_of body).digits
  pub few : n ≤ 32
  pub place : chosen_place (get_or body CLASS-AT 0) (digits_in n body) (plan_of m).rules ≡ some k
