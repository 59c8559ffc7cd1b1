-- Demand 3 as one claim about the whole list, over every memory and every result that meets the promises of the public calls: the functions that
-- run are among them. Quoted are demand 3 and document 01's last paragraph.
use Rattle.std.specs.Prelude.{ℕ, ◌≤◌, ◌/◌, ◌%◌, ◌≡◌, ◌↔◌, ◌≢◌, ◌⊎◌, true, not, length, take, get_or, T, eqb}
use mathlib.Core.List.{List, [], ◌∷◌, ◌++◌, Memᴰ}
use Rattle.std.proofs.Math.Option.{none, some}
use Rattle.std.proofs.Math.ListN.{get_elem?}
use Rattle.meaning.specs.Sizes.{SET-NUMBER-BYTES, SET-BODY, DIGIT-ROOM}
use Rattle.meaning.specs.Basics.{all, count, is_some}
use Rattle.meaning.specs.Refusals.{PLAN, IN-USE, SHORT}
use Rattle.meaning.specs.Settings.{rooms_of}
use Rattle.meaning.specs.Rules.{Rule, filter_in}
use Rattle.meaning.specs.Choice.{IsChoice, NoneFits}
use Rattle.meaning.specs.Actions.{actions_of}
use Rattle.meaning.specs.Conditioning.{Stretch, joined}
use Rattle.meaning.specs.Stretches.{stretch_at, Covers}
use Rattle.meaning.specs.Plan.{Plan, with_slot, content_passes}
use Rattle.meaning.specs.Numbers.{sum_f, Conditions}
use Rattle.meaning.specs.Answer.{answer}
use Rattle.meaning.specs.Reads.{Count, Listed, listed, listing, listed_or, read, conditioned, stretch}
use Rattle.meaning.specs.Calls.{Call, open_plan, remove_set, opened_rooms, set_number, lacks_bytes, refusal, refusals_from}
use Rattle.meaning.specs.LookBack.{accepted, last_content}
use Rattle.meaning.specs.History.{PutIn}
use Rattle.meaning.specs.Answers.{refusal_of_written, bytes_written, count_of, place_chosen, rule_given, rule_wanted, span_of}
use Rattle.std.specs.Prelude.{Result, Option as Optional}
use Rattle.meaning.specs.declared.Refusal.{Refusal}
use Rattle.meaning.specs.declared.RulePlace.{RulePlace}
use Rattle.meaning.specs.declared.Answered.{Answered}
use Rattle.meaning.specs.declared.Span.{Span}
use Rattle.meaning.specs.declared.ListedRule.{ListedRule}
use Rattle.plan.specs.State.{sound_of, state_of}
use Rattle.changes.specs.Promise.{Provides, calls, Chain}
use Rattle.choice.specs.Chosen.{ChoicePromise}
use Rattle.number.specs.Promises.{GivesAnswer, AnswerPromise}
use Rattle.reads.specs.Promises.{GivesRead, GivesStretch, ConditionedPromise, ContentPromise, ReferrersPromise, SpanPromise, StretchPromise}
use Rattle.reads.specs.AfterCalls.{content_read, count_read}
use Rattle.listing.specs.Promises.{CountPromise, ListedPromise}
use Rattle.history.specs.Replays.{Replays, calls_in}

-- THE CHOICE AMONG WHAT WAS PUT IN, answered with c: "A rule is found exactly when some filter fits, and it is the most specific one that fits"

pub record ChoosesAs (class : ℕ) (ds : List ℕ) (p : Plan) (c : Optional RulePlace) : Type 0 where
  -- at the place answered stands the choice, among the rules and in the listing
  pub found : (k : ℕ) → place_chosen c ≡ some k
      → (r : Rule) × (get_elem? p.rules k ≡ some r) × (get_elem? (listing p) k ≡ some (listed r)) × IsChoice class ds p.rules r
  pub not_found : (place_chosen c ≡ none) ↔ NoneFits class ds p.rules

-- WHAT IS LISTED AND READ over a memory, by what was put in: the plan, and the accepted calls, the newest first

-- how many listed rules name set n
abbrev pub naming : ℕ → List Listed → ℕ
naming n ls = count (λ (l : Listed). eqb l.set n) ls

pub record ReadsAs (m : List ℕ) (opening : List ℕ) (past : List Call) (p : Plan) : Type 0 where
  -- "the listing and its count"
  pub count_is : (r : Result ℕ Refusal) → CountPromise m r → count_of r ≡ record { refusal = 0; number = length (listing p) }
  pub few_rules : length (listing p) ≤ 4096
  pub rule_is : (k : ℕ) (r : Result ListedRule Refusal) → ListedPromise m k r → rule_given r ≡ rule_wanted (listed_or (get_elem? (listing p) k))
  -- "what the four read calls give": a set's content as last accepted for it, and how many listed rules name it
  pub content_is : (n : ℕ) (out left : List ℕ) (r : Result ℕ Refusal) → ContentPromise m n out left r
      → GivesRead (content_read (rooms_of (opened_rooms opening)).sets (length out) n (last_content n past)) out left r
  -- a set that the calls hold reads back
  pub reads_back : (n : ℕ) (content out left : List ℕ) (r : Result ℕ Refusal) → last_content n past ≡ some content → SET-BODY ≤ length out → ContentPromise m n out left r
      → GivesRead (read (n / 256 ∷ n % 256 ∷ content)) out left r
  pub referrers_are : (n : ℕ) (r : Result ℕ Refusal) → ReferrersPromise m n r
      → count_of r ≡ count_read (rooms_of (opened_rooms opening)).sets n (last_content n past) (naming n (listing p))
  pub conditioned_is : (class : ℕ) (ds out left : List ℕ) (r : Result ℕ Refusal) → ConditionedPromise m class ds out left r
      → GivesRead (conditioned (some p) (length out) class ds) out left r
  pub span_is : (class : ℕ) (ds : List ℕ) (v : ℕ) (r : Span) → SpanPromise m class ds v r → r ≡ span_of (stretch (some p) class ds v)
  pub stretch_is : (class : ℕ) (ds : List ℕ) (at : ℕ × ℕ) (v : ℕ) (part : List ℕ) (part_at : ℕ × ℕ) → StretchPromise m class ds at v part part_at
      → GivesStretch (stretch (some p) class ds v) ds at part part_at
  -- "the choice and every number's answer, refusals included"
  pub choice_is : (class : ℕ) (ds : List ℕ) (c : Optional RulePlace) → ChoicePromise m class ds c → ChoosesAs class ds p c
  pub answer_is : (body out left : List ℕ) (r : Answered) → AnswerPromise m body out left r
      → GivesAnswer (answer (some p) (length out) body) out left r

-- REMOVING A HELD SET: number r, of the call that removes set n over memory m and leaves `left`

pub record Removes (m left : List ℕ) (p : Plan) (n r : ℕ) : Type 0 where
  -- "can be removed exactly when no rule names it"
  pub no_rule_lem : (r ≡ 0) ↔ ((l : Listed) → Memᴰ l (listing p) → l.set ≢ n)
  -- which is exactly when the count of rules naming it is 0
  pub none_counted : (c : Result ℕ Refusal) → ReferrersPromise m n c → (r ≡ 0) ↔ (count_of c ≡ record { refusal = 0; number = 0 })
  pub in_use : (r ≡ 0) ⊎ (r ≡ IN-USE)
  -- it is gone then, and nothing else; else nothing is changed
  pub gone : r ≡ 0 → state_of left ≡ some (with_slot n none p)
  pub kept : r ≡ IN-USE → left ≡ m

-- A NUMBER THAT IS CONDITIONED: "Refused in conditioning means by the conditioned call, ROOM aside", which answers w

-- a stretch by its start and count
abbrev pub stretch_given : Span → Stretch
stretch_given s = stretch_at s.start s.count

pub record ConditionsAs (m : List ℕ) (class : ℕ) (ds : List ℕ) (r : Rule) (content : List ℕ) (w : Result ℕ Refusal) : Type 0 where
  -- "the only refusal in conditioning is SHORT"
  pub only_short : (refusal_of_written w ≡ 0) ⊎ (refusal_of_written w ≡ SHORT)
  -- "It comes exactly when the rule's length is a wildcard and the number is no longer than document 01's sum F"
  pub short_exactly : (refusal_of_written w ≡ SHORT) ↔ (((filter_in r).len ≡ 0) × (length ds ≤ sum_f r content))
  -- "Otherwise the stretches taken and ignored, each as document 01 says its action takes it": as the stretch call gives start and count
  pub covers : refusal_of_written w ≡ 0 → (spans : ℕ → Span) → ((v : ℕ) → v ≤ 255 → SpanPromise m class ds v (spans v))
      → Covers (λ v. stretch_given (spans v)) (filter_in r).prefix ds 0 (actions_of content).cas
  -- "joined in the order of the actions, are the incoming digits": "a value adds its stretch as read"
  pub joins : refusal_of_written w ≡ 0 → (at : ℕ × ℕ) (parts : ℕ → List ℕ) (places : ℕ → ℕ × ℕ)
      → ((v : ℕ) → v ≤ 255 → StretchPromise m class ds at v (parts v) (places v))
      → joined parts ds 0 (actions_of content).cas ≡ ds
  -- "at most 35 digits"
  pub length_is : refusal_of_written w ≡ 0 → (1 ≤ bytes_written w) × (bytes_written w ≤ 35)

-- THE CLAIM, of a list of calls on a memory of some size, the numbers that they are answered with, and the memory m after it

pub record Claim (size : ℕ) (cs : List Call) (numbers m : List ℕ) : Type 0 where
  -- "The list's calls are refused exactly so": "with the number the refusal table gives over what was in before (PLAN never)"
  pub numbers_are : numbers ≡ refusals_from (lacks_bytes size) none cs
  -- what was in before a call is as the calls before it put it in, too
  pub before_each : (b : List ℕ) (front back : List Call) (c : Call) → cs ≡ calls open_plan b ∷ (front ++ (c ∷ back))
      → (q : PutIn (lacks_bytes size) (calls open_plan b ∷ front)) × (get_or numbers (length (calls open_plan b ∷ front)) 0 ≡ refusal (lacks_bytes size) (some q.plan) c)
  pub never_plan : T (all (λ (r : ℕ). not (eqb r PLAN)) numbers)
  -- what was put in, by carrying a plan through the calls and by looking back over them. "The plan is sound: no two rules share a filter, and each
  -- names a set that exists and fits it" is in it.
  pub put_in_lem : PutIn (lacks_bytes size) cs
  -- the memory, whose size stays, holds it, so that no call over it draws PLAN
  pub size_is : length m ≡ size
  pub state : state_of m ≡ some put_in_lem.plan
  pub sound_memory : sound_of m ≡ true
  pub sets_pass : (n : ℕ) (content : List ℕ) → last_content n (accepted (lacks_bytes size) cs) ≡ some content → T (content_passes content)
  -- "what is listed and read is exactly what these calls put in"
  pub reads : ReadsAs m put_in_lem.opening (accepted (lacks_bytes size) cs) put_in_lem.plan
  -- "A set that is held can be removed exactly when no rule names it"
  pub removable : (b left : List ℕ) (r : ℕ) → SET-NUMBER-BYTES ≤ length b → T (is_some (last_content (set_number b) (accepted (lacks_bytes size) cs)))
      → Provides (calls remove_set b) m left r → Removes m left put_in_lem.plan (set_number b) r
  -- "for any number that RANGE doesn't refuse and whose chosen rule has conditioning actions"
  pub conditions : (class : ℕ) (ds : List ℕ) (r : Rule) (content : List ℕ) → Conditions put_in_lem.plan class ds r content
      → (out left : List ℕ) (w : Result ℕ Refusal) → DIGIT-ROOM ≤ length out → ConditionedPromise m class ds out left w → ConditionsAs m class ds r content w

-- DEMAND 3: "any list of calls .., refused ones included, all on one plan memory and beginning with an accepted opening. Each call gets the plan as
-- the last one left it"
abbrev pub Demand3 : Type 0
Demand3 =
    (before m b : List ℕ) (cs : List Call) (numbers : List ℕ) → Chain before (calls open_plan b ∷ cs) (0 ∷ numbers) m
    → Claim (length before) (calls open_plan b ∷ cs) (0 ∷ numbers) m

-- and what `replay` leaves is so, wherever its list begins with an accepted opening
abbrev pub EveryReplay : Type 0
EveryReplay =
    (before bytes numbers m written : List ℕ) (count : ℕ) → Replays before bytes numbers m written count
    → (b : List ℕ) (cs : List Call) (rest : List ℕ) → calls_in (length numbers) bytes ≡ calls open_plan b ∷ cs → take count written ≡ 0 ∷ rest
    → Claim (length before) (calls open_plan b ∷ cs) (0 ∷ rest) m
