-- Demand 3 on a number: "for any number that RANGE doesn't refuse and whose chosen rule has conditioning actions". proofs/Numbers.antt proves it
-- over every sound plan.
use Rattle.std.specs.Prelude.{ℕ, ◌≤◌, ◌≡◌, ◌↔◌, ◌⊎◌, false, List, length, T}
use Rattle.std.proofs.Math.Option.{some}
use Rattle.meaning.specs.Sizes.{DIGIT-ROOM}
use Rattle.meaning.specs.Basics.{is_empty}
use Rattle.meaning.specs.Refusals.{SHORT}
use Rattle.meaning.specs.Settings.{dialled_in_range}
use Rattle.meaning.specs.Rules.{Rule, filter_in, chosen}
use Rattle.meaning.specs.Actions.{actions_of}
use Rattle.meaning.specs.Groups.{fixed_sum}
use Rattle.meaning.specs.Stretches.{Accounted}
use Rattle.meaning.specs.Plan.{Plan, held, sound}
use Rattle.meaning.specs.Reads.{conditioned, stretch}

-- document 01's sum F of a rule and its set
abbrev pub sum_f : Rule → List ℕ → ℕ
sum_f r content = fixed_sum (length (filter_in r).prefix) (actions_of content).cas

-- the number is in range, r is chosen for it, and r's set has this content, with conditioning actions
pub record Conditions (p : Plan) (class : ℕ) (ds : List ℕ) (r : Rule) (content : List ℕ) : Type 0 where
  pub in_range : T (dialled_in_range class ds)
  pub rule : chosen class ds p.rules ≡ some r
  pub set : held p r.set ≡ some content
  pub actions : is_empty (actions_of content).cas ≡ false

-- over a buffer that draws no ROOM
pub record NumberHolds (p : Plan) (class : ℕ) (ds : List ℕ) (r : Rule) (content : List ℕ) (size : ℕ) : Type 0 where
  -- "the only refusal in conditioning is SHORT"
  pub only_short : ((conditioned (some p) size class ds).refusal ≡ 0) ⊎ ((conditioned (some p) size class ds).refusal ≡ SHORT)
  -- "It comes exactly when the rule's length is a wildcard and the number is no longer than document 01's sum F"
  pub short_exactly : ((conditioned (some p) size class ds).refusal ≡ SHORT) ↔ (((filter_in r).len ≡ 0) × (length ds ≤ sum_f r content))
  -- "Otherwise the stretches taken and ignored .. joined in the order of the actions, are the incoming digits"
  pub accounted : (conditioned (some p) size class ds).refusal ≡ 0 → Accounted (stretch (some p) class ds) (filter_in r) (actions_of content) ds
  -- "at most 35 digits"
  pub length_is : (conditioned (some p) size class ds).refusal ≡ 0
      → (1 ≤ length (conditioned (some p) size class ds).bytes) × (length (conditioned (some p) size class ds).bytes ≤ 35)

abbrev pub EveryNumber : Type 0
EveryNumber =
    (p : Plan) → T (sound p) → (class : ℕ) (ds : List ℕ) (r : Rule) (content : List ℕ) → Conditions p class ds r content
    → (size : ℕ) → DIGIT-ROOM ≤ size → NumberHolds p class ds r content size
