-- What the readers of the plan memory give, as the fields that callers use.
use Rattle.std.specs.Prelude.{ℕ, ◌+◌, ◌*◌, ◌≤◌, ◌<◌, ◌≡◌, List, length, get_or, T}
use Rattle.std.proofs.Math.Option.{some}
use Rattle.meaning.specs.Sizes.{CONTENT-BYTES, SETS-AT, SET-WIDTH, RULE-WIDTH}
use Rattle.meaning.specs.Basics.{part}
use Rattle.meaning.specs.Filters.{filter_of}
use Rattle.meaning.specs.Rules.{Rule, filter_in}
use Rattle.meaning.specs.Actions.{actions_of}
use Rattle.meaning.specs.Groups.{fit}
use Rattle.meaning.specs.Plan.{Plan, held, content_passes}
use Rattle.meaning.specs.History.{no_rule}
use Rattle.filter.specs.Slots.{FilterBytes, rules_of, RuleArea}
use Rattle.plan.specs.Layout.{set_room, rule_room, rule_count, plan_of}

-- r is the two-byte number n
pub record Number (n r : ℕ) : Type 0 where
  pub is : r ≡ n
  pub small : r < 65536

-- r is where the rule slots of m begin; all of them stand in m, those that are held first
pub record RulesStart (m : List ℕ) (r : ℕ) : Type 0 where
  pub is : r ≡ SETS-AT + SET-WIDTH * set_room m
  pub sets : set_room m ≤ 1024
  pub rules : rule_room m ≤ 4096
  pub held : rule_count m ≤ rule_room m
  pub room : r + RULE-WIDTH * rule_room m ≤ length m

-- r is the part of m with its rule slots
pub record RulesPart (m r : List ℕ) : Type 0 where
  pub bytes : r ≡ part (SETS-AT + SET-WIDTH * set_room m) (RULE-WIDTH * rule_room m) m
  pub rules : rules_of (rule_count m) r ≡ (plan_of m).rules
  pub area : RuleArea (rule_count m) r

-- r is the content of set n
pub record Content (p : Plan) (n : ℕ) (r : List ℕ) : Type 0 where
  pub is : held p n ≡ some r
  pub size : length r ≡ CONTENT-BYTES

-- THE RULE AT A PLACE

-- the rule at a place of the listing
abbrev pub rule_placed : List ℕ → ℕ → Rule
rule_placed m k = get_or (plan_of m).rules k no_rule

-- s is the slot of rule r
pub record RuleSlot (r : Rule) (s : List ℕ) : Type 0 where
  pub long : length s ≡ RULE-WIDTH
  pub bytes : FilterBytes s
  pub filter : filter_of s ≡ filter_in r

-- n is how many digits the prefix of rule r has
pub record Prefix (r : Rule) (n : ℕ) : Type 0 where
  pub is : n ≡ length (filter_in r).prefix
  pub few : n ≤ 16

-- c is the content of the set that rule r names; it passes, and r fits it
pub record NamedContent (p : Plan) (r : Rule) (c : List ℕ) : Type 0 where
  pub is : held p r.set ≡ some c
  pub size : length c ≡ CONTENT-BYTES
  pub passes : T (content_passes c)
  pub fits : T (fit (filter_in r) (actions_of c))
