-- A rule slot: the filter, "class 1, prefix 1+16, length 1"; "set 2"; 3 unused.
use Rattle.std.specs.Prelude.{ℕ, ◌*◌, ◌≤◌, Bool, List, map, length, take, get_or, T, leb}
use Rattle.meaning.specs.Sizes.{PREFIX-AT, FILTER-BYTES, SET-AT, RULE-WIDTH}
use Rattle.meaning.specs.Basics.{all, word}
use Rattle.meaning.specs.Rules.{Rule}
use Rattle.buffer.specs.Slots.{slots}

-- the rule of a slot
unfoldable pub rule_of : List ℕ → Rule
rule_of slot = record { code = take FILTER-BYTES slot; set = word slot SET-AT }

-- the rules of the first n slots
unfoldable pub rules_of : ℕ → List ℕ → List Rule
rules_of n area = map rule_of (slots RULE-WIDTH n area)

-- a prefix of at most 16 digits
abbrev pub prefix_fits : List ℕ → Bool
prefix_fits s = leb (get_or s PREFIX-AT 0) 16

-- bytes that begin with a filter: its own bytes alone, or a slot
pub record FilterBytes (s : List ℕ) : Type 0 where
  pub whole : FILTER-BYTES ≤ length s
  pub prefix : get_or s PREFIX-AT 0 ≤ 16

-- an area that begins with n rule slots
pub record RuleArea (n : ℕ) (area : List ℕ) : Type 0 where
  pub few : n ≤ 4096
  pub room : RULE-WIDTH * n ≤ length area
  pub prefixes : T (all prefix_fits (slots RULE-WIDTH n area))
