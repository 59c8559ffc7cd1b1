-- What stands at two places of two plans, as the code has it: its kind, and its entry by its own rules.
use Rattle.std.specs.Prelude.{ℕ, ◌≡◌, List, [], ◌∷◌}
use Rattle.meaning.specs.Rules.{Rule}
use Rattle.meaning.specs.Compare.{LEFT-ONLY, RIGHT-ONLY, IN-BOTH, NO-SET, entry}
use Rattle.plan.specs.Layout.{plan_of}
use Rattle.plan.specs.Readings.{rule_placed}
use Rattle.plan.specs.declared.HeldRule.{HeldRule}
use Rattle.compare.specs.Steps.{ALIKE, kind_at, rule_in, listed_by}
use Rattle.compare.specs.declared.Standing.{Standing}
use Rattle.compare.specs.declared.Standing.TheVariants.{LeftOnly, RightOnly, InBoth, Alike}

abbrev pub number_of : Standing → ℕ
number_of (LeftOnly x) = LEFT-ONLY
number_of (RightOnly y) = RIGHT-ONLY
number_of (InBoth x y) = IN-BOTH
number_of Alike = ALIKE

abbrev pub rule_of : HeldRule → Rule
rule_of r = rule_placed r.plan.memory.now r.place.0

abbrev pub listed_of : Standing → List (List ℕ)
listed_of (LeftOnly x) = entry LEFT-ONLY (rule_of x).code (rule_of x).set NO-SET ∷ []
listed_of (RightOnly y) = entry RIGHT-ONLY (rule_of y).code NO-SET (rule_of y).set ∷ []
listed_of (InBoth x y) = entry IN-BOTH (rule_of x).code (rule_of x).set (rule_of y).set ∷ []
listed_of Alike = []

-- s stands at place i of the one plan and place j of the other
pub record StandsAt (left right : List ℕ) (i j : ℕ) (s : Standing) : Type 0 where
  pub kind : number_of s ≡ kind_at (plan_of left) (plan_of right) i j
  pub listed : listed_of s ≡ listed_by (number_of s) (rule_in (plan_of left) i) (rule_in (plan_of right) j)
