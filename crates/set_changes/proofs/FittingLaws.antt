-- A walk that asks whether a content fits every rule that names a set: what is left decides.
use Prim.Native.Nat.{ℕ, ◌+◌, ◌*◌, ◌-◌, ◌≤◌, ◌<◌}
use mathlib.Core.Path.{◌≡◌, ◌∙◌}
use mathlib.Core.Bool.{Bool, true, false, ◌&&◌, ◌||◌, not}
use mathlib.Core.List.{List}
use native.Mathlib.Omega.{arith}
use lib.ListN.{take, drop}
use lib.Dec.{eqb}
use borrow.Author.Tests.{eq-eqb, ne_eqb}
use Rattle.meaning.specs.Sizes.{RULE-WIDTH}
use Rattle.meaning.specs.Basics.{all}
use Rattle.meaning.specs.Filters.{filter_of}
use Rattle.meaning.specs.Rules.{Rule, filter_in, names}
use Rattle.meaning.specs.Actions.{actions_of}
use Rattle.meaning.specs.Groups.{fit}
use Rattle.meaning.specs.Calls.{set_number, content_given}
use Rattle.meaning.specs.Answers.{set_of}
use Rattle.meaning.specs.declared.SetNumber.{SetNumber}
use Rattle.filter.specs.Slots.{rule_of, rules_of}
use Rattle.filter.proofs.RuleLaws.{filter_in_lem, rules_from, rules_full, rules_end, rules_more}

-- the rule names another set, or the content fits it
abbrev pub fitting : ℕ → List ℕ → Rule → Bool
fitting set content x = not (names set x) || fit (filter_in x) (actions_of content)

-- the rules before place i pass, so those from i on decide
abbrev pub Fitting : (set : ℕ) (content area : List ℕ) (n i : ℕ) → Type 0
Fitting set content area n i = all (fitting set content) (rules_of n area) ≡ all (fitting set content) (rules_from n i area)

pub fitting_none : (set : ℕ) (content area : List ℕ) (n : ℕ) → Fitting set content area n 0
fitting_none set content area n = rw (rules_full n area)

module _ (set : ℕ) (content area : List ℕ) (n i : ℕ) (h : Fitting set content area n i) where
  module _ (named : ℕ) (inside : i < n) (named-is : named ≡ (rule_of (take RULE-WIDTH (drop (RULE-WIDTH * i) area))).set) where
    step : all (fitting set content) (rules_of n area)
        ≡ ((not (eqb named set) || fit (filter_of (take RULE-WIDTH (drop (RULE-WIDTH * i) area))) (actions_of content)) && all (fitting set content) (rules_from n (i + 1) area))
    step = h ∙ rw (rules_more n i area inside, filter_in_lem (take RULE-WIDTH (drop (RULE-WIDTH * i) area)), named-is)

    pub fitting_other : (named ≡ set → ⊥) → Fitting set content area n (i + 1)
    fitting_other e = step ∙ rw (ne_eqb named set e)

    -- b is whether the content fits the filter of slot i
    module _ (e : named ≡ set) (b : Bool) (b-is : b ≡ fit (filter_of (take (RULE-WIDTH * i + RULE-WIDTH - RULE-WIDTH * i) (drop (RULE-WIDTH * i) area))) (actions_of content)) where
      named_step : all (fitting set content) (rules_of n area) ≡ (b && all (fitting set content) (rules_from n (i + 1) area))
      named_step =
          let k : RULE-WIDTH * i + RULE-WIDTH - RULE-WIDTH * i ≡ RULE-WIDTH = omega arith in
          let f : b ≡ fit (filter_of (take RULE-WIDTH (drop (RULE-WIDTH * i) area))) (actions_of content) = b-is ∙ rw k in
          step ∙ rw (eq-eqb named set e, f)

      pub fitting_misfit : b ≡ false → all (fitting set content) (rules_of n area) ≡ false
      fitting_misfit q = named_step ∙ rw q

      pub fitting_fits : b ≡ true → Fitting set content area n (i + 1)
      fitting_fits q = named_step ∙ rw q

  pub fitting_all : n ≤ i → all (fitting set content) (rules_of n area) ≡ true
  fitting_all l = h ∙ rw (rules_end n i area l)

-- by the set and the content that a body gives, over the rules of a plan
pub fitting_plan : {set : SetNumber} {content : List ℕ} {rules : List Rule} {r : Bool} (n : ℕ) (area b : List ℕ) → set ≡ set_of (set_number b) → content ≡ content_given b
    → rules_of n area ≡ rules → r ≡ all (fitting set.0 content) (rules_of n area) → r ≡ all (fitting (set_number b) (content_given b)) rules
fitting_plan n area b set_is content_is rules_are e = e ∙ rw (set_is, content_is, rules_are)
