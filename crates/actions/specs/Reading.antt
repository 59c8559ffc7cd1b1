-- What a walk over a set's lists has left.
use Rattle.std.specs.Prelude.{ℕ, Bool, List, eqb}
use Rattle.meaning.specs.Basics.{any}
use Rattle.meaning.specs.Actions.{CA, cas_of, codes_of}
use Rattle.actions.specs.declared.ConditioningAction.{ConditioningAction}
use Rattle.actions.specs.declared.ConditioningActions.{ConditioningActions}
use Rattle.actions.specs.declared.Codes.{Codes}

abbrev pub action_of : ConditioningAction → CA
action_of a = record { code = a.code; count = a.count }

abbrev pub actions_left : ConditioningActions → List CA
actions_left walk = cas_of walk.0.now

abbrev pub codes_left : Codes → List ℕ
codes_left walk = codes_of walk.0.now

-- some CA has the code
abbrev pub has_code : ℕ → List CA → Bool
has_code c xs = any (λ a. eqb a.code c) xs
