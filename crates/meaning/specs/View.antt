-- What of a plan decides an answer: its settings, and for each rule the filter and the content of its set, without the set's number.
use Rattle.std.specs.Prelude.{ℕ, List, map}
use Rattle.std.proofs.Math.Option.{Option, none, some}
use Rattle.std.proofs.Math.ListN.{get_elem?}
use Rattle.meaning.specs.Settings.{Settings, Number}
use Rattle.meaning.specs.Filters.{Filter}
use Rattle.meaning.specs.Rules.{Rule, filter_in, weight, first_largest}
use Rattle.meaning.specs.Plan.{Plan, held, actions_in}
use Rattle.meaning.specs.Answer.{Answer, NO-RULE, unserved, answer_by}

pub record Viewed : Type 0 where
  pub filter : Filter
  pub content : Option (List ℕ)

abbrev pub viewed : Plan → Rule → Viewed
viewed p r = record { filter = filter_in r; content = held p r.set }

unfoldable pub view : Plan → List Viewed
view p = map (viewed p) p.rules

abbrev pub viewed_at : List Viewed → Option ℕ → Option Viewed
viewed_at vs none = none
viewed_at vs (some k) = get_elem? vs k

abbrev pub answer_under_view : Settings → Number → Option Viewed → Answer
answer_under_view settings n none = unserved NO-RULE n.class
answer_under_view settings n (some v) = answer_by settings n v.filter (actions_in v.content)

-- the answer to a number from the settings and the view alone
unfoldable pub answer_by_view : Settings → List Viewed → Number → Answer
answer_by_view settings vs n =
    answer_under_view settings n (viewed_at vs (first_largest (map (λ (v : Viewed). weight n.class n.digits v.filter) vs)))
