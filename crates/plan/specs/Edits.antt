-- What the edits of rules put in.
use Rattle.std.specs.Prelude.{ℕ, List, get_or, set}
use Rattle.meaning.specs.Rules.{Rule}
use Rattle.meaning.specs.History.{no_rule}

-- the rule of a filter's bytes and a set number
abbrev pub rule_with : List ℕ → ℕ → Rule
rule_with code n = record { code = code; set = n }

-- the rule at place k given another set
abbrev pub renamed_at : ℕ → ℕ → List Rule → List Rule
renamed_at k n rs = set rs k (rule_with (get_or rs k no_rule).code n)
