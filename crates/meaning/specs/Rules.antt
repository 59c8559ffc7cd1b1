-- Rules, their listing order, and document 01's choice among them.
use Rattle.std.specs.Prelude.{ℕ, ◌+◌, Bool, true, ◌&&◌, List, [], ◌∷◌, map, ltb, eqb}
use Rattle.std.proofs.Math.Option.{Option, none, some}
use Rattle.std.proofs.Math.ListN.{get_elem?}
use Rattle.meaning.specs.Basics.{all}
use Rattle.std.specs.Prelude.{if◌then◌else◌}
use Rattle.meaning.specs.Filters.{Filter, filter_of, fits_number, rank, is_before, is_same}

-- a rule: the bytes of its filter, and the number of the set it names
pub record Rule : Type 0 where
  pub code : List ℕ
  pub set : ℕ

abbrev pub filter_in : Rule → Filter
filter_in r = filter_of r.code

-- the rule names set n
abbrev pub names : ℕ → Rule → Bool
names n r = eqb r.set n

-- the rule's filter is f
abbrev pub has_filter : Filter → Rule → Bool
has_filter f r = is_same f (filter_in r)

-- the set number that the rule of a filter names; none where the filter is not held
abbrev pub set_named : Filter → List Rule → Option ℕ
set_named f [] = none
set_named f (r ∷ rs) = if has_filter f r then some r.set else set_named f rs

-- THE CHOICE

-- the place of the first largest number above 0: `best` is the place of the largest so far, `most` that number, `at` the next place
abbrev pub first_largest_from : Option ℕ → ℕ → ℕ → List ℕ → Option ℕ
first_largest_from best most at [] = best
first_largest_from best most at (w ∷ ws) =
    first_largest_from (if ltb most w then some at else best) (if ltb most w then w else most) (at + 1) ws

unfoldable pub first_largest : List ℕ → Option ℕ
first_largest ws = first_largest_from none 0 0 ws

-- 0 for a filter that does not fit the number; the more specific of two that fit weighs more
unfoldable pub weight : ℕ → List ℕ → Filter → ℕ
weight class ds f = if fits_number f class ds then rank f + 1 else 0

-- "Among the filters that fit, the longest prefix wins; for the same prefix a stated length beats the wildcard": the place of the rule chosen
unfoldable pub chosen_place : ℕ → List ℕ → List Rule → Option ℕ
chosen_place class ds rs = first_largest (map (λ (r : Rule). weight class ds (filter_in r)) rs)

abbrev pub rule_at : List Rule → Option ℕ → Option Rule
rule_at rs none = none
rule_at rs (some k) = get_elem? rs k

unfoldable pub chosen : ℕ → List ℕ → List Rule → Option Rule
chosen class ds rs = rule_at rs (chosen_place class ds rs)

-- THE LIST OF RULES IN LISTING ORDER

-- each rule stands before every later one
abbrev pub rules_in_order : List Rule → Bool
rules_in_order [] = true
rules_in_order (r ∷ rs) = all (λ (s : Rule). is_before (filter_in r) (filter_in s)) rs && rules_in_order rs

-- a rule added at its place
abbrev pub insert : Rule → List Rule → List Rule
insert r [] = r ∷ []
insert r (s ∷ rs) = if is_before (filter_in r) (filter_in s) then r ∷ s ∷ rs else s ∷ insert r rs

-- the rule of filter f given another set
abbrev pub rename : Filter → ℕ → List Rule → List Rule
rename f n [] = []
rename f n (r ∷ rs) = (if has_filter f r then record { code = r.code; set = n } else r) ∷ rename f n rs

-- the rule of filter f taken out
abbrev pub without : Filter → List Rule → List Rule
without f [] = []
without f (r ∷ rs) = if has_filter f r then without f rs else r ∷ without f rs
