-- The way through the rules of two plans: what stands at a place of each, how far that goes on the left and on the right, and its entry.
use Prim.Native.Nat.{ℕ, ◌≤◌, Ordering}
use Rattle.std.specs.Prelude.{◌≡◌, Bool, true, false, List, [], ◌∷◌, map, length, drop, get_or, eqb}
use Rattle.meaning.specs.Basics.{written_over}
use Rattle.std.specs.Prelude.{if◌then◌else◌}
use Rattle.meaning.specs.Filters.{compare_filters}
use Rattle.meaning.specs.Rules.{Rule, filter_in}
use Rattle.meaning.specs.Plan.{Plan, held}
use Rattle.meaning.specs.History.{no_rule}
use Rattle.meaning.specs.Compare.{LEFT-ONLY, RIGHT-ONLY, IN-BOTH, NO-SET, same_content, differ, merge, entry, difference_bytes}
use Rattle.buffer.specs.Slots.{flat}

-- WHAT STANDS AT TWO PLACES

-- beside the three kinds of an entry: both lists have ended; both have the filter, and their sets are equal
abbrev pub ENDED : ℕ
ENDED = 0

abbrev pub ALIKE : ℕ
ALIKE = 4

-- by the order of the filters, and whether the sets differ
abbrev pub kind_by : Ordering → Bool → ℕ
kind_by Ordering.lt b = LEFT-ONLY
kind_by Ordering.eq true = IN-BOTH
kind_by Ordering.eq false = ALIKE
kind_by Ordering.gt b = RIGHT-ONLY

abbrev pub head_kind : Plan → Plan → List Rule → List Rule → ℕ
head_kind p q [] [] = ENDED
head_kind p q [] (y ∷ ys) = RIGHT-ONLY
head_kind p q (x ∷ xs) [] = LEFT-ONLY
head_kind p q (x ∷ xs) (y ∷ ys) = kind_by (compare_filters (filter_in x) (filter_in y)) (differ p q x y)

-- at place i on the left and place j on the right
abbrev pub kind_at : Plan → Plan → ℕ → ℕ → ℕ
kind_at p q i j = head_kind p q (drop i p.rules) (drop j q.rules)

abbrev pub rule_in : Plan → ℕ → Rule
rule_in p i = get_or p.rules i no_rule

-- the sets that the rules at two places name have the same content
abbrev pub same_content_at : Plan → Plan → ℕ → ℕ → Bool
same_content_at p q i j = same_content (held p (rule_in p i).set) (held q (rule_in q j).set)

-- the entries that are left to be listed
abbrev pub entries_from : Plan → Plan → ℕ → ℕ → List (List ℕ)
entries_from p q i j = map difference_bytes (merge p q (drop i p.rules) (drop j q.rules))

-- WHAT A KIND COMES TO

-- 0 for one kind, 1 for every other
unfoldable pub one_unless : ℕ → ℕ → ℕ
one_unless none k = if eqb k none then 0 else 1

-- how far it goes on the left and on the right, and how many entries it lists
abbrev pub takes_left : ℕ → ℕ
takes_left k = one_unless RIGHT-ONLY k

abbrev pub takes_right : ℕ → ℕ
takes_right k = one_unless LEFT-ONLY k

abbrev pub lists : ℕ → ℕ
lists k = one_unless ALIKE k

-- the entry of a left rule and a right rule
unfoldable pub entry_by : ℕ → Rule → Rule → List ℕ
entry_by k x y =
    if eqb k LEFT-ONLY then entry k x.code x.set NO-SET else
    if eqb k RIGHT-ONLY then entry k y.code NO-SET y.set else entry k x.code x.set y.set

unfoldable pub listed_by : ℕ → Rule → Rule → List (List ℕ)
listed_by k x y = if eqb k ALIKE then [] else entry_by k x y ∷ []

-- WHAT THE FUNCTIONS GIVE

-- n is how many entries there are: at most one for each rule of both plans
pub record CountsEntries (p q : Plan) (n : ℕ) : Type 0 where
  pub is : n ≡ length (entries_from p q 0 0)
  pub few : n ≤ 8192

-- n bytes for some entries, at the front of a buffer; the bytes behind stay
pub record PutsEntries (entries : List (List ℕ)) (out after : List ℕ) (n : ℕ) : Type 0 where
  pub bytes : n ≡ length (flat entries)
  pub buffer : after ≡ written_over (flat entries) out
