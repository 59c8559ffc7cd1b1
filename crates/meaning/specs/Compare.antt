-- C-20, "Two plans side by side": what differs between two plans, in listing order; its entries; and the call.
use Prim.Native.Nat.{Ordering}
use Rattle.std.specs.Prelude.{ℕ, ◌*◌, ◌≡◌, ◌↔◌, ◌≢◌, Bool, true, false, not, length, T, ltb}
use mathlib.Core.List.{List, [], ◌∷◌, ◌++◌, map, Memᴰ}
use Rattle.std.proofs.Math.Option.{Option, none, some}
use Rattle.meaning.specs.Sizes.{DIFFERENCE-BYTES}
use Rattle.meaning.specs.Basics.{any, same_bytes, bytes_of_word}
use Rattle.std.specs.Prelude.{if◌then◌else◌}
use Rattle.meaning.specs.Refusals.{PLAN, ROOM}
use Rattle.meaning.specs.Settings.{Number}
use Rattle.meaning.specs.Filters.{Filter, compare_filters}
use Rattle.meaning.specs.Rules.{Rule, filter_in, has_filter, rules_in_order}
use Rattle.meaning.specs.Plan.{Plan, settings_in, held}
use Rattle.meaning.specs.Answer.{answer_of}
use Rattle.meaning.specs.View.{view}
use Rattle.meaning.specs.Reads.{Count}

-- WHAT DIFFERS

-- "each filter held by the left only, by the right only, or by both with sets whose content differs": by the rules that have it
pub data Difference : Type 0 where
  left_only : Rule → Difference
  right_only : Rule → Difference
  both : Rule → Rule → Difference

-- the contents of two sets are equal
abbrev pub same_content : Option (List ℕ) → Option (List ℕ) → Bool
same_content none none = true
same_content none (some c) = false
same_content (some b) none = false
same_content (some b) (some c) = same_bytes b c

module _ (p q : Plan) where
  -- "sets are compared by content and not by number": the set that x names on the left, and the one that y names on the right
  unfoldable pub differ : Rule → Rule → Bool
  differ x y = not (same_content (held p x.set) (held q y.set))

  -- the left rule x beside the right rules; `rest` gives what differs between the left rules behind x and some right rules
  abbrev pub merge_into : Rule → (List Rule → List Difference) → List Rule → List Difference
  merge_into x rest [] = left_only x ∷ rest []
  merge_into x rest (y ∷ ys) =
      elim (compare_filters (filter_in x) (filter_in y)) [
        | Ordering.lt ↦ left_only x ∷ rest (y ∷ ys)
        | Ordering.eq ↦ (let ds : List Difference = rest ys in if differ x y then both x y ∷ ds else ds)
        | Ordering.gt ↦ right_only y ∷ merge_into x rest ys
      ]

  -- left rules and right rules, each in listing order
  abbrev pub merge : List Rule → List Rule → List Difference
  merge [] ys = map right_only ys
  merge (x ∷ xs) ys = merge_into x (merge xs) ys

-- "list in listing order each filter held by the left only, by the right only, or by both with sets whose content differs; .. and settings are left aside"
unfoldable pub differences : Plan → Plan → List Difference
differences p q = merge p q p.rules q.rules

-- ENTRIES

-- "1 left, 2 right, 3 both"
abbrev pub LEFT-ONLY : ℕ
LEFT-ONLY = 1

abbrev pub RIGHT-ONLY : ℕ
RIGHT-ONLY = 2

abbrev pub IN-BOTH : ℕ
IN-BOTH = 3

-- "65,535 for none"
abbrev pub NO-SET : ℕ
NO-SET = 65535

-- "the filter in 19; the left and right set in 2 each"
unfoldable pub entry : ℕ → List ℕ → ℕ → ℕ → List ℕ
entry kind code left right = kind ∷ code ++ (bytes_of_word left ++ bytes_of_word right)

-- "An entry is 24 bytes"
abbrev pub difference_bytes : Difference → List ℕ
difference_bytes (left_only x) = entry LEFT-ONLY x.code x.set NO-SET
difference_bytes (right_only y) = entry RIGHT-ONLY y.code NO-SET y.set
difference_bytes (both x y) = entry IN-BOTH x.code x.set y.set

-- THE CALL

-- what it gives: a refusal number or 0, and the entries that it writes
pub record Comparison : Type 0 where
  pub refusal : ℕ
  pub entries : List (List ℕ)

-- "Their count is returned"
abbrev pub count_in : Comparison → Count
count_in c = record { refusal = c.refusal; number = length c.entries }

abbrev pub uncompared : ℕ → Comparison
uncompared r = record { refusal = r; entries = [] }

-- over a lent buffer of `size` bytes: "3 PLAN if either isn't sound; 4 ROOM exactly if the entries don't all fit, and then none is written"
abbrev pub comparison : Option Plan → Option Plan → ℕ → Comparison
comparison none q size = uncompared PLAN
comparison (some p) none size = uncompared PLAN
comparison (some p) (some q) size =
    if ltb size (DIFFERENCE-BYTES * length (differences p q)) then uncompared ROOM else
    record { refusal = 0; entries = map difference_bytes (differences p q) }

-- WHAT THE LIST OF DIFFERENCES IS, in the paper's words; proofs/Compare.antt proves it

-- a rule that has the filter of a difference
abbrev pub rule_of_difference : Difference → Rule
rule_of_difference (left_only x) = x
rule_of_difference (right_only y) = y
rule_of_difference (both x y) = x

-- no rule has the filter
abbrev pub Lacks : List Rule → Filter → Type 0
Lacks rs f = (r : Rule) → Memᴰ r rs → f ≢ filter_in r

-- "the filters are the same": each is held by both or by neither
abbrev pub SameFilters : Plan → Plan → Type 0
SameFilters p q = (f : Filter) → any (has_filter f) p.rules ≡ any (has_filter f) q.rules

-- "and their sets equal": the sets that the two rules of a filter name have equal contents
abbrev pub SameSets : Plan → Plan → Type 0
SameSets p q =
    (x y : Rule) → Memᴰ x p.rules → Memᴰ y q.rules → filter_in x ≡ filter_in y → held p x.set ≡ held q y.set

pub record SideBySide (p q : Plan) (ds : List Difference) : Type 0 where
  -- "in listing order", as a plan's own rules are; "Each difference appears once", since no filter stands before itself
  pub in_order : T (rules_in_order (map rule_of_difference ds))
  -- "each filter held by the left only"
  pub left_only_lem : (x : Rule) → Memᴰ (left_only x) ds ↔ (Memᴰ x p.rules × Lacks q.rules (filter_in x))
  -- "by the right only"
  pub right_only_lem : (y : Rule) → Memᴰ (right_only y) ds ↔ (Memᴰ y q.rules × Lacks p.rules (filter_in y))
  -- "or by both with sets whose content differs"
  pub in_both : (x y : Rule) → Memᴰ (both x y) ds
      ↔ (Memᴰ x p.rules × Memᴰ y q.rules × (filter_in x ≡ filter_in y) × (held p x.set ≢ held q y.set))
  -- "The list is empty exactly when the filters are the same and their sets equal"
  pub empty_exactly : (ds ≡ []) ↔ (SameFilters p q × SameSets p q)
  -- that is, when what decides an answer, the settings aside, is the same in both
  pub empty : (ds ≡ []) ↔ (view p ≡ view q)
  -- "Then, under equal settings, both plans give every number the same answer"
  pub alike : ds ≡ [] → settings_in p ≡ settings_in q → (n : Number) → answer_of p n ≡ answer_of q n
