-- C-20 tried by computing: a row for each of its sentences. The results are worked out from the papers' words, and each is what the definitions compute.
use Prim.Native.Nat.{ℕ}
use mathlib.Core.Path.{◌≡◌, refl}
use mathlib.Core.List.{List, [], ◌∷◌, ◌++◌, map}
use mathlib.Core.Option.{Option, none, some}
use Rattle.meaning.specs.Basics.{bytes_of_word}
use Rattle.meaning.specs.Rules.{Rule}
use Rattle.meaning.specs.Plan.{Plan}
use Rattle.meaning.specs.Compare.{Difference, left_only, right_only, both, differ, differences, entry, difference_bytes, count_in, comparison}
use Rattle.meaning.specs.Answers.{count_of}
use Rattle.meaning.specs.declared.Refusal.TheVariants.{Plan as NoPlan, Room}
use Rattle.std.specs.Prelude.{Ok, Err}
use Rattle.meaning.specs.Run.{file}
use Rattle.meaning.proofs.Computed.{everything, filter, new_rule, opening, relay, plain, s1, escape, behind, shown_count, sixty_four_rules, sixty_four_nested}

-- every definition that is computed with
sides : ℕ
unfolding everything differ differences entry
sides = 0

-- ENTRIES

-- "Two-byte numbers: high byte first"
pub high_first : bytes_of_word 258 ≡ 1 ∷ 2 ∷ []
high_first = refl

-- NATL 2/8 under set 257, and under set 0
abbrev rule_of : ℕ → Rule
rule_of n = record { code = filter 1 "2" 8; set = n }

-- "1 left, 2 right, 3 both; the filter in 19; the left and right set in 2 each, 65,535 for none"
pub entry_left : difference_bytes (left_only (rule_of 257)) ≡ 1 ∷ (filter 1 "2" 8 ++ (1 ∷ 1 ∷ 255 ∷ 255 ∷ []))
unfolding sides
entry_left = refl

pub entry_right : difference_bytes (right_only (rule_of 257)) ≡ 2 ∷ (filter 1 "2" 8 ++ (255 ∷ 255 ∷ 1 ∷ 1 ∷ []))
unfolding sides
entry_right = refl

pub entry_both : difference_bytes (both (rule_of 0) (rule_of 257)) ≡ 3 ∷ (filter 1 "2" 8 ++ (0 ∷ 0 ∷ 1 ∷ 1 ∷ []))
unfolding sides
entry_both = refl

-- WHAT IS LISTED: kind, left set and right set of each difference, 9 for none

abbrev shown : Difference → List ℕ
shown (left_only x) = 1 ∷ x.set ∷ 9 ∷ []
shown (right_only y) = 2 ∷ 9 ∷ y.set ∷ []
shown (both x y) = 3 ∷ x.set ∷ y.set ∷ []

abbrev listed_over : Option Plan → Option Plan → List ℕ
listed_over none q = []
listed_over (some p) none = []
listed_over (some p) (some q) = file (map shown (differences p q))

abbrev between : List (List ℕ) → List (List ℕ) → List ℕ
between ls rs = listed_over (behind ls) (behind rs)

-- an opening, sets 0 to 2 with classes 2 to 4 and no CA, and some rules
abbrev plan_with : List (List ℕ) → List (List ℕ)
plan_with rules = plain ∷ escape 0 2 ∷ escape 1 3 ∷ escape 2 4 ∷ rules

-- "list in listing order each filter held by the left only, by the right only, or by both with sets whose content differs": filters 1, 12, 2 with length 8,
-- 2, 3 and 4 of NATL, put in in another order; 12 and 4 are in both plans with equal sets
pub in_listing_order : between (plan_with (new_rule 1 "4" 0 0 ∷ new_rule 1 "3" 0 1 ∷ new_rule 1 "2" 8 2 ∷ new_rule 1 "12" 0 0 ∷ new_rule 1 "1" 0 0 ∷ []))
    (plan_with (new_rule 1 "12" 0 0 ∷ new_rule 1 "2" 0 1 ∷ new_rule 1 "2" 8 0 ∷ new_rule 1 "4" 0 0 ∷ [])) ≡ 1 ∷ 0 ∷ 9 ∷ 3 ∷ 2 ∷ 0 ∷ 2 ∷ 9 ∷ 1 ∷ 1 ∷ 1 ∷ 9 ∷ []
unfolding sides
in_listing_order = refl

-- "sets are compared by content and not by number": 1 under equal contents of sets 0 and 1, 2 under other contents of set 2
pub contents_compared : between (plain ∷ escape 0 2 ∷ escape 2 4 ∷ new_rule 1 "1" 0 0 ∷ new_rule 1 "2" 0 2 ∷ []) (plain ∷ escape 1 2 ∷ escape 2 5 ∷ new_rule 1 "1" 0 1 ∷ new_rule 1 "2" 0 2 ∷ [])
    ≡ 3 ∷ 2 ∷ 2 ∷ []
unfolding sides
contents_compared = refl

-- one list goes on where the other has ended
pub rest_listed : (between (plan_with (new_rule 1 "1" 0 0 ∷ [])) (plan_with (new_rule 1 "1" 0 0 ∷ new_rule 1 "2" 0 0 ∷ new_rule 1 "3" 0 1 ∷ []))
    ++ between (plan_with (new_rule 1 "2" 0 0 ∷ new_rule 1 "3" 0 1 ∷ [])) (plan_with [])) ≡ 2 ∷ 9 ∷ 0 ∷ 2 ∷ 9 ∷ 1 ∷ 1 ∷ 0 ∷ 9 ∷ 1 ∷ 1 ∷ 9 ∷ []
unfolding sides
rest_listed = refl

-- "settings are left aside", and so are the rooms and a set that no rule names
pub settings_aside : between (opening 8 8 "55" "" "" "" relay ∷ s1 0 ∷ new_rule 1 "" 0 0 ∷ []) (opening 4 9 "49" "12" "1" "2" (1 ∷ 2 ∷ 3 ∷ 4 ∷ []) ∷ s1 0 ∷ escape 3 1 ∷ new_rule 1 "" 0 0 ∷ []) ≡ []
unfolding sides
settings_aside = refl

-- a plan beside itself: nothing
pub beside_itself : between (plan_with (new_rule 1 "1" 0 0 ∷ new_rule 1 "2" 8 2 ∷ [])) (plan_with (new_rule 1 "1" 0 0 ∷ new_rule 1 "2" 8 2 ∷ [])) ≡ []
unfolding sides
beside_itself = refl

-- 64 rules beside 64 others, of which one has a filter of the first, with another set; both ways round
abbrev count_between : List (List ℕ) → List (List ℕ) → ℕ → List ℕ
count_between ls rs size = shown_count (count_in (comparison (behind ls) (behind rs) size))

pub sixty_four : (count_between sixty_four_rules sixty_four_nested 3048 ++ count_between sixty_four_nested sixty_four_rules 3048) ≡ 0 ∷ 127 ∷ 0 ∷ 127 ∷ []
unfolding sides
sixty_four = refl

-- THE CALL

-- "4 ROOM exactly if the entries don't all fit": 47 and 48 bytes for two entries, none for none
pub room_bound : (count_between (plan_with (new_rule 1 "1" 0 0 ∷ new_rule 1 "2" 0 0 ∷ [])) (plan_with []) 47
    ++ (count_between (plan_with (new_rule 1 "1" 0 0 ∷ new_rule 1 "2" 0 0 ∷ [])) (plan_with []) 48 ++ count_between (plan_with []) (plan_with []) 0)) ≡ 4 ∷ 0 ∷ 0 ∷ 2 ∷ 0 ∷ 0 ∷ []
unfolding sides
room_bound = refl

-- "3 PLAN if either isn't sound": the left, the right, both; and before ROOM
pub plan_refused : (shown_count (count_in (comparison none (behind (plan_with (new_rule 1 "1" 0 0 ∷ []))) 0)) ++ (shown_count (count_in (comparison (behind (plan_with (new_rule 1 "1" 0 0 ∷ []))) none 0))
    ++ shown_count (count_in (comparison none none 0)))) ≡ 3 ∷ 0 ∷ 3 ∷ 0 ∷ 3 ∷ 0 ∷ []
unfolding sides
plan_refused = refl

-- the answer's cases by their numbers
pub compared_numbers : file (map shown_count (count_of (Ok 5) ∷ count_of (Err NoPlan) ∷ count_of (Err Room) ∷ [])) ≡ 0 ∷ 5 ∷ 3 ∷ 0 ∷ 4 ∷ 0 ∷ []
compared_numbers = refl
