-- Document 01's group rules, each under its own name, and the fit of a rule and a set.
use Rattle.std.specs.Prelude.{ℕ, zero, suc, ◌+◌, Bool, true, ◌&&◌, ◌||◌, not, List, [], ◌∷◌, length, drop, get_or, leb, ltb, eqb}
use Rattle.meaning.specs.Basics.{all, any, count, all_of, is_empty, is_zero, contains}
use Rattle.std.specs.Prelude.{if◌then◌else◌}
use Rattle.meaning.specs.Filters.{Filter}
use Rattle.meaning.specs.Actions.{CC, AC, SN, DN, ZN, SP, ASD, GRN, LAST-CONDITIONED, CDPNNP, ASDLKUP, GRNLKUP, LAST-COUNTED, CA, is_x, is_fpfx, is_ccdef, value_of, sets_value, ActionSet}

-- GROUP RULES

-- some CA sets value v
abbrev pub is_set : ℕ → List CA → Bool
is_set v xs = any (sets_value v) xs

-- "With no CA there are no SA and no FA: the number escapes"
unfoldable pub nothing_without_ca : ActionSet → Bool
nothing_without_ca s = not (is_empty s.cas) || (is_empty s.sas && is_empty s.fas)

-- "ZN without CC, AC, SN, DN; CC and DN without ZN, AC, SN; or CC, AC and SN without ZN, DN": by which of CC, AC, SN, DN, ZN are set
unfoldable pub one_format : Bool → Bool → Bool → Bool → Bool → Bool
one_format cc ac sn dn zn =
    all_of (zn ∷ not cc ∷ not ac ∷ not sn ∷ not dn ∷ [])
    || (all_of (cc ∷ dn ∷ not zn ∷ not ac ∷ not sn ∷ [])
    || all_of (cc ∷ ac ∷ sn ∷ not zn ∷ not dn ∷ []))

-- "Otherwise exactly one international format stands"
unfoldable pub format_stands : List CA → Bool
format_stands xs = is_empty xs || one_format (is_set CC xs) (is_set AC xs) (is_set SN xs) (is_set DN xs) (is_set ZN xs)

-- "Each value is set by at most one CA ..  IGN may repeat": no later CA sets the same value
abbrev pub each_value_once : List CA → Bool
each_value_once [] = true
each_value_once (a ∷ xs) = (is_zero (value_of a.code) || not (is_set (value_of a.code) xs)) && each_value_once xs

-- "FPFX stands first"
unfoldable pub fpfx_first : List CA → Bool
fpfx_first xs = not (any is_fpfx (drop 1 xs))

-- "At most one X action"
unfoldable pub one_x_action : List CA → Bool
one_x_action xs = leb (count is_x xs) 1

-- "after it only CCDEF"
abbrev pub only_ccdef_after_x : List CA → Bool
only_ccdef_after_x [] = true
only_ccdef_after_x (a ∷ xs) = if is_x a then all is_ccdef xs else only_ccdef_after_x xs

-- "SA with precedence: 1 INPRTG 95, 2 CDPNNP 80, 3 ASDLKUP 50, 4 GRNLKUP 50, 5 CDIAL 20"
unfoldable pub precedence : ℕ → ℕ
precedence c = get_or (0 ∷ 95 ∷ 80 ∷ 50 ∷ 50 ∷ 20 ∷ []) c 0

-- none rises over the one before it, p being that of the SA before
abbrev pub never_rises_from : ℕ → List ℕ → Bool
never_rises_from p [] = true
never_rises_from p (c ∷ cs) = leb (precedence c) p && never_rises_from (precedence c) cs

-- "SA precedence never rises along the list"
abbrev pub precedence_never_rises : List ℕ → Bool
precedence_never_rises [] = true
precedence_never_rises (c ∷ cs) = never_rises_from (precedence c) cs

-- "no SA repeats"
abbrev pub no_service_repeats : List ℕ → Bool
no_service_repeats [] = true
no_service_repeats (c ∷ cs) = not (contains c cs) && no_service_repeats cs

-- "An FA from 1 to 10 needs a CA that sets it; RN and SP need CDPNNP, ASD needs ASDLKUP, GRN needs GRNLKUP"
unfoldable pub is_backed : ActionSet → ℕ → Bool
is_backed s f =
    if leb f LAST-CONDITIONED then is_set f s.cas else
    if leb f SP then contains CDPNNP s.sas else
    if eqb f ASD then contains ASDLKUP s.sas else
    if eqb f GRN then contains GRNLKUP s.sas else true

unfoldable pub formatting_backed : ActionSet → Bool
formatting_backed s = all (is_backed s) s.fas

abbrev pub group_rules : ActionSet → List Bool
group_rules s =
    nothing_without_ca s ∷ format_stands s.cas ∷ each_value_once s.cas ∷ fpfx_first s.cas ∷ one_x_action s.cas ∷ only_ccdef_after_x s.cas
    ∷ precedence_never_rises s.sas ∷ no_service_repeats s.sas ∷ formatting_backed s ∷ []

-- GROUPS: "a group rule broken" is where this is false
unfoldable pub groups_hold : ActionSet → Bool
groups_hold s = all_of (group_rules s)

-- FIT

-- what a CA takes for certain, whatever is left: its count for codes 1 to 10, the prefix for FPFX, nothing for an X action and CCDEF
abbrev pub fixed_of : ℕ → CA → ℕ
fixed_of prefix a = if leb a.code LAST-COUNTED then a.count else if is_fpfx a then prefix else 0

-- "F the sum of fixed counts and of the prefix length for FPFX"
abbrev pub fixed_sum : ℕ → List CA → ℕ
fixed_sum prefix [] = 0
fixed_sum prefix (a ∷ xs) = fixed_of prefix a + fixed_sum prefix xs

-- "FPFX, where present, meets a prefix of at least one digit"
unfoldable pub fpfx_meets_prefix : ℕ → List CA → Bool
fpfx_meets_prefix prefix xs = not (any is_fpfx xs) || not (is_zero prefix)

-- "a stated length L has F = L without an X action and F < L with one; a wildcard length has an X action and F at most 31"
abbrev pub sum_fits : ℕ → Bool → ℕ → Bool
sum_fits zero x f = x && leb f 31
sum_fits (suc l) x f = if x then ltb f (suc l) else eqb f (suc l)

-- "A rule and a set fit if the set has no CA, or all of this holds": over the prefix's length, the stated length and the CAs
unfoldable pub cas_fit : ℕ → ℕ → List CA → Bool
cas_fit prefix len xs = is_empty xs || (fpfx_meets_prefix prefix xs && sum_fits len (any is_x xs) (fixed_sum prefix xs))

unfoldable pub fit : Filter → ActionSet → Bool
fit f s = cas_fit (length f.prefix) f.len s.cas
