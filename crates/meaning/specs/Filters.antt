-- Document 01, "Filters and the choice": which numbers a filter fits, how specific it is, and the listing order.
use Prim.Native.Nat.{ℕ, zero, suc, ◌+◌, ◌*◌, compare, Ordering}
use Rattle.std.specs.Prelude.{Bool, true, false, ◌&&◌, ◌||◌, List, [], ◌∷◌, length, get_or, leb, eqb}
use Rattle.std.proofs.Math.Dec.{compare_is_eq}
use Rattle.meaning.specs.Sizes.{CLASS-AT, PREFIX-AT, LENGTH-AT}
use Rattle.meaning.specs.Basics.{all_of, is_zero, part, digits_of, digits_in_range, begins_with}
use Rattle.meaning.specs.Settings.{is_class}

-- "A filter is a class, a prefix of 0 to 16 digits (0: wildcard) and a length of 1 to 32 (0: wildcard)"
pub record Filter : Type 0 where
  pub class : ℕ
  pub prefix : List ℕ
  pub len : ℕ

-- the bytes of a filter: "class 1, prefix 1+16, length 1"
unfoldable pub filter_of : List ℕ → Filter
filter_of b = record { class = get_or b CLASS-AT 0; prefix = digits_of (part PREFIX-AT 17 b); len = get_or b LENGTH-AT 0 }

-- RANGE; "A stated length is at least the prefix's length"
abbrev pub filter_ranges : List ℕ → List Bool
filter_ranges b =
    is_class (get_or b CLASS-AT 0) ∷ digits_in_range 0 16 (part PREFIX-AT 17 b) ∷ leb (get_or b LENGTH-AT 0) 32
    ∷ (is_zero (get_or b LENGTH-AT 0) || leb (get_or b PREFIX-AT 0) (get_or b LENGTH-AT 0)) ∷ []

unfoldable pub filter_in_range : List ℕ → Bool
filter_in_range b = all_of (filter_ranges b)

-- FIT

-- "the length is wildcard or the number's own"
abbrev pub length_fits : ℕ → ℕ → Bool
length_fits zero n = true
length_fits (suc l) n = eqb (suc l) n

-- "It fits a number if the classes are equal, the number begins with the prefix", and the length fits
unfoldable pub fits_number : Filter → ℕ → List ℕ → Bool
fits_number f class ds = eqb f.class class && (begins_with f.prefix ds && length_fits f.len (length ds))

-- SPECIFICITY

-- 1 for a stated length, 0 for the wildcard
abbrev pub stated : ℕ → ℕ
stated zero = 0
stated (suc l) = 1

-- "the longest prefix wins; for the same prefix a stated length beats the wildcard": the larger number wins
unfoldable pub rank : Filter → ℕ
rank f = 2 * length f.prefix + stated f.len

-- LISTING ORDER

-- where the first comparison finds no difference, the second decides
infixr 40 ◌then◌
abbrev pub ◌then◌ : Ordering → Ordering → Ordering
Ordering.lt then o = Ordering.lt
Ordering.eq then o = o
Ordering.gt then o = Ordering.gt

-- "prefix as digits, the shorter first where one begins the other"
abbrev pub compare_prefixes : List ℕ → List ℕ → Ordering
compare_prefixes [] [] = Ordering.eq
compare_prefixes [] (y ∷ ys) = Ordering.lt
compare_prefixes (x ∷ xs) [] = Ordering.gt
compare_prefixes (x ∷ xs) (y ∷ ys) = compare x y then compare_prefixes xs ys

-- "stated lengths rising, the wildcard last"
abbrev pub compare_lengths : ℕ → ℕ → Ordering
compare_lengths zero zero = Ordering.eq
compare_lengths zero (suc m) = Ordering.gt
compare_lengths (suc l) zero = Ordering.lt
compare_lengths (suc l) (suc m) = compare (suc l) (suc m)

-- "class rising; then prefix ..; then stated lengths"
unfoldable pub compare_filters : Filter → Filter → Ordering
compare_filters f g =
    compare f.class g.class then (compare_prefixes f.prefix g.prefix then compare_lengths f.len g.len)

abbrev pub is_lt : Ordering → Bool
is_lt Ordering.lt = true
is_lt Ordering.eq = false
is_lt Ordering.gt = false

abbrev pub is_before : Filter → Filter → Bool
is_before f g = is_lt (compare_filters f g)

abbrev pub is_same : Filter → Filter → Bool
is_same f g = compare_is_eq (compare_filters f g)
