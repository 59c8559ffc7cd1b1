-- Tests, parts of lists, and the bytes that document 01's records are made of. Nothing here is particular to numbering plans.
use Rattle.std.specs.Prelude.{if◌then◌else◌, ℕ, ◌+◌, ◌-◌, ◌*◌, ◌/◌, ◌%◌, Bool, true, false, ◌&&◌, ◌||◌, List, [], ◌∷◌, ◌++◌, length, take, drop, get_or, replicate, leb, eqb}
use Rattle.std.proofs.Math.Option.{Option, none, some}

-- TESTS

abbrev pub is_zero : ℕ → Bool
is_zero n = eqb n 0

abbrev pub within : ℕ → ℕ → ℕ → Bool
within lo hi n = leb lo n && leb n hi

-- every one of some named rules holds
abbrev pub all_of : List Bool → Bool
all_of [] = true
all_of (b ∷ bs) = b && all_of bs

-- LISTS

module _ {A : Type 0} where
  abbrev pub all : (A → Bool) → List A → Bool
  all p [] = true
  all p (x ∷ xs) = p x && all p xs

  abbrev pub any : (A → Bool) → List A → Bool
  any p [] = false
  any p (x ∷ xs) = p x || any p xs

  abbrev pub count : (A → Bool) → List A → ℕ
  count p [] = 0
  count p (x ∷ xs) = (if p x then 1 else 0) + count p xs

  abbrev pub is_empty : List A → Bool
  is_empty [] = true
  is_empty (x ∷ xs) = false

  -- the n elements from place `at` on
  abbrev pub part : ℕ → ℕ → List A → List A
  part at n xs = take n (drop at xs)

  -- xs written at the front of a buffer: the elements behind them stay
  abbrev pub written_over : List A → List A → List A
  written_over xs buffer = xs ++ drop (length xs) buffer

  abbrev pub is_some : Option A → Bool
  is_some none = false
  is_some (some a) = true

abbrev pub contains : ℕ → List ℕ → Bool
contains x xs = any (eqb x) xs

-- the second list begins with the first
abbrev pub begins_with : List ℕ → List ℕ → Bool
begins_with [] ds = true
begins_with (p ∷ ps) [] = false
begins_with (p ∷ ps) (d ∷ ds) = eqb p d && begins_with ps ds

-- BYTES

-- the same bytes, one by one
abbrev pub same_bytes : List ℕ → List ℕ → Bool
same_bytes [] [] = true
same_bytes [] (y ∷ ys) = false
same_bytes (x ∷ xs) [] = false
same_bytes (x ∷ xs) (y ∷ ys) = eqb x y && same_bytes xs ys

-- "Two-byte numbers: high byte first": the one at place `at`
abbrev pub word : List ℕ → ℕ → ℕ
word b at = get_or b at 0 * 256 + get_or b (at + 1) 0

-- "Two-byte numbers: high byte first": the two bytes of one
abbrev pub bytes_of_word : ℕ → List ℕ
bytes_of_word n = n / 256 ∷ n % 256 ∷ []

-- C-11: "4 bytes, high byte first as in every number here": the number at place `at`
abbrev pub quad : List ℕ → ℕ → ℕ
quad b at = word b at * 65536 + word b (at + 2)

-- "A digit is 0 to 15, one per byte"
abbrev pub is_digit : ℕ → Bool
is_digit d = leb d 15

-- "Digit strings: length byte, then the full width": the digits
abbrev pub digits_of : List ℕ → List ℕ
digits_of [] = []
digits_of (n ∷ ds) = take n ds

-- "Unused bytes are 0": filled up to n bytes
abbrev pub padded : ℕ → List ℕ → List ℕ
padded n xs = xs ++ replicate (n - length xs) 0

-- it has lo to hi digits, each a digit; "Unused bytes are 0"
abbrev pub digits_in_range : ℕ → ℕ → List ℕ → Bool
digits_in_range lo hi [] = false
digits_in_range lo hi (n ∷ ds) = within lo hi n && (all is_digit (take n ds) && all is_zero (drop n ds))
