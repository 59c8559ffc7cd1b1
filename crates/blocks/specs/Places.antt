-- The places of a digit string behind its length byte: digits, and unused ones.
use Rattle.std.specs.Prelude.{ℕ, zero, suc, Bool, true, ◌&&◌, List, [], ◌∷◌, eqb}
use Rattle.std.specs.Int.Bits.{bit_and}
use Rattle.meaning.specs.Basics.{is_zero, is_digit}

-- a digit at each of the first n places, and 0 from there on
abbrev pub places_pass : ℕ → List ℕ → Bool
places_pass n [] = true
places_pass zero (x ∷ xs) = is_zero x && places_pass zero xs
places_pass (suc n) (x ∷ xs) = is_digit x && places_pass n xs

-- the bits that w places may not have: the high four of each of the first n, and all from there on
unfoldable pub masks : ℕ → ℕ → List ℕ
masks n zero = []
masks zero (suc w) = 255 ∷ masks zero w
masks (suc n) (suc w) = 240 ∷ masks n w

-- the masks of 32 digits and 32 unused places
unfoldable pub mask_table : List ℕ
mask_table = masks 32 64

-- no byte has a bit in common with the one at its place
abbrev pub disjoint : List ℕ → List ℕ → Bool
disjoint [] ms = true
disjoint (x ∷ xs) [] = true
disjoint (x ∷ xs) (m ∷ ms) = eqb (bit_and x m) 0 && disjoint xs ms
