-- Bytes and the number that they give.
use Prim.Native.Nat.{ℕ, zero, suc, ◌+◌, ◌*◌, ◌/◌, ◌%◌, ◌^◌, ◌≤◌, ◌<◌}
use mathlib.Core.Path.{◌≡◌, refl, sym, ap, ◌∙◌}
use mathlib.Core.List.{List, [], ◌∷◌}
use native.Mathlib.Nat.{pow-suc, div-div-eq-div-mul, div-one}
use native.Mathlib.Omega.{arith}
use lib.ListN.{length, take, drop, get_or}
use lib.Seq.{take-nil, get_or-drop, length-take-le}
use Rattle.std.specs.Int.{from_le_bytes, to_le_bytes, byte_at, bytes_low_first}
use mir.Syntax.{w64}
use Rattle.blocks.specs.Endian.{little_endian, bytes_of}

-- each element is a byte
abbrev pub Bytes : List ℕ → Type 0
Bytes xs = (k : ℕ) → get_or xs k 0 < 256

pub bytes_front : (n : ℕ) (s : List ℕ) → Bytes s → Bytes (take n s)
bytes_front zero s h k = omega arith
bytes_front (suc n) [] h k = h k
bytes_front (suc n) (x ∷ s) h zero = h 0
bytes_front (suc n) (x ∷ s) h (suc k) = bytes_front n s (λ j. h (suc j)) k

pub bytes_behind : (n : ℕ) (s : List ℕ) → Bytes s → Bytes (drop n s)
bytes_behind n s h k = rw get_or-drop (h (n + k))

-- LENGTHS

pub length_bytes : (n x : ℕ) → length (bytes_of n x) ≡ n
unfolding bytes_of
length_bytes zero x = refl
length_bytes (suc n) x = ap suc (length_bytes n (x / 256))

-- READ BACK

-- the bytes of the number that bytes give are these bytes
pub bytes_back : (xs : List ℕ) → Bytes xs → bytes_of (length xs) (little_endian xs) ≡ xs
unfolding little_endian bytes_of
bytes_back [] h = refl
bytes_back (x ∷ xs) h =
    let small : x < 256 = h 0 in
    let low : (little_endian xs * 256 + x) % 256 ≡ x = omega arith in
    let high : (little_endian xs * 256 + x) / 256 ≡ little_endian xs = omega arith in
    rw (low, high, bytes_back xs (λ k. h (suc k)))

-- the number of the bytes of a number is that number
pub number_back : (n x : ℕ) → x < 256 ^ n → little_endian (bytes_of n x) ≡ x
unfolding little_endian bytes_of
number_back zero x h = omega arith
number_back (suc n) x h =
    let p : 256 ^ suc n ≡ 256 ^ n * 256 = pow-suc 256 n in
    let k : x / 256 < 256 ^ n = omega arith in
    omega (arith, number_back n (x / 256) k)

pub block_back : (s : List ℕ) (x : ℕ) → 8 ≤ length s → Bytes s → x ≡ little_endian (take 8 s) → bytes_of 8 x ≡ take 8 s
block_back s x h bytes e =
    let l : length (take 8 s) ≡ 8 = length-take-le 8 s h in
    let b : bytes_of (length (take 8 s)) (little_endian (take 8 s)) ≡ take 8 s = bytes_back (take 8 s) (bytes_front 8 s bytes) in
    ap (bytes_of 8) e ∙ (ap (λ (n : ℕ). bytes_of n (little_endian (take 8 s))) (sym l) ∙ b)

-- AS THE LIBRARY COUNTS

-- n + 1 bytes from place i on: the one there, and those behind it
number_next : (n i : ℕ) (s : List ℕ) → little_endian (take (suc n) (drop i s)) ≡ little_endian (take n (drop (suc i) s)) * 256 + get_or s i 0
unfolding little_endian
number_next n zero [] = rw take-nil
number_next n (suc i) [] = rw take-nil
number_next n zero (x ∷ s) = refl
number_next n (suc i) (x ∷ s) = number_next n i s

pub eight_is : (s : List ℕ) → from_le_bytes w64 s ≡ little_endian (take 8 s)
unfolding little_endian
eight_is s = omega (arith, number_next 7 0 s, number_next 6 1 s, number_next 5 2 s, number_next 4 3 s, number_next 3 4 s, number_next 2 5 s, number_next 1 6 s, number_next 0 7 s)

byte_is : (i x : ℕ) → byte_at i x ≡ x / 256 ^ i % 256
byte_is zero x = rw (div-one)
byte_is (suc i) x = refl

low_first : (n i x : ℕ) → bytes_low_first i n x ≡ bytes_of n (x / 256 ^ i)
unfolding bytes_of
low_first zero i x = refl
low_first (suc n) i x = rw (byte_is i x, low_first n (suc i) x, div-div-eq-div-mul, pow-suc)

pub eight_bytes : (x : ℕ) → to_le_bytes w64 x ≡ bytes_of 8 x
eight_bytes x = low_first 8 0 x ∙ rw (div-one)
