-- Places tested as one number: by the bits that they may not have.
use Prim.Native.Nat.{ℕ, zero, suc, ◌+◌, ◌-◌, ◌*◌, ◌/◌, ◌%◌, ◌≤◌, ◌<◌}
use mathlib.Core.Path.{◌≡◌, refl, sym, ap, ap₂, ◌∙◌}
use mathlib.Core.List.{List, [], ◌∷◌}
use mathlib.Core.Bool.{Bool, ◌&&◌}
use native.Mathlib.Nat.{mod-eq_of_lt, le_refl, le_of_suc-le-suc, sub-zero, zero-sub, suc-sub-suc}
use native.Mathlib.Omega.{arith}
use lib.Bits.{bit_and, and_block, and_mask, and_high}
use lib.ListN.{length, take, drop, length-drop}
use lib.Seq.{length-take-le}
use borrow.Rule.Slice.PartMut.{mid_of}
use lib.Dec.{eqb, eqb→eq, leb→le}
use borrow.Author.Tests.{eq-eqb, le-leb}
use Rattle.meaning.specs.Basics.{is_zero, is_digit}
use Rattle.meaning.proofs.Tests.{same_tests, true_is, and_left, and_right, and_both}
use Rattle.blocks.specs.Endian.{little_endian}
use Rattle.blocks.specs.Places.{places_pass, masks, mask_table, disjoint}
use Rattle.blocks.proofs.EndianLaws.{Bytes, bytes_front, bytes_behind}
use Rattle.buffer.proofs.ListLaws.{rest_is}

digit_bits : (x : ℕ) → x < 256 → eqb (bit_and x 240) 0 ≡ is_digit x
digit_bits x h =
    let m : x / 16 % 16 ≡ x / 16 = mod-eq_of_lt (omega arith) in
    let e : bit_and x 240 ≡ x / 16 % 16 * 16 = and_high x 4 4 in
    same_tests (eqb (bit_and x 240) 0) (is_digit x)
    (λ t. let z : bit_and x 240 ≡ 0 = eqb→eq (bit_and x 240) 0 t in true_is (is_digit x) (le-leb x 15 (omega arith)))
    (λ t. let z : x ≤ 15 = leb→le x 15 t in true_is (eqb (bit_and x 240) 0) (eq-eqb (bit_and x 240) 0 (omega arith)))

unused_bits : (x : ℕ) → x < 256 → eqb (bit_and x 255) 0 ≡ is_zero x
unused_bits x h = let e : bit_and x 255 ≡ x = and_mask x 8 ∙ mod-eq_of_lt h in rw e

-- no bit of the two numbers in common: of their lowest bytes, and of the rest
bits_next : (a b x m : ℕ) → x < 256 → m < 256 → eqb (bit_and (a * 256 + x) (b * 256 + m)) 0 ≡ (eqb (bit_and x m) 0 && eqb (bit_and a b) 0)
bits_next a b x m h k = ap (λ (y : ℕ). eqb y 0) (and_block 8 a b x m h k) ∙ go (bit_and a b) (bit_and x m)
  where
    go : (p q : ℕ) → eqb (p * 256 + q) 0 ≡ (eqb q 0 && eqb p 0)
    go p q =
        same_tests (eqb (p * 256 + q) 0) (eqb q 0 && eqb p 0)
        (λ t. let z : p * 256 + q ≡ 0 = eqb→eq (p * 256 + q) 0 t in
        and_both (eqb q 0) (eqb p 0) (true_is (eqb q 0) (eq-eqb q 0 (omega arith))) (true_is (eqb p 0) (eq-eqb p 0 (omega arith))))
        (λ t. let y : q ≡ 0 = eqb→eq q 0 (and_left (eqb q 0) (eqb p 0) t) in
        let z : p ≡ 0 = eqb→eq p 0 (and_right (eqb q 0) (eqb p 0) t) in
        true_is (eqb (p * 256 + q) 0) (eq-eqb (p * 256 + q) 0 (omega arith)))

-- bytes are disjoint exactly if their numbers are
bits_disjoint : (xs ms : List ℕ) → length ms ≡ length xs → Bytes xs → Bytes ms → eqb (bit_and (little_endian xs) (little_endian ms)) 0 ≡ disjoint xs ms
unfolding little_endian
bits_disjoint [] [] l h k = refl
bits_disjoint [] (m ∷ ms) l h k = absurd (omega arith)
bits_disjoint (x ∷ xs) [] l h k = absurd (omega arith)
bits_disjoint (x ∷ xs) (m ∷ ms) l h k =
    bits_next _ _ x m (h 0) (k 0) ∙ ap (λ (b : Bool). eqb (bit_and x m) 0 && b) (bits_disjoint xs ms (omega arith) (λ j. h (suc j)) (λ j. k (suc j)))

-- the eight bytes at the front of two parts, by the numbers that they give
pub block_bits : (s ms : List ℕ) (x m : ℕ) → 8 ≤ length s → 8 ≤ length ms → Bytes s → Bytes ms → x ≡ little_endian (take 8 s) → m ≡ little_endian (take 8 ms)
    → eqb (bit_and x m) 0 ≡ disjoint (take 8 s) (take 8 ms)
block_bits s ms x m h k s-bytes ms-bytes x-is m-is =
    let l : length (take 8 ms) ≡ length (take 8 s) = length-take-le 8 ms k ∙ sym (length-take-le 8 s h) in
    ap₂ (λ (a b : ℕ). eqb (bit_and a b) 0) x-is m-is ∙ bits_disjoint (take 8 s) (take 8 ms) l (bytes_front 8 s s-bytes) (bytes_front 8 ms ms-bytes)

-- places pass that have no bit of their masks
masks_pass : (n : ℕ) (xs : List ℕ) → Bytes xs → disjoint xs (masks n (length xs)) ≡ places_pass n xs
unfolding masks
masks_pass n [] h = refl
masks_pass zero (x ∷ xs) h = ap₂ ◌&&◌ (unused_bits x (h 0)) (masks_pass zero xs (λ k. h (suc k)))
masks_pass (suc n) (x ∷ xs) h = ap₂ ◌&&◌ (digit_bits x (h 0)) (masks_pass n xs (λ k. h (suc k)))

-- PARTS OF THE MASKS

pub length_masks : (n w : ℕ) → length (masks n w) ≡ w
unfolding masks
length_masks n zero = refl
length_masks zero (suc w) = ap suc (length_masks zero w)
length_masks (suc n) (suc w) = ap suc (length_masks n w)

-- the first k places
masks_take : (k n w : ℕ) → k ≤ w → take k (masks n w) ≡ masks n k
unfolding masks
masks_take zero n w h = refl
masks_take (suc k) n zero h = absurd (omega arith)
masks_take (suc k) zero (suc w) h = ap (λ (ms : List ℕ). 255 ∷ ms) (masks_take k zero w (le_of_suc-le-suc h))
masks_take (suc k) (suc n) (suc w) h = ap (λ (ms : List ℕ). 240 ∷ ms) (masks_take k n w (le_of_suc-le-suc h))

-- the places from k on, of which k digits fewer are left
masks_drop : (k n w : ℕ) → drop k (masks n w) ≡ masks (n - k) (w - k)
unfolding masks
masks_drop zero n w = ap₂ masks (sym (sub-zero n)) (sym (sub-zero w))
masks_drop (suc k) n zero = rw zero-sub
masks_drop (suc k) zero (suc w) = masks_drop k zero w ∙ rw (zero-sub, zero-sub, suc-sub-suc)
masks_drop (suc k) (suc n) (suc w) = masks_drop k n w ∙ ap₂ masks (sym (suc-sub-suc n k)) (sym (suc-sub-suc w k))

-- A WINDOW INTO THE TABLE

-- from 32 - n on it has the masks of n digits, and then those of 32 unused places
window_is : (n : ℕ) (t : List ℕ) → t ≡ mask_table → n ≤ 32 → mid_of (32 - n) (64 - (32 - n)) t ≡ masks n (32 + n)
unfolding mask_table
window_is n t t-is h =
    let a : 32 - (32 - n) ≡ n = omega arith in
    let b : 64 - (32 - n) ≡ 32 + n = omega arith in
    rw (t-is, masks_drop (32 - n) 32 64, a, b) (masks_take (32 + n) n (32 + n) (le_refl (32 + n)))

-- b is what the test of the eight places from i on gave, which were lent with all that is behind them, as their masks were
pub window_pass : (n i : ℕ) (s t : List ℕ) (b : Bool) → t ≡ mask_table → n ≤ 32 → length s ≤ 32 → i + 8 ≤ length s → Bytes s
    → let w = mid_of (32 - n) (64 - (32 - n)) t in b ≡ disjoint (take 8 (mid_of i (length s - i) s)) (take 8 (mid_of i (length w - i) w))
    → b ≡ places_pass (n - i) (take 8 (drop i s))
window_pass n i s t b t-is few wide inside bytes b-is =
    let xs = take 8 (drop i s) in
    let l : length xs ≡ 8 = length-take-le 8 (drop i s) (rw length-drop (omega arith)) in
    let m : take 8 (drop i (masks n (32 + n))) ≡ masks (n - i) (length xs) = rw (l, masks_drop i n (32 + n)) (masks_take 8 (n - i) (32 + n - i) (omega arith)) in
    b-is ∙ (rw (rest_is i s, rest_is i _, window_is n t t-is few, m) (masks_pass (n - i) xs (bytes_front 8 (drop i s) (bytes_behind i s bytes))))
