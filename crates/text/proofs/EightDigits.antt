-- Digits, a byte each in one number, that become text all at once.
use Prim.Native.Nat.{ℕ, zero, suc, ◌+◌, ◌*◌, ◌/◌, ◌%◌, ◌^◌, ◌≤◌, ◌<◌}
use mathlib.Core.Path.{◌≡◌, refl, ap, ◌∙◌}
use mathlib.Core.Bool.{Bool, true, false}
use mathlib.Core.List.{List, [], ◌∷◌, map}
use native.Mathlib.Omega.{arith}
use lib.Bits.{bit_and, and_block, and_mask, and_le_r}
use lib.Dec.{T, ltb, leb→le}
use lib.ListN.{length, replicate, length-map}
use borrow.Author.Tests.{ltb-true, ltb-false}
use Rattle.meaning.specs.Basics.{all, is_digit}
use Rattle.std.specs.Prelude.{if◌then◌else◌}
use Rattle.meaning.specs.Records.{digit_text}
use Rattle.meaning.proofs.Tests.{and_left, and_right}
use Rattle.blocks.specs.Endian.{little_endian, bytes_of}
use Rattle.blocks.proofs.EndianLaws.{Bytes, length_bytes, bytes_back, number_back}

-- the number that n bytes b give
abbrev pub each : ℕ → ℕ → ℕ
each n b = little_endian (replicate n b)

-- ONE DIGIT

-- the letters stand 39 places behind where the digits 0 to 9 would go on
by_letter : (d : ℕ) → d ≤ 15 → d + 48 + (d + 6) / 16 * 39 ≡ digit_text d
unfolding digit_text
by_letter d h = go (ltb d 10) refl
  where
    go : (b : Bool) → ltb d 10 ≡ b → d + 48 + (d + 6) / 16 * 39 ≡ if b then 48 + d else 87 + d
    go true e = let t : d < 10 = ltb-true d 10 e in omega arith
    go false e = let t : 10 ≤ d = ltb-false d 10 e in omega arith

module _ (d : ℕ) (ds : List ℕ) (t : T (all is_digit (d ∷ ds))) where
  first : d ≤ 15
  first = leb→le d 15 (and_left (is_digit d) (all is_digit ds) t)

  others : T (all is_digit ds)
  others = and_right (is_digit d) (all is_digit ds) t

-- MANY DIGITS

-- 1 in the byte of each of n digits that is a letter, and 0 in the others
unfoldable pub letters : ℕ → ℕ → ℕ
letters n x = bit_and ((x + each n 6) / 16) (each n 1)

pub letters_few : (n x : ℕ) → letters n x ≤ each n 1
unfolding letters
letters_few n x = and_le_r ((x + each n 6) / 16) (each n 1)

letters_none : letters 0 0 ≡ 0
unfolding letters little_endian
letters_none = refl

lowest_bit : (k b : ℕ) → b ≤ 1 → bit_and (k * 16 + b) 1 ≡ b
lowest_bit k b h = let e : (k * 16 + b) % 2 ≡ b = omega arith in and_mask (k * 16 + b) 1 ∙ e

-- division by 16 moves bits of the byte behind into this byte, none of them to its lowest bit
letters_more : (n x d : ℕ) → d ≤ 15 → letters (suc n) (x * 256 + d) ≡ letters n x * 256 + (d + 6) / 16
unfolding letters little_endian
letters_more n x d h =
    let y : ℕ = x + each n 6 in
    let bit : ℕ = (d + 6) / 16 in
    let low : ℕ = y % 16 * 16 + bit in
    let s : (x * 256 + d + (each n 6 * 256 + 6)) / 16 ≡ y / 16 * 2 ^ 8 + low = omega arith in
    ap (λ (z : ℕ). bit_and z (each n 1 * 256 + 1)) s
    ∙ (and_block 8 (y / 16) (each n 1) low 1 (omega arith) (omega arith) ∙ ap (λ (b : ℕ). bit_and (y / 16) (each n 1) * 256 + b) (lowest_bit (y % 16) bit (omega arith)))

texts_at_once : (ds : List ℕ) → T (all is_digit ds)
    → little_endian ds + each (length ds) 48 + letters (length ds) (little_endian ds) * 39 ≡ little_endian (map digit_text ds)
unfolding little_endian
texts_at_once [] t = rw letters_none
texts_at_once (d ∷ ds) t =
    let h : d ≤ 15 = first d ds t in
    omega (arith, letters_more (length ds) (little_endian ds) d h, by_letter d h, texts_at_once ds (others d ds t))

digits_below : (ds : List ℕ) → T (all is_digit ds) → little_endian ds ≤ each (length ds) 15
unfolding little_endian
digits_below [] t = omega arith
digits_below (d ∷ ds) t = omega (arith, first d ds t, digits_below ds (others d ds t))

text_bytes : (ds : List ℕ) → T (all is_digit ds) → Bytes (map digit_text ds)
text_bytes [] t k = omega arith
text_bytes (d ∷ ds) t zero = let h : d ≤ 15 = first d ds t in omega (arith, by_letter d h)
text_bytes (d ∷ ds) t (suc k) = text_bytes ds (others d ds t) k

-- EIGHT

module _ (x : ℕ) (small : x < 2 ^ 64) (t : T (all is_digit (bytes_of 8 x))) where
  back : little_endian (bytes_of 8 x) ≡ x
  back = number_back 8 x (omega arith)

  pub eight_below : x ≤ each 8 15
  eight_below = rw (length_bytes 8 x, back) at (digits_below (bytes_of 8 x) t)

  pub eight_texts : bytes_of 8 (x + each 8 48 + letters 8 x * 39) ≡ map digit_text (bytes_of 8 x)
  eight_texts =
      let n : length (map digit_text (bytes_of 8 x)) ≡ 8 = length-map (bytes_of 8 x) digit_text ∙ length_bytes 8 x in
      let e : x + each 8 48 + letters 8 x * 39 ≡ little_endian (map digit_text (bytes_of 8 x)) = rw (length_bytes 8 x, back) at (texts_at_once (bytes_of 8 x) t) in
      rw e (rw n at (bytes_back (map digit_text (bytes_of 8 x)) (text_bytes (bytes_of 8 x) t)))
