-- Digits as text, one by one and eight at a time.
use Prim.Native.Nat.{ℕ, zero, suc, ◌+◌, ◌-◌, ◌≤◌, ◌<◌}
use mathlib.Core.Path.{◌≡◌, refl, sym, ap, ◌∙◌}
use mathlib.Core.List.{List, [], ◌∷◌, ◌++◌, map}
use native.Mathlib.Nat.{not-suc-le-zero, le_of_suc-le-suc}
use native.Mathlib.Omega.{arith}
use lib.Dec.{T}
use lib.ListN.{length, take, drop, get_or, set, length-append, length-map}
use lib.Seq.{take-take}
use borrow.Rule.Slice.PartMut.{put_mid, mid_of}
use Rattle.meaning.specs.Basics.{all, is_digit, written_over}
use Rattle.meaning.specs.Records.{digit_text, digits_text, prefix_text}
use Rattle.meaning.proofs.Tests.{all_take, all_drop}
use Rattle.buffer.proofs.Moves.{Seam, seam_none, seam_more, seam_all}
use Rattle.blocks.proofs.OverLaws.{seam_block}
use Rattle.buffer.proofs.ListLaws.{map_take, map_drop}
use Rattle.text.specs.Writes.{Writes, digits_or}
use Rattle.text.proofs.Lines.{named, byte_behind}

text_at : (xs : List ℕ) (i : ℕ) → i < length xs → get_or (map digit_text xs) i 0 ≡ digit_text (get_or xs i 0)
text_at [] i h = absurd (not-suc-le-zero h)
text_at (x ∷ xs) zero h = refl
text_at (x ∷ xs) (suc i) h = text_at xs i (le_of_suc-le-suc h)

-- ONE TURN that writes the digit at place i

pub texts_none : (ds out : List ℕ) → length ds ≤ length out → Seam (map digit_text ds) out 0 out
texts_none ds out h = seam_none (map digit_text ds) out (rw (length-map ds digit_text) h)

module _ (ds : List ℕ) {i : ℕ} where
  pub texts_more : {out s : List ℕ} {v : ℕ} → Seam (map digit_text ds) out i s → i < length ds → v ≡ digit_text (get_or ds i 0)
      → Seam (map digit_text ds) out (i + 1) (set s i v)
  texts_more {out} {s} {v} g h e = seam_more v g (rw (length-map ds digit_text) h) (e ∙ sym (text_at ds i h))

  pub texts_all : {out s : List ℕ} → Seam (map digit_text ds) out i s → length ds ≤ i → s ≡ written_over (map digit_text ds) out
  texts_all g h = seam_all g (rw (length-map ds digit_text) h)

-- EIGHT AT A TIME

-- the eight digits from place j on, as a writer is lent them
abbrev pub block_at : ℕ → List ℕ → List ℕ
block_at j ds = take 8 (take (length ds - j) (drop j ds))

pub block_digits : (j : ℕ) (ds : List ℕ) → T (all is_digit ds) → T (all is_digit (block_at j ds))
block_digits j ds t = all_take is_digit 8 (take (length ds - j) (drop j ds)) (all_take is_digit (length ds - j) (drop j ds) (all_drop is_digit j ds t))

pub block_written : (j : ℕ) (ds : List ℕ) {out s : List ℕ} {i : ℕ} → Seam (map digit_text ds) out i s → j ≤ i → i ≤ j + 8 → j + 8 ≤ length ds
    → {last : List ℕ} → last ≡ written_over (map digit_text (block_at j ds)) (mid_of j (length s - j) s)
    → Seam (map digit_text ds) out (j + 8) (put_mid j (length s - j) s last)
block_written j ds {out} {s} {i} g seen new inside {last} e =
    let b : map digit_text (block_at j ds) ≡ take 8 (drop j (map digit_text ds)) =
    map_take digit_text 8 (take (length ds - j) (drop j ds)) ∙ rw (map_take, map_drop, take-take 8 (length ds - j) (drop j (map digit_text ds)) (omega arith)) in
    seam_block g j 8 seen new (rw (length-map ds digit_text) inside) (e ∙ ap (λ (x : List ℕ). written_over x (mid_of j (length s - j) s)) b)

-- THE DIGITS AND THE BYTE BEHIND THEM

digits_some : (none : ℕ) (ds : List ℕ) → 0 < length ds → digits_or none ds ≡ map digit_text ds
digits_some none [] h = absurd (not-suc-le-zero h)
digits_some none (d ∷ ds) h = refl

module _ (none behind : ℕ) (ds out : List ℕ) where
  pub some_digits : (length ds ≡ 0 → ⊥) → length ds < length out → {after : List ℕ} → after ≡ written_over (map digit_text ds) out
      → Writes (digits_or none ds ++ behind ∷ []) out (set after (length ds) behind) (length ds + 1)
  some_digits z h {after} e =
      let l : length (map digit_text ds) ≡ length ds = length-map ds digit_text in
      let w : Writes (map digit_text ds) out after (length ds) = record { count_is = sym l; buffer_is = e; inside = omega arith } in
      named (rw (digits_some none ds (omega (arith, z)))) (byte_behind w behind h)

pub digits_short : (none behind : ℕ) (ds : List ℕ) → length (digits_or none ds ++ behind ∷ []) ≤ length ds + 2
digits_short none behind [] = omega arith
digits_short none behind (d ∷ ds) = rw (length-append, length-map) (omega arith)

-- by document 01's names
pub digits_is : (ds : List ℕ) → digits_or 45 ds ≡ digits_text ds
digits_is [] = refl
digits_is (d ∷ ds) = refl

pub prefix_is : (ds : List ℕ) → digits_or 42 ds ≡ prefix_text ds
prefix_is [] = refl
prefix_is (d ∷ ds) = refl
