-- Where the values to send lie in a source.
use Prim.Native.Nat.{ℕ, ◌+◌, ◌≤◌, ◌<◌}
use mathlib.Core.Path.{◌≡◌, refl, sym, ap, subst, ◌∙◌}
use mathlib.Core.List.{List, [], ◌++◌, append_assoc}
use native.Mathlib.Numerals.{add-one}
use native.Mathlib.Omega.{arith}
use lib.ListN.{length, take, drop, get_or, length-append, length-take, length-drop}
use lib.Seq.{take_all, take-take, take-add, take_at, drop_at, take-append-le, drop-append-le, drop-drop, drop-cons, get_or-take, get_or-drop, length-take-le}
use Rattle.meaning.specs.Sizes.{SETTINGS-BYTES, DIALLED-DIGITS-AT, LOOKUP-AT, LOOKUP-BYTES, VALUE-BYTES}
use Rattle.meaning.specs.Basics.{part, digits_of, written_over}
use Rattle.meaning.specs.declared.Span.{Span}
use Rattle.buffer.proofs.ListLaws.{part_part}
use Rattle.formatting.specs.Sources.{SOURCE-BYTES, LAST-STRING, settings_in, lookup_in, digits_in, Lies}

-- PARTS OF A SOURCE

-- a part of a part
pub part_within : (a n b k : ℕ) (s : List ℕ) → a + n ≤ k → part a n (part b k s) ≡ part (b + a) n s
part_within a n b k s h = part_part a n k (drop b s) h ∙ ap (take n) (drop-drop a b s)

pub kind_in : (source : List ℕ) → get_or (lookup_in source) 0 0 ≡ get_or source LOOKUP-AT 0
kind_in source = get_or-take LOOKUP-BYTES (drop LOOKUP-AT source) 0 0 (omega arith) ∙ get_or-drop LOOKUP-AT source 0 0

-- VALUES

pub lies_as : {v w source : List ℕ} {r : Span} → v ≡ w → Lies v source r → Lies w source r
lies_as {v} {w} {source} {r} e l = subst (λ (x : List ℕ). Lies x source r) e l

pub nothing_lies : (source : List ℕ) → Lies [] source (record { start = 0; count = 0 })
nothing_lies source = record { is = refl; count = refl; low = omega arith; few = omega arith }

-- a digit string of so many places, whose length byte is n: past its width, or within it
module _ (source : List ℕ) (at width n : ℕ) (room : at + width < length source) (low : at ≤ LAST-STRING) (few : width ≤ 32) (n-is : n ≡ get_or source at 0) where
  string_is : digits_of (part at (width + 1) source) ≡ take n (part (at + 1) width source)
  string_is =
      rw (add-one width, drop-cons source at 0 (omega arith), ← n-is) (ap (λ (k : ℕ). take n (take width (drop k source))) (sym (add-one at)))

  lies_at : (k : ℕ) → k ≤ width → digits_of (part at (width + 1) source) ≡ part (at + 1) k source → Lies (digits_of (part at (width + 1) source)) source (record { start = at + 1; count = k })
  lies_at k h e =
      record {
        is = sym e;
        count = sym (ap length e ∙ length-take-le k (drop (at + 1) source) (rw length-drop (omega arith)));
        low = omega arith;
        few = omega arith;
      }

  pub string_full : width < n → Lies (digits_of (part at (width + 1) source)) source (record { start = at + 1; count = width })
  string_full h = lies_at width (omega arith) (string_is ∙ take_all n (part (at + 1) width source) (rw length-take (omega arith)))

  pub string_some : n ≤ width → Lies (digits_of (part at (width + 1) source)) source (record { start = at + 1; count = n })
  string_some h = lies_at n h (string_is ∙ take-take n width (drop (at + 1) source) h)

-- the first n digits
pub digits_long : (source : List ℕ) (n : ℕ) → DIALLED-DIGITS-AT + n ≤ length source → length (digits_in n source) ≡ n
digits_long source n room = length-take-le n (drop DIALLED-DIGITS-AT source) (rw length-drop (omega arith))

-- BLOCKS

-- a block from place `start` on, of a part that goes on behind it
block_is : (source : List ℕ) (start k : ℕ) → 16 ≤ k → take 16 (take k (drop start source)) ≡ part start 16 source
block_is source start k h = take-take 16 k (drop start source) h

block_long : (source : List ℕ) (start k : ℕ) → 16 ≤ k → start + 16 ≤ length source → length (take 16 (take k (drop start source))) ≡ 16
block_long source start k h room = ap length (block_is source start k h) ∙ length-take-le 16 (drop start source) (rw length-drop (omega arith))

module _ (source out : List ℕ) (start count k : ℕ) (h : 16 ≤ k) where
  -- a value of 16 digits or fewer, by one block
  pub one_block : start + 16 ≤ length source → count ≤ 16 → take count (written_over (take 16 (take k (drop start source))) out) ≡ part start count source
  one_block room few =
      let l : length (take 16 (take k (drop start source))) ≡ 16 = block_long source start k h room in
      take-append-le count (take 16 (take k (drop start source))) _ (omega arith) ∙ rw (block_is source start k h) (take-take count 16 (drop start source) few)

  -- of 32 or fewer, by two
  module _ (j : ℕ) (g : 16 ≤ j) (room : start + 32 ≤ length source) where
    pub first_long : 16 ≡ length (take 16 (take k (drop start source)))
    first_long = sym (block_long source start k h (omega arith))

    pub second_long : length (take 16 (take j (drop (start + 16) source))) ≡ 16
    second_long = block_long source (start + 16) j g (omega arith)

    both : take 16 (take k (drop start source)) ++ take 16 (take j (drop (start + 16) source)) ≡ part start 32 source
    both =
        rw (block_is source start k h, block_is source (start + 16) j g, ← drop-drop 16 start source) (sym (take-add 16 16 (drop start source)))

    pub two_blocks : count ≤ 32 → {exit : List ℕ} → exit ≡ written_over (take 16 (take k (drop start source)) ++ take 16 (take j (drop (start + 16) source))) out
        → take count exit ≡ part start count source
    two_blocks few {exit} e =
        let l : length (part start 32 source) ≡ 32 = length-take-le 32 (drop start source) (rw length-drop (omega arith)) in
        rw (e, both) (take-append-le count (part start 32 source) _ (omega arith) ∙ take-take count 32 (drop start source) few)

-- A SOURCE

-- what values are taken from of a body, and the settings, at the front of a buffer; behind them is room for a block that is taken whole
unfoldable pub source_of : List ℕ → List ℕ → List ℕ → List ℕ
source_of settings body buffer = body ++ (settings ++ drop (VALUE-BYTES + SETTINGS-BYTES) buffer)

-- the settings behind a body
pub source_is : (settings body buffer : List ℕ) → length settings ≡ SETTINGS-BYTES → length body ≡ VALUE-BYTES → written_over (body ++ settings) buffer ≡ source_of settings body buffer
unfolding source_of
source_is settings body buffer s b =
    let l : length (body ++ settings) ≡ VALUE-BYTES + SETTINGS-BYTES = length-append body settings ∙ omega arith in
    rw (l, append_assoc)

-- what a source has of them
module _ (settings body buffer : List ℕ) (s : length settings ≡ SETTINGS-BYTES) (b : length body ≡ VALUE-BYTES) where
  pub source_long : length buffer ≡ SOURCE-BYTES → length (source_of settings body buffer) ≡ SOURCE-BYTES
  unfolding source_of
  source_long l = rw (length-append, length-append, length-drop) (omega arith)

  pub source_settings : settings_in (source_of settings body buffer) ≡ settings
  unfolding source_of
  source_settings = ap (take SETTINGS-BYTES) (drop_at body (settings ++ drop (VALUE-BYTES + SETTINGS-BYTES) buffer) VALUE-BYTES b) ∙ take_at settings (drop (VALUE-BYTES + SETTINGS-BYTES) buffer) SETTINGS-BYTES s

  pub source_part : (a n : ℕ) → a + n ≤ VALUE-BYTES → part a n (source_of settings body buffer) ≡ part a n body
  unfolding source_of
  source_part a n h =
      ap (take n) (drop-append-le a body (settings ++ drop (VALUE-BYTES + SETTINGS-BYTES) buffer) (omega arith))
      ∙ take-append-le n (drop a body) (settings ++ drop (VALUE-BYTES + SETTINGS-BYTES) buffer) (rw length-drop (omega arith))
