-- The image of rows that pass has the bytes of a price list, is in range and reads back; a list in range is the image of its rows, and its slots are those of rules.
use Prim.Native.Nat.{ℕ, ◌-◌, ◌*◌, ◌≤◌}
use mathlib.Core.Path.{◌≡◌, refl, ap, ap₂, sym, subst, ◌∙◌}
use mathlib.Core.Bool.{Bool, true, false}
use mathlib.Core.List.{List, [], ◌∷◌, ◌++◌, map, map-map}
use mathlib.Core.Option.{none, some}
use native.Mathlib.Omega.{arith}
use lib.ListN.{length, drop, get_or, length-append, length-drop, length-map}
use lib.Dec.{T, leb→le, le→leb, eqb→eq}
use Rattle.meaning.specs.Sizes.{PREFIX-AT, RULE-WIDTH, PRICE-ROOM, ROWS-AT, PRICES-BYTES}
use Rattle.meaning.specs.Basics.{all, same_bytes, word}
use Rattle.meaning.specs.Rules.{rules_in_order}
use Rattle.meaning.specs.Prices.{PriceRow, row_passes, rows_in_order, list_tests, prices_pass}
use Rattle.meaning.proofs.Tests.{is_true, true_is, and_left, and_right, each_all, all_at, all_weaken, same_self, same_bytes_lem}
use Rattle.buffer.specs.Zeros.{zeros}
use Rattle.buffer.specs.Slots.{slots, flat, Wide}
use Rattle.buffer.proofs.ZeroLaws.{length_zeros, zeros_add}
use Rattle.buffer.proofs.SlotLaws.{length_slots, length_flat, slots_flat}
use Rattle.filter.specs.Slots.{prefix_fits, RuleArea, rule_of, rules_of}
use Rattle.plan.proofs.ImageLaws.{word_bytes_lem, two_unused}
use Rattle.examiner.proofs.Held.{images_wide, images_pass}
use Rattle.prices.specs.Layout.{row_image, prices_image, row_of, rows_in, prices_tests, prices_in_range, prices_of}
use Rattle.prices.specs.Examined.{row_test}
use Rattle.prices.proofs.RowSlots.{row_size, row_back, image_passes, slot_said}
use Rattle.prices.proofs.RowRules.{as_rule, order_same}

-- ROWS THAT PASS

pub record Passes (rs : List PriceRow) : Type 0 where
  pub few : length rs ≤ PRICE-ROOM
  pub rows : T (all row_passes rs)
  pub order : T (rows_in_order rs)

pub passes_parts : (rs : List PriceRow) → T (prices_pass rs) → Passes rs
unfolding prices_pass
passes_parts rs t = record { few = leb→le (length rs) PRICE-ROOM (all_at 0 (list_tests rs) t); rows = all_at 1 (list_tests rs) t; order = all_at 2 (list_tests rs) t }

pub passes_of : (rs : List PriceRow) → Passes rs → T (prices_pass rs)
unfolding prices_pass
passes_of rs p = each_all (list_tests rs) (le→leb (length rs) PRICE-ROOM p.few, (p.rows, (p.order, tt)))

rows_read : (rs : List PriceRow) → T (all row_passes rs) → map row_of (map row_image rs) ≡ rs
rows_read [] t = refl
rows_read (r ∷ rs) t = ap₂ ◌∷◌ (row_back r (and_left (row_passes r) (all row_passes rs) t)) (rows_read rs (and_right (row_passes r) (all row_passes rs) t))

-- a slot that passes has a prefix of at most 16 digits
fits_slot : (s : List ℕ) → T (row_test s) → T (prefix_fits s)
fits_slot s t = le→leb (get_or s PREFIX-AT 0) 16 (slot_said s t)

pub prefix_fits_lem : (s : List ℕ) → length s ≡ RULE-WIDTH → T (row_test s) → T (prefix_fits s)
prefix_fits_lem s size = fits_slot s

pub slots_fit : (ss : List (List ℕ)) → T (all row_test ss) → T (all prefix_fits ss)
slots_fit ss = all_weaken row_test prefix_fits ss fits_slot

module _ (rs : List PriceRow) (t : T (all row_passes rs)) where
  pub rows_wide : Wide RULE-WIDTH (map row_image rs)
  rows_wide = images_wide RULE-WIDTH row_of row_image row_test row_passes row_size rs t

  pub rows_long : length (flat (map row_image rs)) ≡ RULE-WIDTH * length rs
  rows_long = length_flat RULE-WIDTH (map row_image rs) rows_wide ∙ ap (λ n. RULE-WIDTH * n) (length-map rs row_image)

  pub rows_fit : T (all prefix_fits (map row_image rs))
  rows_fit = slots_fit (map row_image rs) (images_pass RULE-WIDTH row_of row_image row_test row_passes image_passes rs t)

-- THE IMAGE

-- the slots behind n rows
abbrev pub free : ℕ → List ℕ
free n = zeros (RULE-WIDTH * (PRICE-ROOM - n))

pub image_area : (rs : List PriceRow) → drop ROWS-AT (prices_image rs) ≡ flat (map row_image rs) ++ free (length rs)
unfolding prices_image
image_area rs = refl

pub image_count : (rs : List PriceRow) → word (prices_image rs) 0 ≡ length rs
unfolding prices_image
image_count rs = word_bytes_lem (length rs)

module _ (rs : List PriceRow) (p : Passes rs) where
  pub image_slots : slots RULE-WIDTH (length rs) (drop ROWS-AT (prices_image rs)) ≡ map row_image rs
  image_slots =
      rw (image_area rs)
      (ap (λ (n : ℕ). slots RULE-WIDTH n (flat (map row_image rs) ++ free (length rs))) (sym (length-map rs row_image)) ∙ slots_flat RULE-WIDTH (map row_image rs) (free (length rs)) (rows_wide rs p.rows))

  pub image_size : length (prices_image rs) ≡ PRICES-BYTES
  unfolding prices_image
  image_size =
      let few : length rs ≤ PRICE-ROOM = p.few in
      rw (length-append (flat (map row_image rs)) (free (length rs)), rows_long rs p.rows, length_zeros (RULE-WIDTH * (PRICE-ROOM - length rs))) (omega arith)

  pub image_rows : rows_in (prices_image rs) ≡ rs
  unfolding rows_in
  image_rows =
      ap (λ (n : ℕ). map row_of (slots RULE-WIDTH n (drop ROWS-AT (prices_image rs)))) (image_count rs) ∙ (ap (map row_of) image_slots ∙ rows_read rs p.rows)

  pub image_in_range : T (prices_in_range (prices_image rs))
  unfolding prices_in_range
  image_in_range =
      each_all (prices_tests (prices_image rs)) (
        rw image_size tt,
        (
          rw image_rows (passes_of rs p),
          (subst (λ (l : List ℕ). T (same_bytes (prices_image rs) l)) (ap prices_image (sym image_rows)) (same_self (prices_image rs)), tt),
        ),
      )

pub prices_back : (rs : List PriceRow) → prices_pass rs ≡ true → prices_of (prices_image rs) ≡ some rs
unfolding prices_of
prices_back rs e =
    let p : Passes rs = passes_parts rs (true_is (prices_pass rs) e) in
    rw (is_true (prices_in_range (prices_image rs)) (image_in_range rs p)) (ap some (image_rows rs p))

-- A LIST IN RANGE

pub record InRange (m : List ℕ) : Type 0 where
  pub size : length m ≡ PRICES-BYTES
  pub passes : Passes (rows_in m)
  pub own : m ≡ prices_image (rows_in m)
  pub count : word m 0 ≡ length (rows_in m)

pub rows_many : (m : List ℕ) → word m 0 ≡ length (rows_in m)
unfolding rows_in
rows_many m = sym (length-map (slots RULE-WIDTH (word m 0) (drop ROWS-AT m)) row_of ∙ length_slots RULE-WIDTH (word m 0) (drop ROWS-AT m))

pub in_range_is : (m : List ℕ) → prices_in_range m ≡ true → InRange m
unfolding prices_in_range
in_range_is m e =
    let at : (k : ℕ) → T (get_or (prices_tests m) k true) = λ k. all_at k (prices_tests m) (true_is (prices_in_range m) e) in
    record {
      size = eqb→eq (length m) PRICES-BYTES (at 0);
      passes = passes_parts (rows_in m) (at 1);
      own = same_bytes_lem m (prices_image (rows_in m)) (at 2);
      count = rows_many m;
    }

module _ (m : List ℕ) (r : InRange m) where
  pub slots_are : slots RULE-WIDTH (word m 0) (drop ROWS-AT m) ≡ map row_image (rows_in m)
  slots_are = ap₂ (λ (n : ℕ) (l : List ℕ). slots RULE-WIDTH n (drop ROWS-AT l)) r.count r.own ∙ image_slots (rows_in m) r.passes

  pub rules_are : rules_of (word m 0) (drop ROWS-AT m) ≡ map as_rule (rows_in m)
  unfolding rules_of
  rules_are = ap (map rule_of) slots_are ∙ map-map rule_of row_image (rows_in m)

  pub rules_order : rules_in_order (rules_of (word m 0) (drop ROWS-AT m)) ≡ true
  rules_order = ap rules_in_order rules_are ∙ (order_same (rows_in m) r.passes.rows ∙ is_true (rows_in_order (rows_in m)) r.passes.order)

  pub area_is : RuleArea (word m 0) (drop ROWS-AT m)
  area_is =
      let few : length (rows_in m) ≤ PRICE-ROOM = r.passes.few in
      let many : word m 0 ≡ length (rows_in m) = r.count in
      let size : length m ≡ PRICES-BYTES = r.size in
      record { few = omega arith; room = rw (length-drop ROWS-AT m) (omega arith); prefixes = rw slots_are (rows_fit (rows_in m) r.passes.rows) }

pub prices_some : (m : List ℕ) → prices_in_range m ≡ true → prices_of m ≡ some (rows_in m)
unfolding prices_of
prices_some m e = rw e

pub prices_none : (m : List ℕ) → prices_in_range m ≡ false → prices_of m ≡ none
unfolding prices_of
prices_none m e = rw e

pub prices_image_lem : (m : List ℕ) (rs : List PriceRow) → prices_of m ≡ some rs → (m ≡ prices_image rs) × (prices_pass rs ≡ true)
prices_image_lem m rs e = go (prices_in_range m) refl
  where
    go : (b : Bool) → prices_in_range m ≡ b → (m ≡ prices_image rs) × (prices_pass rs ≡ true)
    go true q =
        let r : InRange m = in_range_is m q in
        let s : some (rows_in m) ≡ some rs = sym (prices_some m q) ∙ e in
        let same : rows_in m ≡ rs = cc in
        (r.own ∙ ap prices_image same, ap prices_pass (sym same) ∙ is_true (prices_pass (rows_in m)) (passes_of (rows_in m) r.passes))
    go false q = let z : none ≡ some rs = sym (prices_none m q) ∙ e in absurd (let y : ◌≡◌ {A = ℕ} 0 1 = cc in omega arith)

-- a list that has rows is in range
pub some_in_range : (m : List ℕ) (rs : List PriceRow) → prices_of m ≡ some rs → prices_in_range m ≡ true
some_in_range m rs e = go (prices_in_range m) refl
  where
    go : (b : Bool) → prices_in_range m ≡ b → b ≡ true
    go true q = refl
    go false q = let z : none ≡ some rs = sym (prices_none m q) ∙ e in absurd (let y : ◌≡◌ {A = ℕ} 0 1 = cc in omega arith)

-- THE EMPTY LIST

pub empty_image : prices_image [] ≡ zeros PRICES-BYTES
unfolding prices_image
empty_image = ap (λ (l : List ℕ). l ++ free 0) (sym two_unused) ∙ zeros_add ROWS-AT (RULE-WIDTH * PRICE-ROOM)

pub empty : prices_of (zeros PRICES-BYTES) ≡ some []
unfolding prices_pass
empty = ap prices_of (sym empty_image) ∙ prices_back [] refl

pub empty_in_range : prices_in_range (zeros PRICES-BYTES) ≡ true
empty_in_range = some_in_range (zeros PRICES-BYTES) [] empty
