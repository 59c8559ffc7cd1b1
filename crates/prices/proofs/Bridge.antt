-- What is tested of a lent list is that it is in range: both ways, over bytes; and by what the tests gave.
use Prim.Native.Nat.{ℕ, ◌+◌, ◌-◌, ◌*◌, ◌/◌, ◌≤◌}
use mathlib.Core.Path.{◌≡◌, ap, ap₂, sym, ◌∙◌}
use mathlib.Core.Bool.{Bool, true, false}
use mathlib.Core.List.{List, ◌++◌, map, map-map}
use native.Mathlib.Omega.{arith}
use lib.ListN.{length, take, drop, get_or, length-drop, take-append-drop}
use lib.Seq.{drop_at, drop-drop}
use lib.Dec.{T, lit<, leb, leb→le, le→leb, eqb→eq}
use Rattle.meaning.specs.Sizes.{RULE-WIDTH, PRICE-ROOM, ROWS-AT, PRICES-BYTES}
use Rattle.meaning.specs.Basics.{all, is_zero, word}
use Rattle.meaning.specs.Rules.{rules_in_order}
use Rattle.meaning.specs.Prices.{row_passes, rows_in_order}
use Rattle.meaning.proofs.Tests.{is_true, each_all, all_at, all_false, same_tests, same_self}
use Rattle.buffer.specs.Zeros.{zeros}
use Rattle.buffer.specs.Slots.{slots, flat}
use Rattle.buffer.proofs.ZeroLaws.{all_zeros, zeros_pass}
use Rattle.buffer.proofs.SlotLaws.{flat_slots, slots_part}
use Rattle.buffer.proofs.Passing.{and-true}
use Rattle.std.specs.Simd.{first_chunks}
use borrow.Author.Tests.{eq-eqb, le-leb}
use Rattle.blocks.proofs.EndianLaws.{Bytes, bytes_behind}
use Rattle.filter.specs.Slots.{rule_of}
use Rattle.examiner.specs.Examined.{rising}
use Rattle.examiner.proofs.Bytes.{word_again, part_slots}
use Rattle.examiner.proofs.Rises.{rising_order, order_rising}
use Rattle.examiner.proofs.Held.{Slots, cut_slots, reads_pass, images_are, images_pass}
use Rattle.prices.specs.Layout.{row_image, prices_image, row_of, rows_in, prices_tests, prices_in_range}
use Rattle.prices.specs.Examined.{row_test, rows_tests, rows_pass, examined_tests, examined}
use Rattle.prices.proofs.RowSlots.{row_reads, row_image_lem, image_passes}
use Rattle.prices.proofs.RowRules.{as_rule, order_same}
use Rattle.prices.proofs.ImageLaws.{Passes, passes_of, rows_long, free, image_area, InRange, rows_many, in_range_is, slots_are}
use Rattle.plan.specs.Layout.{word_bytes}

-- THE WHOLE LIST

module _ (m : List ℕ) where
  abbrev count : ℕ
  count = word m 0

  abbrev area : List ℕ
  area = drop ROWS-AT m

  abbrev held : List (List ℕ)
  held = slots RULE-WIDTH count area

  abbrev behind : List ℕ
  behind = drop (ROWS-AT + RULE-WIDTH * count) m

  -- a list that passes the tests
  module _ (t : T (examined m)) (b : Bytes m) where
    size : length m ≡ PRICES-BYTES
    unfolding examined
    size = eqb→eq (length m) PRICES-BYTES (all_at 0 (examined_tests m) t)

    few : count ≤ PRICE-ROOM
    unfolding examined
    few = leb→le count PRICE-ROOM (all_at 1 (examined_tests m) t)

    rows : T (rows_pass held behind)
    unfolding examined
    rows = all_at 2 (examined_tests m) t

    slots_held : T (all row_test held)
    unfolding rows_pass
    slots_held = all_at 0 (rows_tests held behind) rows

    cut : Slots RULE-WIDTH held
    cut = cut_slots RULE-WIDTH count area (rw (length-drop ROWS-AT m) (omega (arith, size, few))) (bytes_behind ROWS-AT m b)

    images : map row_image (rows_in m) ≡ held
    unfolding rows_in
    images = images_are RULE-WIDTH row_of row_image row_test row_passes (λ s l k u. row_image_lem s u l k) held cut slots_held

    each_passes : T (all row_passes (rows_in m))
    unfolding rows_in
    each_passes = reads_pass RULE-WIDTH row_of row_image row_test row_passes (λ s l u. row_reads s u) held cut slots_held

    in_order : T (rows_in_order (rows_in m))
    unfolding rows_pass
    in_order =
        let rules : map rule_of held ≡ map as_rule (rows_in m) = ap (map rule_of) (sym images) ∙ map-map rule_of row_image (rows_in m) in
        let rises : T (rules_in_order (map as_rule (rows_in m))) = rw (← rules) (rising_order (map rule_of held) (all_at 1 (rows_tests held behind) rows)) in
        rw (← order_same (rows_in m) each_passes) rises

    passed : Passes (rows_in m)
    passed = record { few = rw (← rows_many m) few; rows = each_passes; order = in_order }

    unused : drop (RULE-WIDTH * count) area ≡ free count
    unfolding rows_pass
    unused =
        let t : T (all is_zero behind) = all_at 2 (rows_tests held behind) rows in
        let long : length (drop (ROWS-AT + RULE-WIDTH * count) m) ≡ RULE-WIDTH * (PRICE-ROOM - count) = length-drop (ROWS-AT + RULE-WIDTH * count) m ∙ omega (arith, size, few) in
        drop-drop (RULE-WIDTH * count) ROWS-AT m ∙ (all_zeros (drop (ROWS-AT + RULE-WIDTH * count) m) t ∙ ap zeros long)

    own : prices_image (rows_in m) ≡ m
    unfolding prices_image
    own =
        let rows : flat (map row_image (rows_in m)) ≡ take (RULE-WIDTH * count) area = ap flat images ∙ flat_slots RULE-WIDTH count area in
        let whole : flat (map row_image (rows_in m)) ++ free (length (rows_in m)) ≡ area =
        ap₂ (λ (x y : List ℕ). x ++ y) rows (ap free (sym (rows_many m)) ∙ sym unused) ∙ take-append-drop (RULE-WIDTH * count) area in
        ap₂ (λ (n : ℕ) (l : List ℕ). word_bytes n ++ l) (sym (rows_many m)) whole ∙ word_again m 0 (omega (arith, size)) b

    passing_range : T (prices_in_range m)
    unfolding prices_in_range
    passing_range =
        each_all (prices_tests m) (rw size tt, (passes_of (rows_in m) passed, (rw own (same_self m), tt)))

  -- a list in range
  module _ (r : InRange m) where
    tested : T (all row_test held)
    tested = rw (slots_are m r) (images_pass RULE-WIDTH row_of row_image row_test row_passes image_passes (rows_in m) r.passes.rows)

    rises : T (rising (map rule_of held))
    rises =
        let rules : map rule_of held ≡ map as_rule (rows_in m) = ap (map rule_of) (slots_are m r) ∙ map-map rule_of row_image (rows_in m) in
        let order : T (rules_in_order (map as_rule (rows_in m))) = rw (order_same (rows_in m) r.passes.rows) r.passes.order in
        rw rules (order_rising (map as_rule (rows_in m)) order)

    behind_is : behind ≡ free (length (rows_in m))
    behind_is =
        sym (drop-drop (RULE-WIDTH * count) ROWS-AT m) ∙ (ap₂ (λ (n : ℕ) (l : List ℕ). drop (RULE-WIDTH * n) l) r.count (ap (drop ROWS-AT) r.own ∙ image_area (rows_in m))
        ∙ drop_at (flat (map row_image (rows_in m))) (free (length (rows_in m))) (RULE-WIDTH * length (rows_in m)) (rows_long (rows_in m) r.passes.rows))

    range_passing : T (examined m)
    unfolding examined rows_pass
    range_passing =
        let zeros_behind : T (all is_zero behind) = rw behind_is (zeros_pass (RULE-WIDTH * (PRICE-ROOM - length (rows_in m)))) in
        each_all (examined_tests m) (rw r.size tt, (le→leb count PRICE-ROOM (rw r.count r.passes.few), (each_all (rows_tests held behind) (tested, (rises, (zeros_behind, tt))), tt)))

  module _ (bytes : Bytes m) where
    examined_range : examined m ≡ prices_in_range m
    examined_range = same_tests (examined m) (prices_in_range m) (λ t. passing_range t bytes) (λ t. range_passing (in_range_is m (is_true (prices_in_range m) t)))

    -- where test k fails, the list is out of range
    pub out_of_range : (k : ℕ) → get_or (examined_tests m) k true ≡ false → false ≡ prices_in_range m
    unfolding examined
    out_of_range k e = sym (sym examined_range ∙ all_false k (examined_tests m) e)

    -- b is what the rows and the bytes behind them gave, where the other tests have passed
    pub rows_decide : {b : Bool} → length m ≡ PRICES-BYTES → count ≤ PRICE-ROOM → b ≡ rows_pass held behind → b ≡ prices_in_range m
    unfolding examined
    rows_decide size few b-is =
        let small : leb count PRICE-ROOM ≡ true = le-leb count PRICE-ROOM few in
        b-is ∙ sym (sym examined_range ∙ rw (eq-eqb (length m) PRICES-BYTES size, small, and-true))

    -- the slots of the rows, in the bytes that are lent
    pub rows_cut : length m ≡ PRICES-BYTES → count ≤ PRICE-ROOM
        → first_chunks RULE-WIDTH (length (take (ROWS-AT + RULE-WIDTH * count - ROWS-AT) area) / RULE-WIDTH) (take (ROWS-AT + RULE-WIDTH * count - ROWS-AT) area) ≡ held
    rows_cut size few =
        part_slots RULE-WIDTH count ROWS-AT (RULE-WIDTH * PRICE-ROOM) m (lit< tt) (omega (arith, few)) (omega (arith, size, few)) ∙ slots_part RULE-WIDTH count (RULE-WIDTH * PRICE-ROOM) area (omega (arith, few))
