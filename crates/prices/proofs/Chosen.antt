-- The price of a call: the rule chosen among the slots is the row of the longest prefix that fits, and its price is read from its slot.
use Prim.Native.Nat.{ℕ, ◌+◌, ◌-◌, ◌*◌, ◌≤◌, ◌<◌, zero-le}
use mathlib.Core.Path.{◌≡◌, ap, ap₂, sym, ◌∙◌}
use mathlib.Core.Bool.{true}
use mathlib.Core.List.{List, [], map}
use mathlib.Core.Option.{Option, none, some}
use native.Mathlib.Omega.{arith}
use lib.ListN.{length, take, drop, get_or, get_elem?, length-map, get_or-map}
use lib.Seq.{drop-drop, get_or-take, get_or-drop}
use lib.Dec.{T, lit<}
use Rattle.meaning.specs.Sizes.{CLASS-AT, RULE-WIDTH, ROWS-AT, PRICE-AT}
use Rattle.meaning.specs.Basics.{all, word, quad}
use Rattle.meaning.specs.Filters.{filter_of}
use Rattle.meaning.specs.Rules.{chosen_place, rules_in_order}
use Rattle.meaning.specs.Prices.{PriceRow, PRICE-LIMIT, row_passes, row_place, price_in, price_at, price_for}
use Rattle.meaning.proofs.Tests.{all_place}
use Rattle.buffer.specs.Slots.{slots}
use Rattle.buffer.proofs.SlotLaws.{length_slots, slot_at}
use Rattle.buffer.proofs.ListLaws.{rest_is, element_at}
use Rattle.filter.specs.Slots.{RuleArea, rules_of}
use Rattle.filter.proofs.RuleLaws.{chosen_within}
use Rattle.examiner.proofs.Held.{images_pass}
use Rattle.narrowing.specs.Columns.{Narrowed}
use Rattle.prices.specs.Layout.{row_image, row_of, rows_in}
use Rattle.prices.specs.Examined.{row_test}
use Rattle.prices.specs.Edits.{RowPrice}
use Rattle.prices.specs.Promises.{GivesPrice}
use Rattle.std.specs.Prelude.{Some, None}
use Rattle.prices.proofs.RowSlots.{price_small, image_passes, slot_filter}
use Rattle.prices.proofs.RowRules.{as_rule, chosen_same}
use Rattle.prices.proofs.ImageLaws.{InRange, slots_are, rules_are, rules_order, area_is}

-- THE PRICE IN A SLOT

quad_read : (a : ℕ) (m : List ℕ) → quad (take RULE-WIDTH (drop a m)) PRICE-AT ≡ quad m (a + PRICE-AT)
quad_read a m =
    let at : (k : ℕ) → k < RULE-WIDTH → get_or (take RULE-WIDTH (drop a m)) k 0 ≡ get_or m (a + k) 0 = λ k h. get_or-take RULE-WIDTH (drop a m) k 0 h ∙ get_or-drop a m k 0 in
    let one : a + (PRICE-AT + 1) ≡ a + PRICE-AT + 1 = omega arith in
    let two : a + (PRICE-AT + 2) ≡ a + PRICE-AT + 2 = omega arith in
    let three : a + (PRICE-AT + 3) ≡ a + PRICE-AT + 2 + 1 = omega arith in
    let b0 : ◌≡◌ {A = ℕ} (get_or (take RULE-WIDTH (drop a m)) PRICE-AT 0) (get_or m (a + PRICE-AT) 0) = at PRICE-AT (lit< tt) in
    let b1 : ◌≡◌ {A = ℕ} (get_or (take RULE-WIDTH (drop a m)) (PRICE-AT + 1) 0) (get_or m (a + PRICE-AT + 1) 0) = at (PRICE-AT + 1) (lit< tt) ∙ ap (λ (k : ℕ). get_or m k 0) one in
    let b2 : ◌≡◌ {A = ℕ} (get_or (take RULE-WIDTH (drop a m)) (PRICE-AT + 2) 0) (get_or m (a + PRICE-AT + 2) 0) = at (PRICE-AT + 2) (lit< tt) ∙ ap (λ (k : ℕ). get_or m k 0) two in
    let b3 : ◌≡◌ {A = ℕ} (get_or (take RULE-WIDTH (drop a m)) (PRICE-AT + 3) 0) (get_or m (a + PRICE-AT + 2 + 1) 0) = at (PRICE-AT + 3) (lit< tt) ∙ ap (λ (k : ℕ). get_or m k 0) three in
    rw (b0, b1, b2, b3)

module _ (m : List ℕ) (r : InRange m) where
  module _ (k : ℕ) (within : k < length (rows_in m)) where
    row_at : get_elem? (rows_in m) k ≡ some (row_of (take RULE-WIDTH (drop (ROWS-AT + RULE-WIDTH * k) m)))
    unfolding rows_in
    row_at =
        let ss : List (List ℕ) = slots RULE-WIDTH (word m 0) (drop ROWS-AT m) in
        let inside : k < word m 0 = rw r.count within in
        let slot : get_or ss k [] ≡ take RULE-WIDTH (drop (ROWS-AT + RULE-WIDTH * k) m) =
        slot_at RULE-WIDTH k (word m 0) (drop ROWS-AT m) inside ∙ ap (take RULE-WIDTH) (drop-drop (RULE-WIDTH * k) ROWS-AT m) in
        element_at (map row_of ss) k (row_of []) within ∙ ap some (get_or-map row_of ss k [] ∙ ap row_of slot)

    pub row_price : (x : ℕ) → x ≡ quad m (ROWS-AT + RULE-WIDTH * k + PRICE-AT) → RowPrice m k x
    unfolding row_of
    row_price x e =
        let row : PriceRow = row_of (take RULE-WIDTH (drop (ROWS-AT + RULE-WIDTH * k) m)) in
        let is : x ≡ row.price = e ∙ sym (quad_read (ROWS-AT + RULE-WIDTH * k) m) in
        let same : get_or (rows_in m) k row ≡ row = let at : some (get_or (rows_in m) k row) ≡ some row = sym (element_at (rows_in m) k row within) ∙ row_at in cc in
        let passes : T (row_passes row) = rw same at (all_place row_passes (rows_in m) row k r.passes.rows within) in
        let small : row.price ≤ PRICE-LIMIT = price_small row passes in
        record { is = ap price_in row_at ∙ ap some (sym is); small = rw is small }

  -- a row's slot has 0 where a rule has its class
  class_zero : (k : ℕ) → k < word m 0 → get_or (drop ROWS-AT m) (RULE-WIDTH * k + CLASS-AT) 0 ≡ 0
  unfolding filter_of
  class_zero k inside =
      let area : List ℕ = drop ROWS-AT m in
      let s : List ℕ = take RULE-WIDTH (drop (RULE-WIDTH * k) area) in
      let pass : T (all row_test (slots RULE-WIDTH (word m 0) area)) =
      rw (slots_are m r) (images_pass RULE-WIDTH row_of row_image row_test row_passes image_passes (rows_in m) r.passes.rows) in
      let t : T (row_test s) =
      rw (slot_at RULE-WIDTH k (word m 0) area inside) at (all_place row_test (slots RULE-WIDTH (word m 0) area) [] k pass (rw (length_slots RULE-WIDTH (word m 0) area) inside)) in
      let byte : get_or s CLASS-AT 0 ≡ get_or area (RULE-WIDTH * k + CLASS-AT) 0 =
      get_or-take RULE-WIDTH (drop (RULE-WIDTH * k) area) CLASS-AT 0 (lit< tt) ∙ get_or-drop (RULE-WIDTH * k) area CLASS-AT 0 in
      sym byte ∙ ap (λ f. f.class) (slot_filter s t)

  -- THE ROW CHOSEN: n is the count as read, and the slots are lent to the end

  module _ (n : ℕ) (n-is : n ≡ word m 0) where
    pub lent_area : RuleArea n (take (length m - ROWS-AT) (drop ROWS-AT m))
    lent_area = rw (n-is, rest_is ROWS-AT m) (area_is m r)

    pub lent_order : rules_in_order (rules_of n (take (length m - ROWS-AT) (drop ROWS-AT m))) ≡ true
    lent_order = rw (n-is, rest_is ROWS-AT m) (rules_order m r)

    -- every row is of class 0
    pub lent_classes : Narrowed (take (length m - ROWS-AT) (drop ROWS-AT m)) 0 n CLASS-AT 0 0 n
    lent_classes =
        rw (n-is, rest_is ROWS-AT m)
        (record {
          start = record { low = zero-le; high = zero-le; before = λ h. absurd (omega (arith, h)); behind = λ h. zero-le };
          end = record { low = zero-le; high = omega arith; before = λ h. omega (arith, last h); behind = λ h. absurd (omega (arith, h)) };
        })
      where
        last : 0 < word m 0 → get_or (drop ROWS-AT m) (RULE-WIDTH * (word m 0 - 1) + CLASS-AT) 0 ≡ 0
        last h = class_zero (word m 0 - 1) (omega (arith, h))

    pub lent_rules : rules_of n (take (length m - ROWS-AT) (drop ROWS-AT m)) ≡ map as_rule (rows_in m)
    lent_rules = ap₂ rules_of n-is (rest_is ROWS-AT m) ∙ rules_are m r

    module _ (ds : List ℕ) (o : Option ℕ) (o_is : o ≡ chosen_place 0 ds (rules_of n (take (length m - ROWS-AT) (drop ROWS-AT m)))) where
      chosen_rule : o ≡ chosen_place 0 ds (map as_rule (rows_in m))
      chosen_rule = o_is ∙ ap (chosen_place 0 ds) lent_rules

      chosen_row : row_place (rows_in m) ds ≡ o
      chosen_row = sym (chosen_rule ∙ chosen_same ds (rows_in m) r.passes.rows)

      pub chosen_inside : (k : ℕ) → o ≡ some k → k < length (rows_in m)
      chosen_inside k e = rw (length-map (rows_in m) as_rule) at (chosen_within 0 ds (map as_rule (rows_in m)) k (sym chosen_rule ∙ e))

      pub priced : (k x : ℕ) → o ≡ some k → RowPrice m k x → GivesPrice m ds (Some x)
      unfolding price_for
      priced k x e p = record { is = sym (ap (price_at (rows_in m)) (chosen_row ∙ e) ∙ p.is); small = p.small }

      pub unpriced : o ≡ none → GivesPrice m ds None
      unfolding price_for
      unpriced e = record { is = sym (ap (price_at (rows_in m)) (chosen_row ∙ e)); small = zero-le }
