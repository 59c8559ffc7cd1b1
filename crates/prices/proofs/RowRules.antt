-- A row's slot is that of a rule of class 0 with a wildcard length: rows are chosen, ordered and put in as such rules are.
use Prim.Native.Nat.{ℕ, suc, ◌+◌, ◌*◌, ◌-◌, ◌≤◌, compare, Ordering}
use mathlib.Core.Path.{◌≡◌, refl, ap, ap₂, sym, ◌∙◌}
use mathlib.Core.Bool.{Bool, true, false, ◌&&◌, ◌||◌}
use mathlib.Core.List.{List, [], ◌∷◌, map}
use mathlib.Core.Option.{Option, none, some}
use native.Mathlib.Omega.{arith}
use lib.ListN.{length, length-map}
use lib.Dec.{T, ltb, compare_is_eq}
use borrow.Author.Tests.{ltb-true, ltb-false, lt-ltb, le-ltb}
use Rattle.meaning.specs.Basics.{all, any, begins_with, same_bytes}
use Rattle.std.specs.Prelude.{if◌then◌else◌}
use Rattle.meaning.specs.Filters.{◌then◌, compare_prefixes, compare_filters, fits_number, rank, is_lt, is_before}
use Rattle.meaning.specs.Rules.{Rule, filter_in, has_filter, weight, first_largest_from, first_largest, chosen_place, rules_in_order, insert}
use Rattle.meaning.specs.Prices.{PriceRow, row_passes, row_weight, row_place, is_before_row, rows_in_order, has_prefix, with_row}
use Rattle.meaning.proofs.Tests.{and_left, and_right}
use Rattle.buffer.specs.Slots.{insert_at}
use Rattle.filter.specs.Slots.{rule_of}
use Rattle.filter.specs.Place.{absent, held, by_order, place_from, filter_place}
use Rattle.filter.proofs.RuleLaws.{filter_in_lem}
use Rattle.filter.proofs.PlaceLaws.{absent_at, held_at_lem}
use Rattle.prices.specs.Layout.{row_image}
use Rattle.prices.proofs.RowSlots.{row_filter, slot_filter, image_passes, row_back}

abbrev pub as_rule : PriceRow → Rule
as_rule r = rule_of (row_image r)

pub as_filter : (r : PriceRow) → T (row_passes r) → filter_in (as_rule r) ≡ row_filter r
as_filter r t = filter_in_lem (row_image r) ∙ (slot_filter (row_image r) (image_passes r t) ∙ ap row_filter (row_back r t))

-- ORDER

no_more : (o : Ordering) → o then Ordering.eq ≡ o
no_more Ordering.lt = refl
no_more Ordering.eq = refl
no_more Ordering.gt = refl

filter_order : (r s : PriceRow) → compare_filters (row_filter r) (row_filter s) ≡ compare_prefixes r.prefix s.prefix
unfolding compare_filters
filter_order r s = no_more (compare_prefixes r.prefix s.prefix)

module _ (r : PriceRow) (passes : T (row_passes r)) where
  pub row_order : (s : PriceRow) → T (row_passes s) → compare_filters (row_filter r) (filter_in (as_rule s)) ≡ compare_prefixes r.prefix s.prefix
  row_order s t = ap (compare_filters (row_filter r)) (as_filter s t) ∙ filter_order r s

  before_all : (rs : List PriceRow) → T (all row_passes rs) → all (λ (s : Rule). is_before (filter_in (as_rule r)) (filter_in s)) (map as_rule rs) ≡ all (is_before_row r) rs
  before_all [] t = refl
  before_all (s ∷ rs) t =
      let here : is_before (filter_in (as_rule r)) (filter_in (as_rule s)) ≡ is_before_row r s =
      ap is_lt (ap (λ f. compare_filters f (filter_in (as_rule s))) (as_filter r passes) ∙ row_order s (and_left (row_passes s) (all row_passes rs) t)) in
      ap₂ ◌&&◌ here (before_all rs (and_right (row_passes s) (all row_passes rs) t))

pub order_same : (rs : List PriceRow) → T (all row_passes rs) → rules_in_order (map as_rule rs) ≡ rows_in_order rs
order_same [] t = refl
order_same (r ∷ rs) t =
    let later : T (all row_passes rs) = and_right (row_passes r) (all row_passes rs) t in
    ap₂ ◌&&◌ (before_all r (and_left (row_passes r) (all row_passes rs) t) rs later) (order_same rs later)

-- THE CHOICE: a rule's weight is one less than twice a row's, or 0 as a row's is

abbrev raised : ℕ → ℕ
raised w = 2 * w - 1

raised_less : (a b : ℕ) → ltb (raised a) (raised b) ≡ ltb a b
raised_less a b = go (ltb a b) refl
  where
    go : (t : Bool) → ltb a b ≡ t → ltb (raised a) (raised b) ≡ t
    go true e = lt-ltb (raised a) (raised b) (omega (arith, ltb-true a b e))
    go false e = le-ltb (raised a) (raised b) (omega (arith, ltb-false a b e))

raised_either : (b : Bool) (w most : ℕ) → (if b then raised w else raised most) ≡ raised (if b then w else most)
raised_either true w most = refl
raised_either false w most = refl

raised_largest : (best : Option ℕ) (most at : ℕ) (ws : List ℕ) → first_largest_from best (raised most) at (map raised ws) ≡ first_largest_from best most at ws
raised_largest best most at [] = refl
raised_largest best most at (w ∷ ws) =
    let more : Bool = ltb most w in
    ap (λ (b : Bool). first_largest_from (if b then some at else best) (if b then raised w else raised most) (at + 1) (map raised ws)) (raised_less most w)
    ∙ (ap (λ (m : ℕ). first_largest_from (if more then some at else best) m (at + 1) (map raised ws)) (raised_either more w most)
    ∙ raised_largest (if more then some at else best) (if more then w else most) (at + 1) ws)

module _ (ds : List ℕ) where
  row_weight_lem : (r : PriceRow) → T (row_passes r) → weight 0 ds (filter_in (as_rule r)) ≡ raised (row_weight ds r)
  unfolding weight fits_number rank row_weight
  row_weight_lem r t = ap (weight 0 ds) (as_filter r t) ∙ go (begins_with r.prefix ds)
    where
      go : (b : Bool) → (if b && true then 2 * length r.prefix + 0 + 1 else 0) ≡ raised (if b then length r.prefix + 1 else 0)
      go true = omega arith
      go false = refl

  row_weights : (rs : List PriceRow) → T (all row_passes rs) → map (λ (r : Rule). weight 0 ds (filter_in r)) (map as_rule rs) ≡ map raised (map (row_weight ds) rs)
  row_weights [] t = refl
  row_weights (r ∷ rs) t =
      ap₂ ◌∷◌ (row_weight_lem r (and_left (row_passes r) (all row_passes rs) t)) (row_weights rs (and_right (row_passes r) (all row_passes rs) t))

  pub chosen_same : (rs : List PriceRow) → T (all row_passes rs) → chosen_place 0 ds (map as_rule rs) ≡ row_place rs ds
  unfolding chosen_place row_place first_largest
  chosen_same rs t = ap (first_largest_from none 0 0) (row_weights rs t) ∙ raised_largest none 0 0 (map (row_weight ds) rs)

-- A PREFIX HELD

pub prefix_same : (p q : List ℕ) → compare_is_eq (compare_prefixes p q) ≡ same_bytes p q
prefix_same [] [] = refl
prefix_same [] (y ∷ q) = refl
prefix_same (x ∷ p) [] = refl
prefix_same (x ∷ p) (y ∷ q) = go (compare x y) (prefix_same p q)
  where
    go : (o : Ordering) → compare_is_eq (compare_prefixes p q) ≡ same_bytes p q → compare_is_eq (o then compare_prefixes p q) ≡ (compare_is_eq o && same_bytes p q)
    go Ordering.lt ih = refl
    go Ordering.eq ih = ih
    go Ordering.gt ih = refl

module _ (x : PriceRow) where
  pub held_same : (rs : List PriceRow) → T (all row_passes rs) → any (has_filter (row_filter x)) (map as_rule rs) ≡ any (has_prefix x.prefix) rs
  held_same [] t = refl
  held_same (r ∷ rs) t =
      let here : has_filter (row_filter x) (as_rule r) ≡ has_prefix x.prefix r =
      ap compare_is_eq (ap (compare_filters (row_filter x)) (as_filter r (and_left (row_passes r) (all row_passes rs) t)) ∙ filter_order x r) ∙ prefix_same x.prefix r.prefix in
      ap₂ ◌||◌ here (held_same rs (and_right (row_passes r) (all row_passes rs) t))

  module _ (passes : T (row_passes x)) where
    pub insert_same : (rs : List PriceRow) → T (all row_passes rs) → insert (as_rule x) (map as_rule rs) ≡ map as_rule (with_row x rs)
    insert_same [] t = refl
    insert_same (r ∷ rs) t =
        let here : is_before (filter_in (as_rule x)) (filter_in (as_rule r)) ≡ is_before_row x r =
        ap is_lt (ap (λ f. compare_filters f (filter_in (as_rule r))) (as_filter x passes) ∙ row_order x passes r (and_left (row_passes r) (all row_passes rs) t)) in
        rw here (go (is_before_row x r) (insert_same rs (and_right (row_passes r) (all row_passes rs) t)))
      where
        go : (b : Bool) → insert (as_rule x) (map as_rule rs) ≡ map as_rule (with_row x rs)
            → (if b then as_rule x ∷ as_rule r ∷ map as_rule rs else as_rule r ∷ insert (as_rule x) (map as_rule rs)) ≡ map as_rule (if b then x ∷ r ∷ rs else r ∷ with_row x rs)
        go true ih = refl
        go false ih = ap (λ (l : List Rule). as_rule r ∷ l) ih

    -- at the place that the lookup gives
    inserted_from : (rs : List PriceRow) → T (all row_passes rs) → (j k : ℕ) → place_from j (row_filter x) (map as_rule rs) ≡ absent k
        → (d : ℕ) × (k ≡ j + d) × (with_row x rs ≡ insert_at d x rs)
    inserted_from [] t j k e = let q : j ≡ k = cc in (0, omega arith, refl)
    inserted_from (r ∷ rs) t j k e =
        go (compare_prefixes x.prefix r.prefix) refl
        (sym (ap (λ (o : Ordering). by_order o j (place_from (j + 1) (row_filter x) (map as_rule rs))) (row_order x passes r (and_left (row_passes r) (all row_passes rs) t))) ∙ e)
        (inserted_from rs (and_right (row_passes r) (all row_passes rs) t) (j + 1) k)
      where
        go : (o : Ordering) → compare_prefixes x.prefix r.prefix ≡ o → by_order o j (place_from (j + 1) (row_filter x) (map as_rule rs)) ≡ absent k
            → (place_from (j + 1) (row_filter x) (map as_rule rs) ≡ absent k → (d : ℕ) × (k ≡ j + 1 + d) × (with_row x rs ≡ insert_at d x rs))
            → (d : ℕ) × (k ≡ j + d) × ((if is_lt o then x ∷ r ∷ rs else r ∷ with_row x rs) ≡ insert_at d x (r ∷ rs))
        go Ordering.lt o_is q ih = let same : j ≡ k = cc in (0, omega arith, refl)
        go Ordering.eq o_is q ih = absurd (let z : ◌≡◌ {A = ℕ} 0 1 = cc in omega arith)
        go Ordering.gt o_is q ih = let w = ih q in (suc w.0, omega (arith, w.1), ap (λ (l : List PriceRow). r ∷ l) w.2)

    module _ (rs : List PriceRow) (t : T (all row_passes rs)) (order : T (rows_in_order rs)) (k : ℕ) where
      rules_order : T (rules_in_order (map as_rule rs))
      rules_order = rw (order_same rs t) order

      -- no row has the prefix, and adding puts the row at place k
      pub record AbsentRow : Type 0 where
        pub within : k ≤ length rs
        pub none_has : any (has_prefix x.prefix) rs ≡ false
        pub inserted : with_row x rs ≡ insert_at k x rs

      pub absent_row : filter_place (row_filter x) (map as_rule rs) ≡ absent k → AbsentRow
      unfolding filter_place
      absent_row e =
          let a = absent_at (row_filter x) (map as_rule rs) k rules_order e in
          let w = inserted_from rs t 0 k e in
          let d : k ≡ w.0 = omega (arith, w.1) in
          record { within = rw (length-map rs as_rule) at a.within; none_has = sym (held_same rs t) ∙ a.none_has; inserted = rw d w.2 }

      pub held_row : filter_place (row_filter x) (map as_rule rs) ≡ held k → any (has_prefix x.prefix) rs ≡ true
      held_row e = sym (held_same rs t) ∙ (held_at_lem (row_filter x) (map as_rule rs) k rules_order e).some_has
