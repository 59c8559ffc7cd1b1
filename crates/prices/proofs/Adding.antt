-- A row added: the number answered and the memory left, by what the checks gave; an accepted row keeps the list passing, so that the list that is left reads as the definition says.
use Prim.Native.Nat.{ℕ, suc, ◌-◌, ◌≤◌, ◌<◌}
use mathlib.Core.Path.{◌≡◌, refl, ap, ap₂, sym, ◌∙◌}
use mathlib.Core.Bool.{Bool, true, false, ◌&&◌}
use mathlib.Core.List.{List, [], ◌∷◌, map}
use mathlib.Core.Option.{Option, none, some}
use native.Mathlib.Omega.{arith}
use lib.Arith.{lt_of_le-ne}
use lib.ListN.{length, take, drop}
use lib.Seq.{take-take, take_all, length-take-le}
use lib.Dec.{T, eqb, ltb, eqb-suc-zero}
use borrow.Author.Tests.{eq-eqb, ne_eqb, eqb-true, eqb-false, lt-ltb, le-ltb}
use Rattle.meaning.specs.Sizes.{PRICE-BODY, PRICE-ROOM, ROWS-AT}
use Rattle.meaning.specs.Basics.{all, any, is_zero, word}
use Rattle.std.specs.Prelude.{if◌then◌else◌}
use Rattle.meaning.specs.Refusals.{CUT, RANGE, TAKEN, FULL, Line, first_of}
use Rattle.meaning.specs.Filters.{filter_of}
use Rattle.meaning.specs.Rules.{rules_in_order, has_filter, filter_in}
use Rattle.meaning.specs.Prices.{PriceRow, row_given, row_in_range, row_passes, rows_in_order, prices_pass, is_before_row, has_prefix, add_price_lines, price_refusal, place_lines, with_row, rows_after}
use Rattle.meaning.proofs.Tests.{is_true, true_is, is_false, false_is, and_left, and_right, and_both, not_not, passed_at}
use Rattle.meaning.proofs.RuleLists.{in_order_insert}
use Rattle.buffer.specs.Slots.{insert_at}
use Rattle.filter.specs.Slots.{rules_of}
use Rattle.filter.specs.Place.{filter_place, place_given}
use Rattle.std.specs.Prelude.{Result, Ok, Err}
use Rattle.meaning.specs.declared.RulePlace.{RulePlace}
use Rattle.prices.specs.Layout.{row_image, prices_image, row_of, rows_in, prices_in_range, prices_of}
use Rattle.prices.specs.Edits.{RowSlot, PlacesRow}
use Rattle.prices.specs.Promises.{prices_memory, AddsPrice}
use Rattle.prices.proofs.RowSlots.{row_filter, row_back}
use Rattle.prices.proofs.RowRules.{as_rule, as_filter, order_same, held_same, insert_same, AbsentRow, absent_row, held_row}
use Rattle.prices.proofs.ImageLaws.{Passes, passes_parts, passes_of, prices_back, in_range_is, prices_some, prices_none, prices_image_lem, some_in_range}
use Rattle.prices.proofs.Chosen.{lent_rules}
use Rattle.prices.proofs.RowEdits.{given_passes, slot_asks}

-- A ROW'S SLOT AND THE PLACE THAT THE LOOKUP GIVES, over a list in range; n is the count as read

module _ (m s : List ℕ) (range : prices_in_range m ≡ true) (slot : RowSlot s) where
  abbrev x : PriceRow
  x = row_of s

  abbrev rs : List PriceRow
  rs = rows_in m

  passes : T (row_passes x)
  passes = true_is (row_passes x) slot.passes

  module _ (n : ℕ) (n-is : n ≡ word m 0) (f : Result RulePlace RulePlace)
      (f-is : place_given f ≡ filter_place (filter_of s) (rules_of n (take (length m - ROWS-AT) (drop ROWS-AT m)))) where
    place_is : place_given f ≡ filter_place (row_filter x) (map as_rule rs)
    place_is = f-is ∙ ap₂ filter_place (slot_asks s slot) (lent_rules m (in_range_is m range) n n-is)

    pub row_taken : (k : RulePlace) → f ≡ Ok k → PlacesRow m x m TAKEN
    row_taken k e =
        let p = (in_range_is m range).passes in
        let there : any (has_prefix x.prefix) rs ≡ true = held_row x passes rs p.rows p.order k.0 (sym place_is ∙ ap place_given e) in
        record { number_is = sym (rw there); memory_is = refl }

    module _ (k : RulePlace) (e : f ≡ Err k) where
      absent_there : AbsentRow x passes rs (in_range_is m range).passes.rows (in_range_is m range).passes.order k.0
      absent_there = let p = (in_range_is m range).passes in absent_row x passes rs p.rows p.order k.0 (sym place_is ∙ ap place_given e)

      pub absent_within : k.0 ≤ length rs
      absent_within = absent_there.within

      pub row_full : n ≡ PRICE-ROOM → PlacesRow m x m FULL
      row_full full =
          let many : eqb (length rs) PRICE-ROOM ≡ true = eq-eqb (length rs) PRICE-ROOM (sym (in_range_is m range).count ∙ (sym n-is ∙ full)) in
          record { number_is = sym (rw (absent_there.none_has, many)); memory_is = refl }

      pub room_left : (n ≡ PRICE-ROOM → ⊥) → length rs < PRICE-ROOM
      room_left free =
          let r = in_range_is m range in
          let few : length rs ≤ PRICE-ROOM = r.passes.few in
          let apart : length rs ≡ PRICE-ROOM → ⊥ = λ q. free (n-is ∙ (r.count ∙ q)) in
          lt_of_le-ne few apart

      pub row_placed : (n ≡ PRICE-ROOM → ⊥) → (after : List ℕ) → after ≡ prices_image (insert_at k.0 x rs) → PlacesRow m x after 0
      row_placed free after a =
          let many : eqb (length rs) PRICE-ROOM ≡ false = ne_eqb (length rs) PRICE-ROOM (λ q. free (n-is ∙ ((in_range_is m range).count ∙ q))) in
          record { number_is = sym (rw (absent_there.none_has, many)); memory_is = a ∙ ap prices_image (sym absent_there.inserted) }

-- THE CALL

-- only the bytes of a body count
module _ (o : Option (List PriceRow)) (b : List ℕ) (whole : PRICE-BODY ≤ length b) where
  same_refusal : price_refusal o (take PRICE-BODY b) ≡ price_refusal o b
  unfolding price_refusal
  same_refusal =
      let size : length (take PRICE-BODY b) ≡ PRICE-BODY = length-take-le PRICE-BODY b whole in
      rw (size, le-ltb (length b) PRICE-BODY whole, take-take PRICE-BODY PRICE-BODY b (omega arith))

  same_rows : rows_after o (take PRICE-BODY b) ≡ rows_after o b
  unfolding rows_after
  same_rows = rw (same_refusal, take-take PRICE-BODY PRICE-BODY b (omega arith))

pub same_body : {m b after : List ℕ} {n : ℕ} → PRICE-BODY ≤ length b → AddsPrice m (take PRICE-BODY b) after n → AddsPrice m b after n
same_body {m} {b} h a =
    record { number_is = a.number_is ∙ same_refusal (prices_of m) b h; memory_is = a.memory_is ∙ ap (λ (o : Option (List PriceRow)). prices_memory o m) (same_rows (prices_of m) b h) }

-- a list is left as it was where the call is refused
same_memory : (m : List ℕ) → m ≡ prices_memory (prices_of m) m
same_memory m = go (prices_in_range m) refl
  where
    go : (b : Bool) → prices_in_range m ≡ b → m ≡ prices_memory (prices_of m) m
    go true e = rw (prices_some m e) (in_range_is m e).own
    go false e = rw (prices_none m e)

pub refused : (m b : List ℕ) (k : ℕ) → suc k ≡ price_refusal (prices_of m) b → AddsPrice m b m (suc k)
unfolding rows_after
refused m b k e =
    record { number_is = e; memory_is = rw (← e, eqb-suc-zero k) (same_memory m) }

pub cut_short : (m b : List ℕ) → length b < PRICE-BODY → AddsPrice m b m CUT
unfolding price_refusal
cut_short m b h = refused m b 0 (sym (rw (lt-ltb (length b) PRICE-BODY h)))

pub list_out : (m b : List ℕ) → PRICE-BODY ≤ length b → prices_in_range m ≡ false → AddsPrice m b m RANGE
unfolding price_refusal
list_out m b h e = refused m b 4 (sym (rw (prices_none m e, le-ltb (length b) PRICE-BODY h)))

module _ (m b : List ℕ) (range : prices_in_range m ≡ true) (size : length b ≡ PRICE-BODY) where
  whole : take PRICE-BODY b ≡ b
  whole = take_all PRICE-BODY b (omega arith)

  pub row_out : row_in_range b ≡ false → AddsPrice m b m RANGE
  unfolding price_refusal
  row_out e = refused m b 4 (sym (rw (prices_some m range, le-ltb (length b) PRICE-BODY (omega arith), whole, e)))

  module _ (in_range : row_in_range b ≡ true) where
    given : T (row_passes (row_given b))
    given = given_passes b (true_is (row_in_range b) in_range)

    pub slot_given : {s : List ℕ} → s ≡ row_image (row_given b) → RowSlot s
    slot_given {s} e =
        let row : row_of s ≡ row_given b = ap row_of e ∙ row_back (row_given b) given in
        record { own = e ∙ ap row_image (sym row); passes = ap row_passes row ∙ is_true (row_passes (row_given b)) given }

    refusal_is : price_refusal (prices_of m) b ≡ first_of (place_lines (rows_in m) (row_given b))
    unfolding price_refusal
    refusal_is = rw (prices_some m range, le-ltb (length b) PRICE-BODY (omega arith), whole, in_range)

    memory_left : (n : ℕ) → n ≡ price_refusal (prices_of m) b
        → (if is_zero n then prices_image (with_row (row_given b) (rows_in m)) else m) ≡ prices_memory (rows_after (prices_of m) b) m
    unfolding rows_after
    memory_left n e = rw (← e, prices_some m range, whole) (go (is_zero n))
      where
        go : (t : Bool) → (if t then prices_image (with_row (row_given b) (rows_in m)) else m)
            ≡ prices_memory (if t then some (with_row (row_given b) (rows_in m)) else some (rows_in m)) m
        go true = refl
        go false = (in_range_is m range).own

    pub row_added : {s after : List ℕ} {n : ℕ} → s ≡ row_image (row_given b) → PlacesRow m (row_of s) after n → AddsPrice m b after n
    row_added {s} {after} {n} s-is p =
        let row : row_of s ≡ row_given b = ap row_of s-is ∙ row_back (row_given b) given in
        let number : n ≡ price_refusal (prices_of m) b = p.number_is ∙ (ap (λ (r : PriceRow). first_of (place_lines (rows_in m) r)) row ∙ sym refusal_is) in
        let left : after ≡ (if is_zero n then prices_image (with_row (row_given b) (rows_in m)) else m) =
        p.memory_is ∙ ap (λ (r : PriceRow). if is_zero n then prices_image (with_row r (rows_in m)) else m) row in
        record { number_is = number; memory_is = left ∙ memory_left n number }

-- WHAT AN ACCEPTED ROW MAKES

module _ (x : PriceRow) where
  all_with : (p : PriceRow → Bool) (rs : List PriceRow) → T (p x) → T (all p rs) → T (all p (with_row x rs))
  all_with p [] s t = and_both (p x) true s tt
  all_with p (r ∷ rs) s t = go (is_before_row x r) (all_with p rs s (and_right (p r) (all p rs) t))
    where
      go : (b : Bool) → T (all p (with_row x rs)) → T (all p (if b then x ∷ r ∷ rs else r ∷ with_row x rs))
      go true ih = and_both (p x) (p r && all p rs) s t
      go false ih = and_both (p r) (all p (with_row x rs)) (and_left (p r) (all p rs) t) ih

  length_with : (rs : List PriceRow) → length (with_row x rs) ≡ suc (length rs)
  length_with [] = refl
  length_with (r ∷ rs) = go (is_before_row x r) (length_with rs)
    where
      go : (b : Bool) → length (with_row x rs) ≡ suc (length rs) → length (if b then x ∷ r ∷ rs else r ∷ with_row x rs) ≡ suc (suc (length rs))
      go true ih = refl
      go false ih = ap suc ih

  order_with : (rs : List PriceRow) → T (row_passes x) → T (all row_passes rs) → T (rows_in_order rs) → any (has_prefix x.prefix) rs ≡ false → T (rows_in_order (with_row x rs))
  order_with rs p t order none_has =
      let rules : T (rules_in_order (map as_rule rs)) = rw (order_same rs t) order in
      let absent : any (has_filter (filter_in (as_rule x))) (map as_rule rs) ≡ false = ap (λ f. any (has_filter f) (map as_rule rs)) (as_filter x p) ∙ (held_same x rs t ∙ none_has) in
      let put : T (rules_in_order (map as_rule (with_row x rs))) =
      rw (← insert_same x p rs t) (in_order_insert (as_rule x) (map as_rule rs) rules (false_is (any (has_filter (filter_in (as_rule x))) (map as_rule rs)) absent)) in
      rw (← order_same (with_row x rs) (all_with row_passes rs p t)) put

-- an accepted row keeps the list passing
pub added_passes : (rs : List PriceRow) (b : List ℕ) → prices_pass rs ≡ true → price_refusal (some rs) b ≡ 0 → prices_pass (with_row (row_given (take PRICE-BODY b)) rs) ≡ true
unfolding price_refusal
added_passes rs b e zero_is =
    let p : Passes rs = passes_parts rs (true_is (prices_pass rs) e) in
    let given : List ℕ = take PRICE-BODY b in
    let lines : List Line = (ltb (length b) PRICE-BODY, CUT) ∷ add_price_lines (some rs) given in
    let ranged : T (row_in_range given) = not_not (row_in_range given) (passed_at 1 lines tt zero_is) in
    let absent : any (has_prefix (row_given given).prefix) rs ≡ false = is_false (any (has_prefix (row_given given).prefix) rs) (passed_at 2 lines tt zero_is) in
    let apart = eqb-false (length rs) PRICE-ROOM (is_false (eqb (length rs) PRICE-ROOM) (passed_at 3 lines tt zero_is)) in
    let row : T (row_passes (row_given given)) = given_passes given ranged in
    is_true (prices_pass (with_row (row_given given) rs)) (passes_of (with_row (row_given given) rs) (
    record {
      few = rw (length_with (row_given given) rs) (lt_of_le-ne p.few apart);
      rows = all_with (row_given given) row_passes rs row p.rows;
      order = order_with (row_given given) rs row p.rows p.order absent;
    }
    ))

-- the list that is left reads as the definition says
pub rows_adds : (m b after : List ℕ) (n : ℕ) → AddsPrice m b after n → prices_of after ≡ rows_after (prices_of m) b
unfolding rows_after
rows_adds m b after n a = ap prices_of a.memory_is ∙ go (prices_of m) refl
  where
    given : PriceRow
    given = row_given (take PRICE-BODY b)

    accepted : (rs : List PriceRow) → prices_pass rs ≡ true → (t : Bool) → is_zero (price_refusal (some rs) b) ≡ t
        → prices_of (prices_memory (if t then some (with_row given rs) else some rs) m) ≡ (if t then some (with_row given rs) else some rs)
    accepted rs e true q = prices_back (with_row given rs) (added_passes rs b e (eqb-true (price_refusal (some rs) b) 0 q))
    accepted rs e false q = prices_back rs e

    refused_none : (t : Bool) → prices_of m ≡ none → prices_of (prices_memory (if t then none else none) m) ≡ (if t then none else none)
    refused_none true q = q
    refused_none false q = q

    go : (o : Option (List PriceRow)) → prices_of m ≡ o → prices_of (prices_memory (rows_after o b) m) ≡ rows_after o b
    go none q = refused_none (is_zero (price_refusal none b)) q
    go (some rs) q = accepted rs (prices_image_lem m rs q).1 (is_zero (price_refusal (some rs) b)) refl

-- a list in range stays in range, whatever is answered
pub adds_in_range : (m b after : List ℕ) (n : ℕ) → prices_in_range m ≡ true → AddsPrice m b after n → prices_in_range after ≡ true
unfolding rows_after
adds_in_range m b after n e a = go (is_zero (price_refusal (some (rows_in m)) b)) (rows_adds m b after n a ∙ ap (λ (o : Option (List PriceRow)). rows_after o b) (prices_some m e))
  where
    go : (t : Bool) → prices_of after ≡ (if t then some (with_row (row_given (take PRICE-BODY b)) (rows_in m)) else some (rows_in m)) → prices_in_range after ≡ true
    go true q = some_in_range after (with_row (row_given (take PRICE-BODY b)) (rows_in m)) q
    go false q = some_in_range after (rows_in m) q
