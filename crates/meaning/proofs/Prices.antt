-- The price given is that of the row that C-11 describes, and no other row is so: over any list that passes, for any digits. And what a list holds behind a row that is added.
use Prim.Native.Nat.{ℕ, ◌+◌, ◌≤◌, ◌<◌}
use mathlib.Core.Path.{◌≡◌, refl, ap, sym, subst, ◌∙◌}
use mathlib.Core.Logic.{◌≢◌, ◌⊎◌, inl, inr, ◌↔◌}
use mathlib.Core.Bool.{Bool, true, false, true≢false}
use mathlib.Core.List.{List, [], ◌∷◌, map, Memᴰ}
use mathlib.Core.Option.{Option, none, some}
use native.Mathlib.Omega.{arith}
use lib.ListN.{length, take}
use lib.Dec.{T, ltb}
use borrow.Author.Tests.{ltb-true, ltb-false, ne_eqb}
use Rattle.meaning.specs.Sizes.{PRICE-BODY}
use Rattle.meaning.specs.Basics.{all, begins_with}
use Rattle.std.specs.Prelude.{if◌then◌else◌}
use Rattle.meaning.specs.Filters.{is_lt}
use Rattle.meaning.specs.Rules.{first_largest}
use Rattle.meaning.specs.Prices.{PriceRow, row_given, row_weight, row_place, price_at, price_for, is_before_row, rows_in_order, list_tests, prices_pass, price_refusal, with_row, rows_after}
use Rattle.meaning.specs.Priced.{IsPrice, NoRowFits, HoldsAlso, AddsRow}
use Rattle.meaning.proofs.Tests.{is_true, true_is, and_left, and_right, all_at, all_mem}
use Rattle.meaning.proofs.ListingOrder.{prefixes}
use Rattle.meaning.proofs.Largest.{AtMost, Found, first_largest_lem, place_mem}
use Rattle.meaning.proofs.Choice.{begins_take}

-- ROWS IN ORDER

-- a prefix does not stand before itself
not_before_self : (r s : PriceRow) → T (is_before_row r s) → r.prefix ≢ s.prefix
not_before_self r s t e = subst (λ o. T (is_lt o)) (prefixes.self r.prefix) (rw (← e) at t)

-- two rows of a list in order that share a prefix are one
one_row : (rs : List PriceRow) → T (rows_in_order rs) → (r s : PriceRow) → Memᴰ r rs → Memᴰ s rs → r.prefix ≡ s.prefix → r ≡ s
one_row [] t r s m _ e = elim m [ ]
one_row (x ∷ xs) t r s (mathlib.Core.List.Memᴰ.head p) (mathlib.Core.List.Memᴰ.head q) e = p ∙ sym q
one_row (x ∷ xs) t r s (mathlib.Core.List.Memᴰ.head p) (mathlib.Core.List.Memᴰ.tail n) e =
    absurd (not_before_self x s (all_mem (is_before_row x) xs (and_left (all (is_before_row x) xs) (rows_in_order xs) t) n) (ap (λ (y : PriceRow). y.prefix) (sym p) ∙ e))
one_row (x ∷ xs) t r s (mathlib.Core.List.Memᴰ.tail m) (mathlib.Core.List.Memᴰ.head q) e =
    absurd (not_before_self x r (all_mem (is_before_row x) xs (and_left (all (is_before_row x) xs) (rows_in_order xs) t) m) (ap (λ (y : PriceRow). y.prefix) (sym q) ∙ sym e))
one_row (x ∷ xs) t r s (mathlib.Core.List.Memᴰ.tail m) (mathlib.Core.List.Memᴰ.tail n) e =
    one_row xs (and_right (all (is_before_row x) xs) (rows_in_order xs) t) r s m n e

-- ONE ROW MORE

-- a row is held afterwards exactly if it is the new one, or was held
pub row_held : (r : PriceRow) (rs : List PriceRow) → HoldsAlso rs r (with_row r rs)
row_held r rs s = (to rs, from rs)
  where
    later : (x : PriceRow) (rs : List PriceRow) → (s ≡ r) ⊎ Memᴰ s rs → (s ≡ r) ⊎ Memᴰ s (x ∷ rs)
    later x rs (inl e) = inl e
    later x rs (inr m) = inr (mathlib.Core.List.Memᴰ.tail m)

    to_by : (x : PriceRow) (rs : List PriceRow) (b : Bool) → (Memᴰ s (with_row r rs) → (s ≡ r) ⊎ Memᴰ s rs)
        → Memᴰ s (if b then r ∷ x ∷ rs else x ∷ with_row r rs) → (s ≡ r) ⊎ Memᴰ s (x ∷ rs)
    to_by x rs true ih (mathlib.Core.List.Memᴰ.head e) = inl e
    to_by x rs true ih (mathlib.Core.List.Memᴰ.tail m) = inr m
    to_by x rs false ih (mathlib.Core.List.Memᴰ.head e) = inr (mathlib.Core.List.Memᴰ.head e)
    to_by x rs false ih (mathlib.Core.List.Memᴰ.tail m) = later x rs (ih m)

    to : (rs : List PriceRow) → Memᴰ s (with_row r rs) → (s ≡ r) ⊎ Memᴰ s rs
    to [] (mathlib.Core.List.Memᴰ.head e) = inl e
    to [] (mathlib.Core.List.Memᴰ.tail m) = inr m
    to (x ∷ rs) m = to_by x rs (is_before_row r x) (to rs) m

    from_by : (x : PriceRow) (rs : List PriceRow) (b : Bool) → ((s ≡ r) ⊎ Memᴰ s rs → Memᴰ s (with_row r rs))
        → (s ≡ r) ⊎ Memᴰ s (x ∷ rs) → Memᴰ s (if b then r ∷ x ∷ rs else x ∷ with_row r rs)
    from_by x rs true ih (inl e) = mathlib.Core.List.Memᴰ.head e
    from_by x rs true ih (inr m) = mathlib.Core.List.Memᴰ.tail m
    from_by x rs false ih (inl e) = mathlib.Core.List.Memᴰ.tail (ih (inl e))
    from_by x rs false ih (inr (mathlib.Core.List.Memᴰ.head e)) = mathlib.Core.List.Memᴰ.head e
    from_by x rs false ih (inr (mathlib.Core.List.Memᴰ.tail m)) = mathlib.Core.List.Memᴰ.tail (ih (inr m))

    from : (rs : List PriceRow) → (s ≡ r) ⊎ Memᴰ s rs → Memᴰ s (with_row r rs)
    from [] (inl e) = mathlib.Core.List.Memᴰ.head e
    from [] (inr m) = mathlib.Core.List.Memᴰ.tail m
    from (x ∷ rs) h = from_by x rs (is_before_row r x) (from rs) h

-- the rows behind a row that is accepted hold it, every old one and no other; behind one that is refused they are as they were
pub row_added : (rs : List PriceRow) (body : List ℕ) → AddsRow rs body
unfolding rows_after
row_added rs body = record {
  accepted = λ e. (with_row (row_given (take PRICE-BODY body)) rs, rw e, row_held (row_given (take PRICE-BODY body)) rs);
  refused = λ n. rw (ne_eqb (price_refusal (some rs) body) 0 n);
}

-- THE ROW THAT WEIGHS THE MOST

module _ (ds : List ℕ) where
  abbrev fits : PriceRow → Bool
  fits r = begins_with r.prefix ds

  weight_fits : (r : PriceRow) → T (fits r) → row_weight ds r ≡ length r.prefix + 1
  unfolding row_weight
  weight_fits r t = rw (is_true (fits r) t)

  weight_none : (r : PriceRow) → row_weight ds r ≤ 0 → fits r ≡ false
  unfolding row_weight
  weight_none r h = go (fits r) h
    where
      go : (b : Bool) → (if b then length r.prefix + 1 else 0) ≤ 0 → b ≡ false
      go true k = absurd (omega (arith, k))
      go false k = refl

  weight_some : (r : PriceRow) → 0 < row_weight ds r → T (fits r)
  unfolding row_weight
  weight_some r h = go (fits r) h
    where
      go : (b : Bool) → 0 < (if b then length r.prefix + 1 else 0) → T b
      go true k = tt
      go false k = absurd (omega (arith, k))

  module _ (rs : List PriceRow) where
    -- two that fit, neither longer than the other, have one prefix
    same_prefix : (r s : PriceRow) → T (fits r) → T (fits s) → length s.prefix ≡ length r.prefix → s.prefix ≡ r.prefix
    same_prefix r s fr fs e = begins_take s.prefix ds fs ∙ (ap (λ n. take n ds) e ∙ sym (begins_take r.prefix ds fr))

    largest_row : T (rows_in_order rs) → (r : PriceRow) → Memᴰ r rs → 0 < row_weight ds r → AtMost (row_weight ds) (row_weight ds r) rs → IsPrice rs ds r
    largest_row o r m h most = record { held = m; fits = weight_some r h; others = λ s n fs. go s n fs (ltb (length s.prefix) (length r.prefix)) refl }
      where
        go : (s : PriceRow) → Memᴰ s rs → T (fits s) → (b : Bool) → ltb (length s.prefix) (length r.prefix) ≡ b
            → (s ≡ r) ⊎ (length s.prefix < length r.prefix)
        go s n fs true e = inr (ltb-true _ _ e)
        go s n fs false e =
            let long : length r.prefix ≤ length s.prefix = ltb-false _ _ e in
            let w : row_weight ds s ≤ row_weight ds r = most s n in
            let same : length s.prefix ≡ length r.prefix = omega (arith, weight_fits s fs, weight_fits r (weight_some r h)) in
            inl (one_row rs o s r n m (same_prefix r s (weight_some r h) fs same))

    -- what prices the call: nothing, where no row fits, or a row of the list
    pub data Price : Option ℕ → Type 0 where
      no_price : NoRowFits rs ds → Price none
      the_price : (r : PriceRow) → Memᴰ r rs → T (fits r) → (T (rows_in_order rs) → IsPrice rs ds r) → Price (some r.price)

    pub price : Price (price_for rs ds)
    unfolding price_for row_place
    price = go (first_largest_lem (row_weight ds) rs)
      where
        go : ((first_largest (map (row_weight ds) rs) ≡ none) × AtMost (row_weight ds) 0 rs) ⊎ ((k : ℕ) × (first_largest (map (row_weight ds) rs) ≡ some k) × Found (row_weight ds) rs k)
            → Price (price_at rs (first_largest (map (row_weight ds) rs)))
        go (inl t) = rw t.0 (no_price (λ s m. weight_none s (t.1 s m)))
        go (inr t) =
            let found = t.2 in
            let m : Memᴰ found.x rs = place_mem rs t.0 found.x found.largest.place in
            rw (t.1, found.largest.place) (the_price found.x m (weight_some found.x found.above) (λ o. largest_row o found.x m found.above found.largest.most))

    -- two such rows are one
    one_price : (r s : PriceRow) → IsPrice rs ds r → IsPrice rs ds s → r ≡ s
    one_price r s a b = go (a.others s b.held b.fits) (b.others r a.held a.fits)
      where
        go : (s ≡ r) ⊎ (length s.prefix < length r.prefix) → (r ≡ s) ⊎ (length r.prefix < length s.prefix) → r ≡ s
        go (inl e) y = sym e
        go (inr h) (inl e) = e
        go (inr h) (inr k) = absurd (omega (arith, h, k))

    -- THE THEOREMS

    rows_order : prices_pass rs ≡ true → T (rows_in_order rs)
    unfolding prices_pass
    rows_order e = all_at 2 (list_tests rs) (true_is (prices_pass rs) e)

    -- a price is given exactly if the row that C-11 describes has it
    pub price_is : (x : ℕ) → prices_pass rs ≡ true → (price_for rs ds ≡ some x) ↔ ((r : PriceRow) × IsPrice rs ds r × (r.price ≡ x))
    price_is x e = (λ q. to price q, λ w. from price w)
      where
        to : {o : Option ℕ} → Price o → o ≡ some x → (r : PriceRow) × IsPrice rs ds r × (r.price ≡ x)
        to (no_price n) q = absurd (let z : ◌≡◌ {A = ℕ} 0 1 = cc in omega arith)
        to (the_price r m f is) q = let p : r.price ≡ x = cc in (r, is (rows_order e), p)

        from : {o : Option ℕ} → Price o → (r : PriceRow) × IsPrice rs ds r × (r.price ≡ x) → o ≡ some x
        from (no_price n) w = absurd (true≢false (sym (is_true (fits w.0) w.1.fits) ∙ n w.0 w.1.held))
        from (the_price r m f is) w = ap (λ (s : PriceRow). some s.price) (one_price r w.0 (is (rows_order e)) w.1) ∙ ap some w.2

    -- none is given exactly if no row fits, in whatever order the rows stand
    pub no_price_lem : (price_for rs ds ≡ none) ↔ NoRowFits rs ds
    no_price_lem = (λ q. to price q, λ n. from price n)
      where
        to : {o : Option ℕ} → Price o → o ≡ none → NoRowFits rs ds
        to (no_price n) q = n
        to (the_price r m f is) q = absurd (let z : ◌≡◌ {A = ℕ} 0 1 = cc in omega arith)

        from : {o : Option ℕ} → Price o → NoRowFits rs ds → o ≡ none
        from (no_price n) k = refl
        from (the_price r m f is) k = absurd (true≢false (sym (is_true (fits r) f) ∙ k r m))
