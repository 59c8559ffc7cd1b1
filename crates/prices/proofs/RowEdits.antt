-- What the edits leave: the slot that is written is the image of the row that a body gives, and a slot put in at a place leaves the image of the rows with that row.
use Prim.Native.Nat.{ℕ, ◌+◌, ◌-◌, ◌*◌, ◌≤◌, ◌<◌}
use mathlib.Core.Path.{◌≡◌, refl, ap, ap₂, sym, subst, ◌∙◌}
use mathlib.Core.Bool.{true}
use mathlib.Core.List.{List, [], ◌∷◌, ◌++◌, map, append_assoc, append-nil}
use native.Mathlib.Omega.{arith}
use lib.ListN.{length, take, drop, length-append, drop_of_length-le}
use lib.Seq.{drop_at, length-take-le}
use lib.Dec.{T, le→leb}
use borrow.Rule.Slice.PartMut.{put_mid, mid_of}
use Rattle.meaning.specs.Sizes.{PREFIX-AT, CODE-BYTES, PRICE-BODY, RULE-WIDTH, PRICE-ROOM, ROWS-AT, PRICE-AT}
use Rattle.meaning.specs.Basics.{word, quad, digits_of, padded}
use Rattle.meaning.specs.Filters.{filter_of}
use Rattle.meaning.specs.Prices.{PriceRow, row_given, row_ranges, row_in_range, row_passes}
use Rattle.meaning.proofs.Tests.{true_is, each_all, all_at, digits_few}
use Rattle.buffer.specs.Bytes.{with_word}
use Rattle.buffer.specs.Zeros.{zeros}
use Rattle.buffer.specs.Slots.{slots, flat, with_slots, insert_at}
use Rattle.buffer.proofs.ZeroLaws.{length_zeros, zeros_add}
use Rattle.buffer.proofs.ListLaws.{rest_is, rest_back, map_insert, length_insert}
use Rattle.blocks.proofs.EndianLaws.{Bytes}
use Rattle.filter.specs.Slots.{FilterBytes}
use Rattle.plan.proofs.EditLaws.{put_between}
use Rattle.prices.specs.Layout.{quad_bytes, row_image, prices_image, row_of, rows_in}
use Rattle.prices.specs.Edits.{RowSlot}
use Rattle.prices.proofs.RowSlots.{code_digits, code_back, quad_again, pass_tests, row_size, row_back, image_passes, row_filter, slot_filter, slot_bytes}
use Rattle.prices.proofs.ImageLaws.{rows_long, free, image_area, InRange, slots_are}
use Rattle.plan.specs.Layout.{word_bytes}

-- THE ROW THAT A BODY GIVES

module _ (b : List ℕ) (t : T (row_in_range b)) where
  pub given_passes : T (row_passes (row_given b))
  unfolding row_in_range row_passes row_given
  given_passes =
      let c : List ℕ = take CODE-BYTES b in
      each_all (pass_tests (row_given b)) (
        le→leb (length (digits_of c)) 16 (digits_few 0 16 c (all_at 0 (row_ranges b) t)),
        (code_digits c (all_at 0 (row_ranges b) t), (all_at 1 (row_ranges b) t, tt)),
      )

  given_image : length b ≡ PRICE-BODY → Bytes b → row_image (row_given b) ≡ 0 ∷ take CODE-BYTES b ++ (0 ∷ drop CODE-BYTES b ++ (0 ∷ []))
  unfolding row_in_range row_image row_given
  given_image size bytes =
      let c : List ℕ = take CODE-BYTES b in
      let code : length (digits_of c) ∷ padded 16 (digits_of c) ≡ c = code_back c (length-take-le CODE-BYTES b (omega arith)) (all_at 0 (row_ranges b) t) in
      let none : drop PRICE-BODY b ≡ [] = drop_of_length-le b {i = PRICE-BODY} (omega arith) in
      let price : quad_bytes (quad b CODE-BYTES) ≡ drop CODE-BYTES b =
      sym (append-nil (quad_bytes (quad b CODE-BYTES))) ∙ (ap (λ (l : List ℕ). quad_bytes (quad b CODE-BYTES) ++ l) (sym none) ∙ quad_again b CODE-BYTES (omega arith) bytes) in
      ap₂ (λ (x y : List ℕ). 0 ∷ x ++ (0 ∷ y ++ (0 ∷ []))) code price

-- THE SLOT WRITTEN: z is the empty slot, y and x what copying left of the two parts lent

one_unused : zeros 1 ≡ 0 ∷ []
unfolding zeros
one_unused = refl

slot_parts : zeros 1 ++ (zeros CODE-BYTES ++ (zeros 1 ++ (zeros 4 ++ zeros 1))) ≡ zeros RULE-WIDTH
slot_parts = rw (zeros_add 4 1, zeros_add 1 5, zeros_add CODE-BYTES 6, zeros_add 1 (CODE-BYTES + 6))

module _ (z y x b : List ℕ) (size : length b ≡ PRICE-BODY) (z-is : z ≡ zeros RULE-WIDTH) (y-is : y ≡ take CODE-BYTES b) (x-is : x ≡ take (length b - CODE-BYTES) (drop CODE-BYTES b)) where
  abbrev code : List ℕ
  code = take CODE-BYTES b

  abbrev price : List ℕ
  price = drop CODE-BYTES b

  code_long : length code ≡ CODE-BYTES
  code_long = length-take-le CODE-BYTES b (omega arith)

  abbrev unused : List ℕ
  unused = zeros 1 ++ (zeros 4 ++ zeros 1)

  cleared : z ≡ zeros 1 ++ (zeros CODE-BYTES ++ unused)
  cleared = z-is ∙ sym slot_parts

  -- what stands before the price
  abbrev front : List ℕ
  front = zeros 1 ++ (code ++ zeros 1)

  front_long : length front ≡ PRICE-AT
  front_long = rw (length-append (zeros 1) (code ++ zeros 1), length-append code (zeros 1), length_zeros 1, code_long)

  half : put_mid PREFIX-AT CODE-BYTES z y ≡ front ++ (zeros 4 ++ zeros 1)
  half =
      ap₂ (put_mid PREFIX-AT CODE-BYTES) cleared y-is
      ∙ (put_between PREFIX-AT CODE-BYTES (zeros 1) (zeros CODE-BYTES) unused (length_zeros 1) (length_zeros CODE-BYTES) code ∙ sym (simp append_assoc))

  slot_left : put_mid PRICE-AT 4 (put_mid PREFIX-AT CODE-BYTES z y) x ≡ 0 ∷ code ++ (0 ∷ price ++ (0 ∷ []))
  slot_left =
      ap₂ (put_mid PRICE-AT 4) half (x-is ∙ rest_is CODE-BYTES b)
      ∙ (put_between PRICE-AT 4 front (zeros 4) (zeros 1) front_long (length_zeros 4) price ∙ rw one_unused (append_assoc (0 ∷ code) (0 ∷ []) (price ++ (0 ∷ []))))

  pub row_written : row_in_range b ≡ true → Bytes b → put_mid PRICE-AT 4 (put_mid PREFIX-AT CODE-BYTES z y) x ≡ row_image (row_given b)
  row_written range bytes = slot_left ∙ sym (given_image b (true_is (row_in_range b) range) size bytes)

-- A ROW'S SLOT

module _ (s : List ℕ) (r : RowSlot s) where
  pub slot_size : length s ≡ RULE-WIDTH
  slot_size = ap length r.own ∙ row_size (row_of s) (true_is (row_passes (row_of s)) r.passes)

  pub slot_code : FilterBytes s
  slot_code =
      let t : T (row_passes (row_of s)) = true_is (row_passes (row_of s)) r.passes in
      subst FilterBytes (sym r.own) (slot_bytes (row_image (row_of s)) (image_passes (row_of s) t) (row_size (row_of s) t))

  pub slot_asks : filter_of s ≡ row_filter (row_of s)
  slot_asks =
      let t : T (row_passes (row_of s)) = true_is (row_passes (row_of s)) r.passes in
      ap filter_of r.own ∙ (slot_filter (row_image (row_of s)) (image_passes (row_of s) t) ∙ ap row_filter (row_back (row_of s) t))

-- A SLOT PUT IN

module _ (m : List ℕ) (r : InRange m) (n k : ℕ) (x : PriceRow) (slot ys : List ℕ) (n-is : n ≡ word m 0) (place : k ≤ length (rows_in m)) (room : length (rows_in m) < PRICE-ROOM)
    (slot_is : slot ≡ row_image x)
    (y : ys ≡ with_slots RULE-WIDTH (n + 1) (insert_at k slot (slots RULE-WIDTH n (mid_of ROWS-AT (length m - ROWS-AT) m))) (mid_of ROWS-AT (length m - ROWS-AT) m)) where
  abbrev rows : List PriceRow
  rows = rows_in m

  abbrev many : ℕ
  many = length rows

  abbrev area : List ℕ
  area = drop ROWS-AT m

  count_is : n ≡ many
  count_is = n-is ∙ r.count

  more : length (insert_at k x rows) ≡ many + 1
  more = length_insert k x rows place ∙ omega arith

  -- the slots behind one more row
  rest : drop (RULE-WIDTH * (many + 1)) area ≡ free (many + 1)
  rest =
      let size : RULE-WIDTH * (PRICE-ROOM - many) ≡ RULE-WIDTH + RULE-WIDTH * (PRICE-ROOM - (many + 1)) = omega (arith, room) in
      let regroup : area ≡ (flat (map row_image rows) ++ zeros RULE-WIDTH) ++ free (many + 1) =
      ap (drop ROWS-AT) r.own ∙ (image_area rows ∙ (ap (λ (l : List ℕ). flat (map row_image rows) ++ l) (ap zeros size ∙ sym (zeros_add RULE-WIDTH (RULE-WIDTH * (PRICE-ROOM - (many + 1)))))
      ∙ sym (append_assoc (flat (map row_image rows)) (zeros RULE-WIDTH) (free (many + 1))))) in
      let long : length (flat (map row_image rows) ++ zeros RULE-WIDTH) ≡ RULE-WIDTH * (many + 1) =
      rw (length-append (flat (map row_image rows)) (zeros RULE-WIDTH), rows_long rows r.passes.rows, length_zeros RULE-WIDTH) (omega arith) in
      ap (drop (RULE-WIDTH * (many + 1))) regroup ∙ drop_at (flat (map row_image rows) ++ zeros RULE-WIDTH) (free (many + 1)) (RULE-WIDTH * (many + 1)) long

  area_left : ys ≡ flat (map row_image (insert_at k x rows)) ++ free (length (insert_at k x rows))
  area_left =
      let held : slots RULE-WIDTH n area ≡ map row_image rows = ap (λ (j : ℕ). slots RULE-WIDTH j area) n-is ∙ slots_are m r in
      y ∙ (ap (λ (l : List ℕ). with_slots RULE-WIDTH (n + 1) (insert_at k slot (slots RULE-WIDTH n l)) l) (rest_is ROWS-AT m)
      ∙ (ap₂ (λ (s : List ℕ) (ss : List (List ℕ)). flat (insert_at k s ss) ++ drop (RULE-WIDTH * (n + 1)) area) slot_is held
      ∙ ap₂ (λ (ss : List (List ℕ)) (l : List ℕ). flat ss ++ l) (sym (map_insert row_image k x rows)) (ap (λ (j : ℕ). drop (RULE-WIDTH * (j + 1)) area) count_is ∙ (rest ∙ ap free (sym more)))))

  front_is : take ROWS-AT m ≡ word_bytes many
  unfolding prices_image
  front_is = ap (take ROWS-AT) r.own

  pub row_inserted : with_word (put_mid ROWS-AT (length m - ROWS-AT) m ys) 0 (n + 1) ≡ prices_image (insert_at k x rows)
  unfolding with_word prices_image
  row_inserted =
      let size : ROWS-AT ≤ length m = omega (arith, r.size) in
      let count : n + 1 ≡ length (insert_at k x rows) = omega (arith, count_is, more) in
      ap (λ (l : List ℕ). with_word l 0 (n + 1)) (rest_back ROWS-AT m ys size ∙ ap (λ (l : List ℕ). l ++ ys) front_is)
      ∙ ap₂ (λ (j : ℕ) (l : List ℕ). word_bytes j ++ l) count area_left
