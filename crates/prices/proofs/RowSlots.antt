-- A slot passes exactly if its row does and its bytes are the row's image; and the filter that a slot has, as a rule's.
use Prim.Native.Nat.{ℕ, ◌+◌, ◌-◌, ◌/◌, ◌%◌, ◌≤◌, ◌<◌, zero-le}
use mathlib.Core.Path.{◌≡◌, refl, ap, ap₂, sym, subst, ◌∙◌}
use mathlib.Core.Bool.{Bool, ◌&&◌}
use mathlib.Core.List.{List, [], ◌∷◌, ◌++◌}
use native.Mathlib.Omega.{arith}
use native.Mathlib.Nat.{div-add-mod'}
use native.Mathlib.Numerals.{add-one}
use lib.ListN.{length, take, drop, get_or, replicate, length-append, length-drop, take-append-drop, drop_of_length-le}
use lib.Seq.{take_at, drop_at, drop-drop, drop-cons, get_or-take, get_or-drop, length-take-le}
use lib.Dec.{T, leb, leb→le, le→leb, eqb→eq, lit<}
use Rattle.meaning.specs.Sizes.{PREFIX-AT, LENGTH-AT, CODE-BYTES, RULE-WIDTH, PRICE-AT, PRICE-END}
use Rattle.meaning.specs.Basics.{all, within, is_zero, is_digit, word, quad, part, digits_of, digits_in_range, padded}
use Rattle.meaning.specs.Filters.{Filter, filter_of}
use Rattle.meaning.specs.Prices.{PriceRow, PRICE-LIMIT, row_passes}
use Rattle.meaning.proofs.Tests.{and_left, and_right, and_both, each_all, all_at, part_length, digits_few, digits_said}
use Rattle.buffer.specs.Zeros.{zeros}
use Rattle.buffer.proofs.ZeroLaws.{length_zeros, all_zeros, zeros_pass}
use Rattle.filter.specs.Slots.{FilterBytes}
use Rattle.plan.proofs.ImageLaws.{word_bytes_lem, word_drop}
use Rattle.blocks.proofs.EndianLaws.{Bytes}
use Rattle.examiner.proofs.Bytes.{word_again}
use Rattle.prices.specs.Layout.{quad_bytes, row_image, row_of}
use Rattle.prices.specs.Examined.{row_tests, row_test}
use Rattle.plan.specs.Layout.{word_bytes}

-- A PREFIX AS A DIGIT STRING

unused : (p : List ℕ) → replicate (16 - length p) 0 ≡ zeros (16 - length p)
unfolding zeros
unused p = refl

pub code_size : (p : List ℕ) → length p ≤ 16 → length (length p ∷ padded 16 p) ≡ CODE-BYTES
code_size p h = rw (unused p, length-append p (zeros (16 - length p)), length_zeros (16 - length p)) (omega arith)

code_passes_lem : (p : List ℕ) → length p ≤ 16 → T (all is_digit p) → T (digits_in_range 0 16 (length p ∷ padded 16 p))
code_passes_lem p h t =
    let n : ℕ = length p in
    let rest : List ℕ = replicate (16 - n) 0 in
    and_both (within 0 16 n) (all is_digit (take n (p ++ rest)) && all is_zero (drop n (p ++ rest))) (and_both (leb 0 n) (leb n 16) (le→leb 0 n zero-le) (le→leb n 16 h))
    (and_both (all is_digit (take n (p ++ rest))) (all is_zero (drop n (p ++ rest))) (rw (take_at p rest n refl) t)
    (rw (drop_at p rest n refl, unused p) (zeros_pass (16 - n))))

pub code_digits : (c : List ℕ) → T (digits_in_range 0 16 c) → T (all is_digit (digits_of c))
code_digits [] t = absurd t
code_digits (n ∷ ds) t =
    and_left (all is_digit (take n ds)) (all is_zero (drop n ds)) (and_right (within 0 16 n) (all is_digit (take n ds) && all is_zero (drop n ds)) t)

pub code_back : (c : List ℕ) → length c ≡ CODE-BYTES → T (digits_in_range 0 16 c) → length (digits_of c) ∷ padded 16 (digits_of c) ≡ c
unfolding zeros
code_back [] l t = absurd t
code_back (n ∷ ds) l t =
    let few : n ≤ 16 = digits_said 0 16 (n ∷ ds) t in
    let long : length ds ≡ 16 = omega arith in
    let size : length (take n ds) ≡ n = length-take-le n ds (omega arith) in
    let clear : drop n ds ≡ zeros (length (drop n ds)) =
    all_zeros (drop n ds) (and_right (all is_digit (take n ds)) (all is_zero (drop n ds)) (and_right (within 0 16 n) (all is_digit (take n ds) && all is_zero (drop n ds)) t)) in
    let rest : length (drop n ds) ≡ 16 - n = length-drop n ds ∙ ap (λ (k : ℕ). k - n) long in
    rw size (ap (λ (l : List ℕ). n ∷ l) (ap (λ (l : List ℕ). take n ds ++ l) (sym (clear ∙ ap zeros rest)) ∙ take-append-drop n ds))

-- A PRICE IN FOUR BYTES

quad_drop : (b : List ℕ) (at : ℕ) (n : ℕ) (t : List ℕ) → drop at b ≡ quad_bytes n ++ t → quad b at ≡ n
quad_drop b at n t e =
    let high : word b at ≡ n / 65536 = rw (word_drop b at, e) (word_bytes_lem (n / 65536)) in
    let behind : drop (at + 2) b ≡ drop 2 (quad_bytes n ++ t) = sym (drop-drop 2 at b) ∙ ap (drop 2) e in
    let low : word b (at + 2) ≡ n % 65536 = rw (word_drop b (at + 2), behind) (word_bytes_lem (n % 65536)) in
    rw (high, low) (div-add-mod' n 65536)

pub quad_again : (b : List ℕ) (at : ℕ) → at + 3 < length b → Bytes b → quad_bytes (quad b at) ++ drop (at + 4) b ≡ drop at b
quad_again b at inside h =
    let h0 : get_or b at 0 < 256 = h at in
    let h1 : get_or b (at + 1) 0 < 256 = h (at + 1) in
    let h2 : get_or b (at + 2) 0 < 256 = h (at + 2) in
    let h3 : get_or b (at + 2 + 1) 0 < 256 = h (at + 2 + 1) in
    let high : quad b at / 65536 ≡ word b at = omega arith in
    let low : quad b at % 65536 ≡ word b (at + 2) = omega arith in
    let four : at + 4 ≡ at + 2 + 2 = omega arith in
    let second : word_bytes (word b (at + 2)) ++ drop (at + 2 + 2) b ≡ drop (at + 2) b = word_again b (at + 2) (omega arith) h in
    rw (high, low, four) (ap (λ (l : List ℕ). word_bytes (word b at) ++ l) second ∙ word_again b at (omega arith) h)

-- THE SHAPE OF A SLOT

module _ (code : List ℕ) (n : ℕ) (size : length code ≡ CODE-BYTES) where
  abbrev shaped : List ℕ
  shaped = 0 ∷ code ++ (0 ∷ quad_bytes n ++ (0 ∷ []))

  shaped_size : length shaped ≡ RULE-WIDTH
  shaped_size = rw (length-append code (0 ∷ quad_bytes n ++ (0 ∷ [])), size)

  shaped_code : part PREFIX-AT CODE-BYTES shaped ≡ code
  shaped_code = take_at code (0 ∷ quad_bytes n ++ (0 ∷ [])) CODE-BYTES size

  shaped_behind : drop LENGTH-AT shaped ≡ 0 ∷ quad_bytes n ++ (0 ∷ [])
  shaped_behind = drop_at code (0 ∷ quad_bytes n ++ (0 ∷ [])) CODE-BYTES size

  shaped_length : get_or shaped LENGTH-AT 0 ≡ 0
  shaped_length = sym (get_or-drop LENGTH-AT shaped 0 0) ∙ ap (λ (l : List ℕ). get_or l 0 0) shaped_behind

  shaped_end : get_or shaped PRICE-END 0 ≡ 0
  shaped_end = sym (get_or-drop LENGTH-AT shaped 5 0) ∙ ap (λ (l : List ℕ). get_or l 5 0) shaped_behind

  shaped_price : quad shaped PRICE-AT ≡ n
  shaped_price = quad_drop shaped PRICE-AT n (0 ∷ []) (sym (drop-drop 1 LENGTH-AT shaped) ∙ ap (drop 1) shaped_behind)

-- the parts of a slot put together again
module _ (s : List ℕ) where
  zero_first : (k : ℕ) → k < length s → get_or s k 0 ≡ 0 → 0 ∷ drop (k + 1) s ≡ drop k s
  zero_first k h e = sym (drop-cons s k 0 h ∙ rw (e, add-one k))

  joined : (code price : List ℕ) → length s ≡ RULE-WIDTH → get_or s 0 0 ≡ 0 → get_or s LENGTH-AT 0 ≡ 0 → get_or s PRICE-END 0 ≡ 0
      → code ≡ part PREFIX-AT CODE-BYTES s → price ++ drop PRICE-END s ≡ drop PRICE-AT s → 0 ∷ code ++ (0 ∷ price ++ (0 ∷ [])) ≡ s
  joined code price size class len end code_is price_is =
      let last : drop PRICE-END s ≡ 0 ∷ [] = sym (zero_first PRICE-END (omega arith) end) ∙ ap (λ (l : List ℕ). 0 ∷ l) (drop_of_length-le s {i = PRICE-END + 1} (omega arith)) in
      let four : price ++ (0 ∷ []) ≡ drop PRICE-AT s = ap (λ (l : List ℕ). price ++ l) (sym last) ∙ price_is in
      let behind : 0 ∷ price ++ (0 ∷ []) ≡ drop LENGTH-AT s = ap (λ (l : List ℕ). 0 ∷ l) four ∙ zero_first LENGTH-AT (omega arith) len in
      let rest : code ++ (0 ∷ price ++ (0 ∷ [])) ≡ drop PREFIX-AT s =
      ap₂ (λ (x y : List ℕ). x ++ y) code_is (behind ∙ sym (drop-drop CODE-BYTES PREFIX-AT s)) ∙ take-append-drop CODE-BYTES (drop PREFIX-AT s) in
      ◌∙◌ {b = 0 ∷ drop PREFIX-AT s} (ap (λ (l : List ℕ). 0 ∷ l) rest) (zero_first 0 (omega arith) class)

-- THE IMAGE OF A ROW THAT PASSES

abbrev pub pass_tests : PriceRow → List Bool
pass_tests r = leb (length r.prefix) 16 ∷ all is_digit r.prefix ∷ leb r.price PRICE-LIMIT ∷ []

module _ (r : PriceRow) (t : T (row_passes r)) where
  pub prefix_few : length r.prefix ≤ 16
  unfolding row_passes
  prefix_few = leb→le (length r.prefix) 16 (all_at 0 (pass_tests r) t)

  pub price_small : r.price ≤ PRICE-LIMIT
  unfolding row_passes
  price_small = leb→le r.price PRICE-LIMIT (all_at 2 (pass_tests r) t)

  abbrev code : List ℕ
  code = length r.prefix ∷ padded 16 r.prefix

  sized : length code ≡ CODE-BYTES
  sized = code_size r.prefix prefix_few

  pub row_size : length (row_image r) ≡ RULE-WIDTH
  unfolding row_image
  row_size = shaped_size code r.price sized

  pub row_back : row_of (row_image r) ≡ r
  unfolding row_of row_image
  row_back =
      let digits : digits_of (part PREFIX-AT CODE-BYTES (shaped code r.price sized)) ≡ r.prefix =
      ap digits_of (shaped_code code r.price sized) ∙ take_at r.prefix (replicate (16 - length r.prefix) 0) (length r.prefix) refl in
      let price : quad (shaped code r.price sized) PRICE-AT ≡ r.price = shaped_price code r.price sized in
      λ i. record { prefix = digits i; price = price i }

  pub image_passes : T (row_test (row_image r))
  unfolding row_test row_image row_passes
  image_passes =
      each_all (row_tests (shaped code r.price sized)) (
        tt,
        (
          rw (shaped_length code r.price sized) tt,
          (
            rw (shaped_end code r.price sized) tt,
            (
              subst (λ (c : List ℕ). T (digits_in_range 0 16 c)) (sym (shaped_code code r.price sized)) (code_passes_lem r.prefix prefix_few (all_at 1 (pass_tests r) t)),
              (rw (shaped_price code r.price sized) (all_at 2 (pass_tests r) t), tt),
            ),
          ),
        ),
      )

-- A SLOT THAT PASSES

-- the filter of a row's slot: class 0, and a wildcard length
abbrev pub row_filter : PriceRow → Filter
row_filter r = record { class = 0; prefix = r.prefix; len = 0 }

module _ (s : List ℕ) (t : T (row_test s)) where
  pub slot_filter : filter_of s ≡ row_filter (row_of s)
  unfolding row_test filter_of row_of
  slot_filter =
      let class : get_or s 0 0 ≡ 0 = eqb→eq (get_or s 0 0) 0 (all_at 0 (row_tests s) t) in
      let len : get_or s LENGTH-AT 0 ≡ 0 = eqb→eq (get_or s LENGTH-AT 0) 0 (all_at 1 (row_tests s) t) in
      λ i. record { class = class i; prefix = digits_of (part PREFIX-AT CODE-BYTES s); len = len i }

  pub row_reads : T (row_passes (row_of s))
  unfolding row_test row_of row_passes
  row_reads =
      let c : List ℕ = part PREFIX-AT CODE-BYTES s in
      let range : T (digits_in_range 0 16 c) = all_at 3 (row_tests s) t in
      each_all (pass_tests (row_of s)) (le→leb (length (digits_of c)) 16 (digits_few 0 16 c range), (code_digits c range, (all_at 4 (row_tests s) t, tt)))

  pub slot_said : get_or s PREFIX-AT 0 ≤ 16
  unfolding row_test
  slot_said =
      let c : List ℕ = part PREFIX-AT CODE-BYTES s in
      let said : get_or c 0 0 ≤ 16 = digits_said 0 16 c (all_at 3 (row_tests s) t) in
      let same : get_or c 0 0 ≡ get_or s PREFIX-AT 0 = get_or-take CODE-BYTES (drop PREFIX-AT s) 0 0 (lit< tt) ∙ get_or-drop PREFIX-AT s 0 0 in
      omega arith

  module _ (size : length s ≡ RULE-WIDTH) where
    pub slot_bytes : FilterBytes s
    slot_bytes = record { whole = omega arith; prefix = slot_said }

    pub row_image_lem : Bytes s → row_image (row_of s) ≡ s
    unfolding row_test row_image row_of
    row_image_lem b =
        joined s (length (row_of s).prefix ∷ padded 16 (row_of s).prefix) (quad_bytes (row_of s).price) size (eqb→eq (get_or s 0 0) 0 (all_at 0 (row_tests s) t))
        (eqb→eq (get_or s LENGTH-AT 0) 0 (all_at 1 (row_tests s) t)) (eqb→eq (get_or s PRICE-END 0) 0 (all_at 2 (row_tests s) t))
        (code_back (part PREFIX-AT CODE-BYTES s) (part_length s PREFIX-AT CODE-BYTES (omega arith)) (all_at 3 (row_tests s) t)) (quad_again s PRICE-AT (omega arith) b)
