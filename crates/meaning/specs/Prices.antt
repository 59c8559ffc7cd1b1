-- C-11's price list: rows of a prefix and a price, the price of a call to some digits, and the row that is added.
use Prim.Native.Nat.{ℕ, ◌+◌}
use Rattle.std.specs.Prelude.{Bool, true, ◌&&◌, not, List, [], ◌∷◌, map, length, take, leb, ltb, eqb}
use Rattle.std.proofs.Math.Option.{Option, none, some}
use Rattle.std.proofs.Math.ListN.{get_elem?}
use Rattle.meaning.specs.Sizes.{CODE-BYTES, PRICE-BODY, PRICE-ROOM}
use Rattle.meaning.specs.Basics.{all_of, all, any, is_zero, is_digit, begins_with, same_bytes, quad, digits_of, digits_in_range}
use Rattle.std.specs.Prelude.{if◌then◌else◌}
use Rattle.meaning.specs.Refusals.{CUT, RANGE, TAKEN, FULL, Line, first_of}
use Rattle.meaning.specs.Filters.{compare_prefixes, is_lt}
use Rattle.meaning.specs.Rules.{first_largest}

-- "gives a price per minute .. by prefix": in thousandths of a cent
pub record PriceRow : Type 0 where
  pub prefix : List ℕ
  pub price : ℕ

-- "up to 1,000,000 thousandths of a cent"
abbrev pub PRICE-LIMIT : ℕ
PRICE-LIMIT = 1000000

-- A ROW'S BODY: "prefix 1+16, price 4"

unfoldable pub row_given : List ℕ → PriceRow
row_given b = record { prefix = digits_of (take CODE-BYTES b); price = quad b CODE-BYTES }

-- RANGE: "up to 1,000,000 .., by prefix of 0 to 16 digits"
abbrev pub row_ranges : List ℕ → List Bool
row_ranges b = digits_in_range 0 16 (take CODE-BYTES b) ∷ leb (quad b CODE-BYTES) PRICE-LIMIT ∷ []

unfoldable pub row_in_range : List ℕ → Bool
row_in_range b = all_of (row_ranges b)

-- THE PRICE OF A CALL TO SOME DIGITS

-- 0 for a row that does not fit the digits; the longer of two that fit weighs more
unfoldable pub row_weight : List ℕ → PriceRow → ℕ
row_weight ds r = if begins_with r.prefix ds then length r.prefix + 1 else 0

-- "the longest that fits winning": its place
unfoldable pub row_place : List PriceRow → List ℕ → Option ℕ
row_place rs ds = first_largest (map (row_weight ds) rs)

abbrev pub price_in : Option PriceRow → Option ℕ
price_in none = none
price_in (some r) = some r.price

abbrev pub price_at : List PriceRow → Option ℕ → Option ℕ
price_at rs none = none
price_at rs (some k) = price_in (get_elem? rs k)

-- none where no row fits
unfoldable pub price_for : List PriceRow → List ℕ → Option ℕ
price_for rs ds = price_at rs (row_place rs ds)

-- A LIST OF ROWS

abbrev pub is_before_row : PriceRow → PriceRow → Bool
is_before_row r s = is_lt (compare_prefixes r.prefix s.prefix)

-- each row stands before every later one, so that none has "a prefix twice"
abbrev pub rows_in_order : List PriceRow → Bool
rows_in_order [] = true
rows_in_order (r ∷ rs) = all (is_before_row r) rs && rows_in_order rs

-- its fields in range
unfoldable pub row_passes : PriceRow → Bool
row_passes r = all_of (leb (length r.prefix) 16 ∷ all is_digit r.prefix ∷ leb r.price PRICE-LIMIT ∷ [])

-- "A price list of up to 256 rows"; RANGE: "if a lent price list has a field out of range or a prefix twice"
abbrev pub list_tests : List PriceRow → List Bool
list_tests rs = leb (length rs) PRICE-ROOM ∷ all row_passes rs ∷ rows_in_order rs ∷ []

unfoldable pub prices_pass : List PriceRow → Bool
prices_pass rs = all_of (list_tests rs)

-- THE CALL THAT ADDS A ROW, over the rows of a lent list, none where it is out of range

abbrev pub has_prefix : List ℕ → PriceRow → Bool
has_prefix ds r = same_bytes ds r.prefix

-- the checks of a row in range, over the rows of a list in range: "TAKEN for a prefix held, FULL at 256"
abbrev pub place_lines : List PriceRow → PriceRow → List Line
place_lines rs x = (any (has_prefix x.prefix) rs, TAKEN) ∷ (eqb (length rs) PRICE-ROOM, FULL) ∷ []

abbrev pub add_price_lines : Option (List PriceRow) → List ℕ → List Line
add_price_lines none b = (true, RANGE) ∷ []
add_price_lines (some rs) b = (not (row_in_range b), RANGE) ∷ place_lines rs (row_given b)

-- the number that it is answered with, for a body of any length: 0 where it is accepted
unfoldable pub price_refusal : Option (List PriceRow) → List ℕ → ℕ
price_refusal s body = first_of ((ltb (length body) PRICE-BODY, CUT) ∷ add_price_lines s (take PRICE-BODY body))

-- a row put in at its place in prefix order
abbrev pub with_row : PriceRow → List PriceRow → List PriceRow
with_row r [] = r ∷ []
with_row r (s ∷ rs) = if is_before_row r s then r ∷ s ∷ rs else s ∷ with_row r rs

abbrev pub on_rows : Option (List PriceRow) → (List PriceRow → List PriceRow) → Option (List PriceRow)
on_rows none change = none
on_rows (some rs) change = some (change rs)

-- the rows afterwards: "None changes a sum", nor a row
unfoldable pub rows_after : Option (List PriceRow) → List ℕ → Option (List PriceRow)
rows_after s body = if is_zero (price_refusal s body) then on_rows s (with_row (row_given (take PRICE-BODY body))) else s
