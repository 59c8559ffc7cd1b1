-- What is known of a row's slot, of the price read from one, and what putting a slot in makes.
use Rattle.std.specs.Prelude.{ℕ, ◌≤◌, ◌≡◌, true, List}
use Rattle.std.proofs.Math.Option.{some}
use Rattle.std.proofs.Math.ListN.{get_elem?}
use Rattle.meaning.specs.Basics.{is_zero}
use Rattle.std.specs.Prelude.{if◌then◌else◌}
use Rattle.meaning.specs.Refusals.{first_of}
use Rattle.meaning.specs.Prices.{PriceRow, PRICE-LIMIT, price_in, row_passes, place_lines, with_row}
use Rattle.prices.specs.Layout.{row_image, prices_image, row_of, rows_in}

-- x is the price in the row at place k
pub record RowPrice (m : List ℕ) (k x : ℕ) : Type 0 where
  pub is : price_in (get_elem? (rows_in m) k) ≡ some x
  pub small : x ≤ PRICE-LIMIT

-- s is the slot of a row that passes
pub record RowSlot (s : List ℕ) : Type 0 where
  pub own : s ≡ row_image (row_of s)
  pub passes : row_passes (row_of s) ≡ true

-- the number answered, and the memory left
pub record PlacesRow (m : List ℕ) (x : PriceRow) (after : List ℕ) (number : ℕ) : Type 0 where
  pub number_is : number ≡ first_of (place_lines (rows_in m) x)
  pub memory_is : after ≡ (if is_zero number then prices_image (with_row x (rows_in m)) else m)
