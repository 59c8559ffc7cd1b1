-- What the calls about a price list promise.
use Rattle.std.specs.Prelude.{ℕ, ◌≤◌, ◌≡◌, List, Option as Optional, Some, None}
use Rattle.std.proofs.Math.Option.{Option, none, some}
use Rattle.meaning.specs.Prices.{PriceRow, PRICE-LIMIT, price_for, price_refusal, rows_after}
use Rattle.prices.specs.Layout.{prices_image, rows_in, prices_of}

-- THE PRICE OF A CALL

abbrev pub priced_of : Optional ℕ → Option ℕ
priced_of (Some p) = some p
priced_of None = none

-- the price that is given; 0 where none is
abbrev pub per_minute : Optional ℕ → ℕ
per_minute (Some p) = p
per_minute None = 0

-- the price of a call to some digits, "up to 1,000,000 thousandths of a cent"
pub record GivesPrice (m ds : List ℕ) (r : Optional ℕ) : Type 0 where
  pub is : priced_of r ≡ price_for (rows_in m) ds
  pub small : per_minute r ≤ PRICE-LIMIT

-- THE CALL THAT ADDS A ROW

-- the image of the rows that are left; the bytes as they were where the list is out of range
abbrev pub prices_memory : Option (List PriceRow) → List ℕ → List ℕ
prices_memory none m = m
prices_memory (some rs) m = prices_image rs

-- the number answered, and the memory left
pub record AddsPrice (m body after : List ℕ) (number : ℕ) : Type 0 where
  pub number_is : number ≡ price_refusal (prices_of m) body
  pub memory_is : after ≡ prices_memory (rows_after (prices_of m) body) m
