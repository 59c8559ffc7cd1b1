-- How a price list lies in the lent bytes (docs/LAYOUT.md): its image, and the rows that bytes hold.
use Rattle.std.specs.Prelude.{ℕ, ◌-◌, ◌*◌, ◌/◌, ◌%◌, Bool, List, [], ◌∷◌, ◌++◌, map, length, drop, eqb}
use Rattle.std.proofs.Math.Option.{Option, none, some}
use Rattle.meaning.specs.Sizes.{PREFIX-AT, CODE-BYTES, RULE-WIDTH, PRICE-ROOM, ROWS-AT, PRICE-AT, PRICES-BYTES}
use Rattle.meaning.specs.Basics.{all_of, same_bytes, word, quad, part, digits_of, padded}
use Rattle.std.specs.Prelude.{if◌then◌else◌}
use Rattle.meaning.specs.Prices.{PriceRow, prices_pass}
use Rattle.buffer.specs.Zeros.{zeros}
use Rattle.buffer.specs.Slots.{slots, flat}
use Rattle.plan.specs.Layout.{word_bytes}

-- THE IMAGE OF A PRICE LIST

-- "4 bytes, high byte first as in every number here"
abbrev pub quad_bytes : ℕ → List ℕ
quad_bytes n = word_bytes (n / 65536) ++ word_bytes (n % 65536)

-- a byte 0 where a rule has its class, the prefix, a byte 0 where a rule has its length, the price, and a byte 0
unfoldable pub row_image : PriceRow → List ℕ
row_image r = 0 ∷ (length r.prefix ∷ padded 16 r.prefix) ++ (0 ∷ quad_bytes r.price ++ (0 ∷ []))

-- the count of rows, the slots that are held, and those that are free
unfoldable pub prices_image : List PriceRow → List ℕ
prices_image rs = word_bytes (length rs) ++ (flat (map row_image rs) ++ zeros (RULE-WIDTH * (PRICE-ROOM - length rs)))

-- THE ROWS THAT BYTES HOLD, whatever they are

-- the row of a slot
unfoldable pub row_of : List ℕ → PriceRow
row_of slot = record { prefix = digits_of (part PREFIX-AT CODE-BYTES slot); price = quad slot PRICE-AT }

unfoldable pub rows_in : List ℕ → List PriceRow
rows_in m = map row_of (slots RULE-WIDTH (word m 0) (drop ROWS-AT m))

-- RANGE: it has just the bytes of a price list, the rows that it holds pass, and its bytes are their image
abbrev pub prices_tests : List ℕ → List Bool
prices_tests m = eqb (length m) PRICES-BYTES ∷ prices_pass (rows_in m) ∷ same_bytes m (prices_image (rows_in m)) ∷ []

unfoldable pub prices_in_range : List ℕ → Bool
prices_in_range m = all_of (prices_tests m)

-- the rows of a lent list; none where it is out of range
unfoldable pub prices_of : List ℕ → Option (List PriceRow)
prices_of m = if prices_in_range m then some (rows_in m) else none
