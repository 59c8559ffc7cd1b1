-- The price of a call in C-11's own words: what the row that prices it must be. proofs/Prices.antt proves that it is so, and that no other row is.
-- And what adding a row makes of a list.
use Rattle.std.specs.Prelude.{ℕ, ◌<◌, ◌≡◌, ◌≢◌, ◌⊎◌, ◌↔◌, false, length, take, T}
use mathlib.Core.List.{List, Memᴰ}
use Rattle.std.proofs.Math.Option.{some}
use Rattle.meaning.specs.Sizes.{PRICE-BODY}
use Rattle.meaning.specs.Basics.{begins_with}
use Rattle.meaning.specs.Prices.{PriceRow, row_given, price_refusal, rows_after}

-- r is held, the digits begin with its prefix, and every other row that fits has a shorter one: "the longest that fits winning"
pub record IsPrice (rs : List PriceRow) (ds : List ℕ) (r : PriceRow) : Type 0 where
  pub held : Memᴰ r rs
  pub fits : T (begins_with r.prefix ds)
  pub others : (s : PriceRow) → Memᴰ s rs → T (begins_with s.prefix ds) → (s ≡ r) ⊎ (length s.prefix < length r.prefix)

-- no row fits
abbrev pub NoRowFits : List PriceRow → List ℕ → Type 0
NoRowFits rs ds = (s : PriceRow) → Memᴰ s rs → begins_with s.prefix ds ≡ false

-- a list afterwards holds r, every row of rs and no other
abbrev pub HoldsAlso : List PriceRow → PriceRow → List PriceRow → Type 0
HoldsAlso rs r after = (s : PriceRow) → Memᴰ s after ↔ ((s ≡ r) ⊎ Memᴰ s rs)

-- "Kind 17 adds a row"; a refusal adds none
pub record AddsRow (rs : List PriceRow) (body : List ℕ) : Type 0 where
  pub accepted : price_refusal (some rs) body ≡ 0 → (after : List PriceRow) × (rows_after (some rs) body ≡ some after) × HoldsAlso rs (row_given (take PRICE-BODY body)) after
  pub refused : price_refusal (some rs) body ≢ 0 → rows_after (some rs) body ≡ some rs
