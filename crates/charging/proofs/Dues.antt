-- What a call is due: its product, and by its outcome.
use Prim.Native.Nat.{ℕ, ◌*◌, ◌≤◌}
use mathlib.Core.Path.{◌≡◌, refl, ap, sym, subst, ◌∙◌}
use mathlib.Core.Logic.{◌≢◌}
use mathlib.Core.List.{List}
use mathlib.Core.Option.{Option, none, some}
use native.Mathlib.Nat.{mul-le-mul}
use native.Mathlib.Omega.{arith}
use borrow.Author.Tests.{ne_eqb}
use Rattle.meaning.specs.Answer.{RESPONDED, FORMATTED}
use Rattle.meaning.specs.Prices.{PriceRow, PRICE-LIMIT, price_for}
use Rattle.meaning.specs.Ledger.{UNIT-LIMIT}
use Rattle.meaning.specs.Charges.{SECONDS-LIMIT, priced_by, times_price, due_on}
use Rattle.prices.specs.Layout.{rows_in}
use Rattle.prices.specs.Promises.{priced_of, per_minute, GivesPrice}
use Rattle.std.specs.Prelude.{Option as Optional, Some, None}
use Rattle.charging.specs.Dues.{units_of, GivesDue}

pub product_small : (s p : ℕ) → s ≤ SECONDS-LIMIT → p ≤ PRICE-LIMIT → s * p ≤ UNIT-LIMIT
product_small s p h k = let m : s * p ≤ SECONDS-LIMIT * PRICE-LIMIT = mul-le-mul h k in omega (arith, m)

module _ {m ds : List ℕ} {r : Optional ℕ} (g : GivesPrice m ds r) where
  pub price_small : (p : ℕ) → r ≡ Some p → p ≤ PRICE-LIMIT
  price_small p e = subst (λ (x : Optional ℕ). per_minute x ≤ PRICE-LIMIT) e g.small

  pub due_priced : (s p : ℕ) → r ≡ Some p → s ≤ SECONDS-LIMIT → GivesDue (times_price s (price_for (rows_in m) ds)) (Some (s * p))
  due_priced s p e h =
      let is : some p ≡ price_for (rows_in m) ds = sym (ap priced_of e) ∙ g.is in
      record { is = ap (times_price s) is; small = product_small s p h (price_small p e) }

  pub due_none : (s : ℕ) → r ≡ None → GivesDue (times_price s (price_for (rows_in m) ds)) None
  due_none s e = let is : none ≡ price_for (rows_in m) ds = sym (ap priced_of e) ∙ g.is in record { is = ap (times_price s) is; small = omega arith }

module _ (rs : List PriceRow) (s outcome : ℕ) (incoming outgoing : List ℕ) where
  pub due_responded : outcome ≡ RESPONDED → GivesDue (due_on rs s (priced_by outcome incoming outgoing)) (Some 0)
  due_responded e = rw e (record { is = refl; small = omega arith })

  pub due_formatted : {r : Optional ℕ} → outcome ≡ FORMATTED → GivesDue (times_price s (price_for rs outgoing)) r → GivesDue (due_on rs s (priced_by outcome incoming outgoing)) r
  due_formatted e g = rw e g

  pub due_incoming : {r : Optional ℕ} → outcome ≢ RESPONDED → outcome ≢ FORMATTED → GivesDue (times_price s (price_for rs incoming)) r
      → GivesDue (due_on rs s (priced_by outcome incoming outgoing)) r
  due_incoming h k g = rw (ne_eqb outcome FORMATTED k, ne_eqb outcome RESPONDED h) g

pub due_small : {d : Option ℕ} {r : Optional ℕ} {n : ℕ} → GivesDue d r → r ≡ Some n → n ≤ UNIT-LIMIT
due_small g e = subst (λ (x : Optional ℕ). units_of x ≤ UNIT-LIMIT) e g.small
