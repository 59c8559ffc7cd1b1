-- One record more on a ledger in range: its sums have room for it, and the two changes make the ledger entered.
use Prim.Native.Nat.{ℕ, ◌≤◌}
use mathlib.Core.Path.{◌≡◌}
use mathlib.Core.List.{List}
use native.Mathlib.Omega.{arith}
use lib.IntN.{ℤ}
use Rattle.meaning.specs.Ledger.{LEDGER-LIMIT, UNIT-LIMIT, ledger_of, totals_at, plus, with_totals, entered}
use Rattle.meaning.specs.declared.Totals.{Totals}
use Rattle.meaning.proofs.Ledgers.{Natural, whole_natural, district_natural}
use Rattle.ledger.specs.Entries.{entry_for, Enterable, Addable}

natural_addable : (t : Totals) (most due billed : ℕ) → Natural most t → most ≤ LEDGER-LIMIT → due ≤ UNIT-LIMIT → billed ≤ UNIT-LIMIT → Addable t due billed
natural_addable t most due billed n h d b =
    rw n.is (record {
      count = record { sfits = omega arith };
      due_sum = record { sfits = omega arith };
      billed_sum = record { sfits = omega arith };
      due_small = d;
      billed_small = b;
    })

module _ (ns : List ℤ) (whole : Totals) (district due billed : ℕ) where
  module _ (asks : Enterable (ledger_of ns whole) (entry_for district due billed)) where
    pub whole_addable : Addable whole due billed
    whole_addable = natural_addable whole LEDGER-LIMIT due billed (whole_natural (ledger_of ns whole) asks.in_range) (omega arith) asks.due asks.billed

    pub district_addable : (t : Totals) → t ≡ totals_at ns district → Addable t due billed
    district_addable t e =
        let w = whole_natural (ledger_of ns whole) asks.in_range in
        rw e (natural_addable (totals_at ns district) w.records due billed (district_natural (ledger_of ns whole) asks.in_range district asks.district) w.few asks.due asks.billed)

  pub entered_is : (t u r : Totals) (after : List ℤ) → t ≡ totals_at ns district → u ≡ plus (entry_for 0 due billed) t → after ≡ with_totals district u ns → r ≡ plus (entry_for 0 due billed) whole
      → ledger_of after r ≡ entered (entry_for district due billed) (ledger_of ns whole)
  unfolding entered plus
  entered_is t u r after p q a w = rw (a, q, p, w)
