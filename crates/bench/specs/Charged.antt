-- A call record charged and entered: its outcome, the ledger and the buffer that are left.
use Rattle.std.specs.Prelude.{ℕ, ◌≡◌, List}
use Rattle.std.proofs.Math.Option.{some}
use Rattle.meaning.specs.Sizes.{DIGIT-ROOM}
use Rattle.meaning.specs.Basics.{written_over}
use Rattle.meaning.specs.Ledger.{Ledger}
use Rattle.meaning.specs.Charges.{charged, ledger_after}
use Rattle.plan.specs.Layout.{plan_of}
use Rattle.prices.specs.Layout.{rows_in}

pub record ChargedAs (m prices : List ℕ) (l : Ledger) (body out : List ℕ) (after : Ledger) (left : List ℕ) (outcome : ℕ) : Type 0 where
  pub outcome_is : outcome ≡ (charged (some (plan_of m)) (some (rows_in prices)) l DIGIT-ROOM body).outcome
  pub buffer_is : left ≡ written_over (charged (some (plan_of m)) (some (rows_in prices)) l DIGIT-ROOM body).digits out
  pub ledger_is : after ≡ ledger_after (some (plan_of m)) (some (rows_in prices)) l DIGIT-ROOM body
