-- The lines of a record that writes more than one, one by one.
use Rattle.std.specs.Prelude.{ℕ, zero, suc, ◌+◌, ◌-◌, List}
use Rattle.std.proofs.Math.Option.{Option, none, some}
use Rattle.meaning.specs.Sizes.{DISTRICTS}
use Rattle.std.specs.Prelude.{if◌then◌else◌}
use Rattle.meaning.specs.Ledger.{Ledger, totals_at, has_records}
use Rattle.meaning.specs.Records.{loss_line, total_line}

-- A LINE OF A RECORD: its text, and where more lines are to come how many are counted behind it

pub record Part : Type 0 where
  pub text : List ℕ
  pub next : Option ℕ

abbrev pub last_part : List ℕ → Part
last_part text = record { text = text; next = none }

abbrev pub part_before : ℕ → List ℕ → Part
part_before next text = record { text = text; next = some next }

-- of the losses: the next of n districts from d on that has records, counted by the district behind it; "then `total`"
abbrev pub loss_part_from : Ledger → ℕ → ℕ → Part
loss_part_from l d zero = last_part (total_line l.whole)
loss_part_from l d (suc n) =
    if has_records (totals_at l.districts d) then part_before (d + 1) (loss_line d (totals_at l.districts d)) else loss_part_from l (d + 1) n

abbrev pub loss_part : Ledger → ℕ → Part
loss_part l d = loss_part_from l d (DISTRICTS - d)
