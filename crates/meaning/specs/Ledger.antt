-- C-11's ledger: the sums that it holds, which are in range, one record more, and the loss in units and in whole cents.
-- "All sums are in sixtieths of a thousandth of a cent": a unit; 60,000 of them are a cent.
use Rattle.std.specs.Prelude.{ℕ, zero, suc, ◌+◌, ◌*◌, ◌/◌, Bool, true, ◌&&◌, not, List, [], ◌∷◌, ℤ, pos, negsuc, neg_ℤ, ◌+ℤ◌, ◌-ℤ◌, ◌*ℤ◌, get_or, set, replicate, ltb}
use Rattle.std.proofs.Math.Option.{Option, none, some}
use Rattle.std.specs.Int.Signed.{le_z}
use Rattle.meaning.specs.Sizes.{DISTRICTS, LEDGER-NUMBERS}
use Rattle.meaning.specs.Basics.{all_of}
use Rattle.std.specs.Prelude.{if◌then◌else◌}
use Rattle.meaning.specs.Refusals.{RANGE}
use Rattle.meaning.specs.declared.Totals.{Totals}

-- "A ledger takes 10,000,000 records"
abbrev pub LEDGER-LIMIT : ℕ
LEDGER-LIMIT = 10000000

-- the most that a record is due or billed: 86,400 seconds at 1,000,000, and 1,440,000,000 times 60
abbrev pub UNIT-LIMIT : ℕ
UNIT-LIMIT = 86400000000

-- "billed is taken times 60": the units of a thousandth of a cent
abbrev pub UNITS : ℕ
UNITS = 60

-- "it holds count, due and billed for each district and for the whole": three numbers a district, and the whole's
pub record Ledger : Type 0 where
  pub districts : List ℤ
  pub whole : Totals

abbrev pub ledger_of : List ℤ → Totals → Ledger
ledger_of districts whole = record { districts = districts; whole = whole }

abbrev pub totals_of : ℤ → ℤ → ℤ → Totals
totals_of count due billed = record { count = count; due = due; billed = billed }

-- the three of district d
abbrev pub totals_at : List ℤ → ℕ → Totals
totals_at ns d = totals_of (get_or ns (3 * d) (pos 0)) (get_or ns (3 * d + 1) (pos 0)) (get_or ns (3 * d + 2) (pos 0))

unfoldable pub empty_ledger : Ledger
empty_ledger = ledger_of (replicate LEDGER-NUMBERS (pos 0)) (totals_of (pos 0) (pos 0) (pos 0))

-- RANGE

-- "a due or billed sum .. is negative or over the count beside it times 86,400,000,000"
unfoldable pub sum_in_range : ℤ → ℤ → Bool
sum_in_range count sum = le_z (pos 0) sum && le_z sum (count *ℤ pos UNIT-LIMIT)

-- and its count is not over the most that it may be
abbrev pub totals_tests : ℤ → Totals → List Bool
totals_tests most t = le_z t.count most ∷ sum_in_range t.count t.due ∷ sum_in_range t.count t.billed ∷ []

unfoldable pub totals_in_range : ℤ → Totals → Bool
totals_in_range most t = all_of (totals_tests most t)

-- so for n districts from d on
abbrev pub districts_in_range : ℤ → List ℤ → ℕ → ℕ → Bool
districts_in_range most ns d zero = true
districts_in_range most ns d (suc n) = totals_in_range most (totals_at ns d) && districts_in_range most ns (d + 1) n

-- "a district's count is over the whole's, or that over the limit"
unfoldable pub ledger_in_range : Ledger → Bool
ledger_in_range l = totals_in_range (pos LEDGER-LIMIT) l.whole && districts_in_range l.whole.count l.districts 0 DISTRICTS

-- LEDGER FULL
abbrev pub is_full : Ledger → Bool
is_full l = le_z (pos LEDGER-LIMIT) l.whole.count

-- ONE RECORD MORE

-- what an accepted record adds: its district, and its due and billed in units
pub record Entry : Type 0 where
  pub district : ℕ
  pub due : ℕ
  pub billed : ℕ

unfoldable pub plus : Entry → Totals → Totals
plus e t = totals_of (t.count +ℤ pos 1) (t.due +ℤ pos e.due) (t.billed +ℤ pos e.billed)

-- the three of district d put in their places
unfoldable pub with_totals : ℕ → Totals → List ℤ → List ℤ
with_totals d t ns = set (set (set ns (3 * d) t.count) (3 * d + 1) t.due) (3 * d + 2) t.billed

unfoldable pub entered : Entry → Ledger → Ledger
entered e l =
    ledger_of (with_totals e.district (plus e (totals_at l.districts e.district)) l.districts) (plus e l.whole)

-- THE LOSS

-- "the loss is due less billed, below zero where we were overcharged"; "the loss is worked out from them"
abbrev pub loss_of : Totals → ℤ
loss_of t = t.due -ℤ t.billed

-- "Only the printed line rounds, once, to whole cents, halves away from zero"
unfoldable pub cents : ℤ → ℤ
cents (pos n) = pos ((n + 30000) / 60000)
cents (negsuc n) = neg_ℤ (pos ((suc n + 30000) / 60000))

-- units, and whole cents
unfoldable pub loss_in : Totals → ℤ × ℤ
loss_in t = (loss_of t, cents (loss_of t))

-- "a line for each district with records"
abbrev pub has_records : Totals → Bool
has_records t = not (le_z t.count (pos 0))

-- READING A LOSS: the refusal, or 0 and the loss; none where there are no records (docs/DECISIONS.md, C-11.9)

unfoldable pub loss_read : Ledger → ℕ → ℕ × Option (ℤ × ℤ)
loss_read l d =
    if not (ltb d DISTRICTS && ledger_in_range l) then (RANGE, none) else
    if has_records (totals_at l.districts d) then (0, some (loss_in (totals_at l.districts d))) else (0, none)

unfoldable pub total_read : Ledger → ℕ × Option (ℤ × ℤ)
total_read l = if ledger_in_range l then (0, some (loss_in l.whole)) else (RANGE, none)
