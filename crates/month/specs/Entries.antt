-- Sums over accepted call records, and the ledger that they make.
use Rattle.std.specs.Prelude.{ℕ, zero, suc, ◌+◌, List, [], ◌∷◌, ◌++◌, ℤ, pos, length, eqb}
use Rattle.meaning.specs.Sizes.{DISTRICTS}
use Rattle.std.specs.Prelude.{if◌then◌else◌}
use Rattle.meaning.specs.Ledger.{Ledger, ledger_of, totals_of, Entry}
use Rattle.meaning.specs.declared.Totals.{Totals}

abbrev pub dues : List Entry → ℕ
dues [] = 0
dues (e ∷ es) = e.due + dues es

abbrev pub bills : List Entry → ℕ
bills [] = 0
bills (e ∷ es) = e.billed + bills es

-- those of district d
abbrev pub of_district : ℕ → List Entry → List Entry
of_district d [] = []
of_district d (e ∷ es) = (if eqb e.district d then (e ∷ []) else []) ++ of_district d es

-- "count, due and billed"
abbrev pub totals_over : List Entry → Totals
totals_over es = totals_of (pos (length es)) (pos (dues es)) (pos (bills es))

-- of n districts from d on
abbrev pub sums_from : ℕ → ℕ → List Entry → List ℤ
sums_from d zero es = []
sums_from d (suc n) es =
    pos (length (of_district d es)) ∷ pos (dues (of_district d es)) ∷ pos (bills (of_district d es)) ∷ sums_from (d + 1) n es

-- "for each district and for the whole"
unfoldable pub ledger_over : List Entry → Ledger
ledger_over es = ledger_of (sums_from 0 DISTRICTS es) (totals_over es)
