-- The next district, or the whole.
use native.Mathlib.Omega.{arith}
use mathlib.Core.Path.{refl}
use Rattle.meaning.specs.Ledger.{ledger_of}
use Rattle.billing.proofs.LossLines.{next_line, none_left, all_counted}
use Rattle.billing.proofs.loss_record.Goals as goal

pub returns-then-from-ge-DISTRICTS : goal.returns-then-from-ge-DISTRICTS
returns-then-from-ge-DISTRICTS c = rw (← c.from-from.ensures) (all_counted (ledger_of c.args.districts.now c.args.whole) c.from-from.result c.if-from-ge-DISTRICTS.true c.last_line.ensures.0 c.last_line.ensures.1)

pub next_district-d-requires : goal.next_district-d-requires
next_district-d-requires c = omega (arith, c.if-from-ge-DISTRICTS.false)

pub returns-then-d-ge-DISTRICTS : goal.returns-then-d-ge-DISTRICTS
returns-then-d-ge-DISTRICTS c = rw (← c.from-from.ensures) (none_left (ledger_of c.args.districts.now c.args.whole) c.from-from.result _ c.if-from-ge-DISTRICTS.false c.next_district-d.ensures c.if-d-ge-DISTRICTS.true c.last_line-then-d-ge-DISTRICTS.ensures.0 c.last_line-then-d-ge-DISTRICTS.ensures.1)

pub overflow_add-result : goal.overflow_add-result
overflow_add-result c = record { fits = omega (arith, c.if-d-ge-DISTRICTS.false) }

pub overflow_cast-result : goal.overflow_cast-result
overflow_cast-result c = omega (arith, c.if-d-ge-DISTRICTS.false)

pub returns : goal.returns
returns c = rw (← c.from-from.ensures) (next_line (ledger_of c.args.districts.now c.args.whole) c.from-from.result _ c.if-from-ge-DISTRICTS.false c.next_district-d.ensures c.if-d-ge-DISTRICTS.false c.district_line-written.ensures refl)
