-- The loss of the district's totals.
use Rattle.ledger.proofs.Losses.{district_sized}
use Rattle.billing.proofs.LossLines.{read_cents, read_printable, district_written}
use native.Mathlib.Omega.{arith}
use Rattle.billing.proofs.district_line.Goals as goal

pub loss_of-loss-requires : goal.loss_of-loss-requires
loss_of-loss-requires c = district_sized c.args.districts.now c.args.whole c.requires.0 c.args.district c.requires.1 c.totals_at.result c.totals_at.ensures

pub loss_line-requires : goal.loss_line-requires
loss_line-requires c = (omega (arith, c.requires.1), read_printable c.totals_at.result _ (district_sized c.args.districts.now c.args.whole c.requires.0 c.args.district c.requires.1 c.totals_at.result c.totals_at.ensures) c.loss_of-loss.ensures, c.requires.2)

pub returns : goal.returns
returns c = rw (← c.totals_at.ensures)
    (district_written c.args.district c.totals_at.result _ (read_cents c.totals_at.result _ (district_sized c.args.districts.now c.args.whole c.requires.0 c.args.district c.requires.1 c.totals_at.result c.totals_at.ensures) c.loss_of-loss.ensures) c.loss_line.ensures)
