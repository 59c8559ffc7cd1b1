use mathlib.Core.Path.{sym}
use Rattle.ledger.proofs.Losses.{district_sized}
use Rattle.ledger.proofs.district_loss.Goals as goal

pub loss_of-requires : goal.loss_of-requires
loss_of-requires c = district_sized c.args.districts.now c.args.whole (sym c.if-not-in_range.ensures)
    c.from-d.result c.if-d-ge-DISTRICTS.false c.totals_at-t.result c.totals_at-t.ensures
