-- The loss of the whole.
use Rattle.ledger.proofs.Losses.{whole_sized}
use Rattle.billing.proofs.LossLines.{read_cents, read_printable, total_written}
use mathlib.Core.Path.{refl}
use Rattle.billing.proofs.last_line.Goals as goal

pub loss_of-loss-requires : goal.loss_of-loss-requires
loss_of-loss-requires c = whole_sized c.args.districts.now c.args.whole c.requires.0

pub total_line-written-requires : goal.total_line-written-requires
total_line-written-requires c = (read_printable c.args.whole _ (whole_sized c.args.districts.now c.args.whole c.requires.0) c.loss_of-loss.ensures, c.requires.1)

pub returns : goal.returns
returns c = (total_written c.args.whole _ (read_cents c.args.whole _ (whole_sized c.args.districts.now c.args.whole c.requires.0) c.loss_of-loss.ensures) c.total_line-written.ensures, refl)
