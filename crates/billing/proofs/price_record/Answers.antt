-- The row, and its number.
use Rattle.billing.proofs.ChargeLines.{price_written}
use Rattle.billing.proofs.price_record.Goals as goal

pub returns : goal.returns
returns c = price_written c.requires.0 c.add_known-answer.ensures c.accepted_line.ensures
