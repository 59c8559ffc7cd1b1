-- At f the values of the codes below are there (`Serving`).
use Rattle.formatting.proofs.Tables.{serving_none, serving_more}
use borrow.Author.Rules.{rules}
use Rattle.formatting.proofs.place_services.Goals as goal

pub loop-f-init : goal.loop-f-init
loop-f-init c = serving_none c.args.served c.requires

pub loop-f-preserved : goal.loop-f-preserved
loop-f-preserved c = rw c.put.ensures (serving_more c.loop-f.invariant (search rules) (search rules) _ c.from.ensures _ c.service_value.ensures)
