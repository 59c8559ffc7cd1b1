-- What is left, and what is supplied behind it.
use borrow.Author.Rules.{rules}
use Rattle.stream.specs.Turnings.{SupplyPromise}
use Rattle.stream.proofs.gather.Goals as goal

pub returns : goal.returns
returns g c = let t = c.settle-left in
    let s : SupplyPromise c.args.rest.source t.result t.new.input c.supply.new.input c.supply.result = c.supply.ensures in
    rw (t.ensures.value, t.ensures.input_after) at s
