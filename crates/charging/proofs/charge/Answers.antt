-- Nothing for a number alone; NO PRICE, or the entry.
use Rattle.charging.proofs.Dues.{due_small}
use Rattle.charging.proofs.Charging.{charges_call, charges_number, charges_none, charges_some}
use Rattle.charging.proofs.charge.Goals as goal

pub returns-then-not-call : goal.returns-then-not-call
returns-then-not-call c = charges_number (c.if-not-call.true)

pub invariant_of-list : goal.invariant_of-list
invariant_of-list c = record { in_range = (c.requires (c.if-not-call.false)).prices_in }

pub due_of-requires : goal.due_of-requires
due_of-requires c = let k = (c.requires (c.if-not-call.false)).chargeable in
    (k.whole, k.range)

pub enter-requires : goal.enter-requires
enter-requires c = let k = (c.requires (c.if-not-call.false)).chargeable in
    (k.ledger_in, k.whole, k.range, due_small c.due_of.ensures c.in-Some.is)

pub returns-in-None : goal.returns-in-None
returns-in-None c = charges_call (c.if-not-call.false) (charges_none _ _ c.due_of.ensures c.in-None.is)

pub returns-in-Some : goal.returns-in-Some
returns-in-Some c = charges_call (c.if-not-call.false) (charges_some _ c.due_of.ensures c.in-Some.is c.enter.ensures)
