use Rattle.ledger.proofs.Entering.{whole_addable, district_addable, entered_is}
use Rattle.ledger.proofs.enter.Goals as goal

pub plus-requires : goal.plus-requires
plus-requires c = district_addable _ c.args.whole c.args.district c.args.due c.args.billed c.requires _ c.totals_at-t.ensures

pub plus-requires-2 : goal.plus-requires-2
plus-requires-2 c = whole_addable _ c.args.whole c.args.district c.args.due c.args.billed c.requires

pub returns : goal.returns
returns c = entered_is _ c.args.whole c.args.district c.args.due c.args.billed _ _ _ _
    c.totals_at-t.ensures c.plus.ensures c.put_totals.ensures c.plus-2.ensures
