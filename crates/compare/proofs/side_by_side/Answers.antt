-- By the order of the two filters, and then by the contents of their sets.
use Rattle.compare.proofs.Heads.{stands_before, stands_after, stand_alike, stand_both}
use Rattle.compare.proofs.side_by_side.Goals as goal

pub returns-in-Less : goal.returns-in-Less
returns-in-Less c = stands_before c.args.left c.args.right _ _ _ c.slot.ensures.slot c.slot-2.ensures.slot c.order_filters.ensures c.in-Less.is

pub returns-in-Greater : goal.returns-in-Greater
returns-in-Greater c = stands_after c.args.left c.args.right _ _ _ c.slot.ensures.slot c.slot-2.ensures.slot c.order_filters.ensures c.in-Greater.is

pub returns-in-Equal : goal.returns-in-Equal
returns-in-Equal c = stand_alike c.args.left c.args.right _ _ _ c.slot.ensures.slot c.slot-2.ensures.slot c.order_filters.ensures c.in-Equal.is _ c.same_sets.ensures c.if-same_sets.true

pub returns-in-Equal-2 : goal.returns-in-Equal-2
returns-in-Equal-2 c = stand_both c.args.left c.args.right _ _ _ c.slot.ensures.slot c.slot-2.ensures.slot c.order_filters.ensures c.in-Equal-2.is _ c.same_sets.ensures c.if-same_sets.false
