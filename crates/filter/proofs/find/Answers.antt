-- What is left of the rules decides; i is the place of the first of them.
use mathlib.Core.Path.{ap, ◌∙◌}
use lib.ListN.{take}
use Rattle.meaning.specs.Filters.{filter_of}
use Rattle.meaning.specs.Answers.{ordering_of}
use Rattle.filter.proofs.RuleLaws.{lent_slots}
use Rattle.filter.proofs.PlaceLaws.{walked_none, walked_bytes, walked_absent, walked_held, walked_more, walked_end}
use Rattle.filter.proofs.find.Goals as goal

pub loop-i-init : goal.loop-i-init
loop-i-init c =
    let a = c.args in
    walked_none (filter_of a.code.now) a.rules.now a.count _ (ap (take a.count) c.as_chunks.ensures.front ∙ lent_slots a.count a.rules.now c.requires.rule_area)

pub order_filters-requires-clause-b_bytes : goal.order_filters-requires-clause-b_bytes
order_filters-requires-clause-b_bytes c = walked_bytes c.loop-i.invariant c.requires.rule_area c.loop-i-test.true

pub returns-in-Less : goal.returns-in-Less
returns-in-Less c = walked_absent c.loop-i.invariant c.loop-i-test.true c.order_filters.ensures (ap ordering_of c.in-Less.is)

pub returns-in-Equal : goal.returns-in-Equal
returns-in-Equal c = walked_held c.loop-i.invariant c.loop-i-test.true c.order_filters.ensures (ap ordering_of c.in-Equal.is)

pub loop-i-preserved : goal.loop-i-preserved
loop-i-preserved c = walked_more c.loop-i.invariant c.loop-i-test.true c.order_filters.ensures (ap ordering_of c.in-Greater.is)

pub returns : goal.returns
returns c = walked_end c.loop-i.invariant c.loop-i.auto.i-end c.loop-i-test.false
