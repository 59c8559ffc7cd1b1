-- No plan, or the count over it.
use mathlib.Core.Path.{◌∙◌}
use Rattle.record.proofs.ReadLines.{refs_few, refs_no_plan, refs_known}
use Rattle.record.proofs.refs_line.Goals as goal

pub returns-then-not-opened : goal.returns-then-not-opened
returns-then-not-opened c = refs_no_plan c.args.plan.now _ (c.requires.0 ∙ c.if-not-opened.true) c.refused.ensures

pub refs_line-requires : goal.refs_line-requires
refs_line-requires c = (refs_few c.args.plan.now c.referrers_known-counted.result _ (c.requires.0 ∙ c.if-not-opened.false) c.referrers_known-counted.ensures, c.requires.2)

pub returns : goal.returns
returns c = refs_known c.args.plan.now c.referrers_known-counted.result _ _ (c.requires.0 ∙ c.if-not-opened.false) c.set_number.ensures
    c.referrers_known-counted.ensures c.refs_line.ensures
