-- By whether the input has ended, and whether a whole record is left.
use mathlib.Core.Path.{sym, ◌∙◌}
use borrow.Author.Rules.{rules}
use Rattle.stream.proofs.Answers.{none-at-end, none-for-whole, read-else, may_read}
use Rattle.stream.proofs.supply.Goals as goal

pub returns-then-ended : goal.returns-then-ended
returns-then-ended g c = none-at-end c.args.source c.args.left c.args.input.now (sym c.ended.ensures ∙ c.if-ended.true)

pub returns-then-is_whole : goal.returns-then-is_whole
returns-then-is_whole g c = none-for-whole c.args.source c.args.left c.args.input.now c.is_whole.ensures (sym c.ended.ensures ∙ c.if-ended.false) c.if-is_whole.true

pub fill-requires : goal.fill-requires
fill-requires g c = may_read c.args.source c.args.left c.args.input.now c.is_whole.ensures c.requires (sym c.ended.ensures ∙ c.if-ended.false) c.if-is_whole.false

pub returns : goal.returns
returns g c = read-else c.args.source c.args.left c.args.input.now c.is_whole.ensures _ _ (sym c.ended.ensures ∙ c.if-ended.false) c.if-is_whole.false c.fill.ensures
