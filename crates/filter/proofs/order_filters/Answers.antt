-- By class, then by the prefixes, then by the lengths.
use mathlib.Core.Path.{◌∙◌, ap₂}
use Rattle.meaning.specs.Filters.{compare_prefixes}
use Rattle.filter.proofs.OrderLaws.{by_class, by_prefix, by_length}
use Rattle.filter.proofs.order_filters.Goals as goal

pub returns-then-a-b : goal.returns-then-a-b
returns-then-a-b c = by_class c.args.a.now c.args.b.now c.cmp.result c.cmp.ensures c.if-a-b.true

pub returns-in-Equal : goal.returns-in-Equal
returns-in-Equal c =
    c.order_lengths.ensures
    ∙ by_length c.args.a.now c.args.b.now c.order_prefixes.result c.if-a-b.false (c.order_prefixes.ensures ∙ ap₂ compare_prefixes c.prefix_digits.ensures c.prefix_digits-2.ensures) c.in-Equal.is

pub returns-in_default : goal.returns-in_default
returns-in_default c =
    by_prefix c.args.a.now c.args.b.now c.order_prefixes.result c.if-a-b.false (c.order_prefixes.ensures ∙ ap₂ compare_prefixes c.prefix_digits.ensures c.prefix_digits-2.ensures) c.in_default.not-Equal
