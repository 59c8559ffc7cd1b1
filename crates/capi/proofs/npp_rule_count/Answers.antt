-- The struct for C has the fields of the count.
use mathlib.Core.Path.{subst}
use borrow.Author.Rules.{rules}
use Rattle.capi.specs.Given.{CountedAs}
use Rattle.capi.proofs.npp_rule_count.Goals as goal

pub returns : goal.returns
returns c = subst (λ n. CountedAs n c.from.result) c.rule_count.ensures c.from.ensures
