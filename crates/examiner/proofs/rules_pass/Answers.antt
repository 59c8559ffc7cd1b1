-- The closure's test is the definition's.
use mathlib.Core.Path.{◌∙◌}
use Rattle.std.proofs.Common.{rules}
use Rattle.std.proofs.lemmas.Iterator.{YieldsList-from_slice}
use Rattle.std.proofs.lemmas.Iterator.Search.{all_from_yields_List}
use borrow.Author.Tests.{tests}
use Rattle.buffer.proofs.Passing.{all_is}
use Rattle.examiner.specs.Examined.{rule_test}
use Rattle.examiner.proofs.rules_pass.Goals as goal

pub returns : goal.returns
returns c =
    let slots = c.args.rules.now in
    let test = rule_test c.args.sets.now in
    all_from_yields_List test _ _ _ c.all.ensures.ran (YieldsList-from_slice slots cc) (λ x b q k. search (rules, tests)) ∙ all_is test slots
