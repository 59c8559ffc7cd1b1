-- The slice gives its bytes, and the closure computes `within 1 4` of each.
use Rattle.std.proofs.Common.{rules, ◌∙◌}
use Rattle.std.proofs.lemmas.Iterator.{YieldsList-from_slice}
use Rattle.std.proofs.lemmas.Iterator.Search.{all_from_yields_List}
use borrow.Author.Tests.{tests}
use Rattle.meaning.specs.Basics.{within}
use Rattle.buffer.proofs.Passing.{all_is}
use Rattle.ranges.proofs.Answers.{contains_is}
use Rattle.ranges.proofs.answers_in_range.Goals as goal

pub returns : goal.returns
returns c =
    let s = c.args.answers.now in
    all_from_yields_List (within 1 4) _ _ _ c.all.ensures.ran (YieldsList-from_slice s cc) (λ x b q k. search (rules, tests, contains_is)) ∙ all_is (within 1 4) s
