-- The slice gives its bytes, and the closure computes `is_digit` of each.
use Rattle.std.proofs.Common.{rules, ◌∙◌}
use Rattle.std.proofs.lemmas.Iterator.{YieldsList-from_slice}
use Rattle.std.proofs.lemmas.Iterator.Search.{all_from_yields_List}
use borrow.Author.Tests.{tests}
use Rattle.meaning.specs.Basics.{is_digit}
use Rattle.buffer.proofs.Passing.{all_is}
use Rattle.buffer.proofs.all_digits.Goals as goal

pub returns : goal.returns
returns c = let s = c.args.s.now in
    all_from_yields_List is_digit _ _ _ c.all.ensures.ran (YieldsList-from_slice s cc) (λ x b q k. search (rules, tests)) ∙ all_is is_digit s
