-- The eights are the library's first chunks, and what is behind them is tested byte by byte.
use mathlib.Core.Path.{◌∙◌}
use Prim.Native.Nat.{◌/◌}
use lib.ListN.{length}
use Rattle.std.proofs.Common.{rules}
use Rattle.std.proofs.lemmas.Iterator.{YieldsList-from_slice}
use Rattle.std.proofs.lemmas.Iterator.Search.{all_from_yields_List}
use borrow.Author.Tests.{tests}
use Rattle.buffer.proofs.Passing.{all_is}
use Rattle.examiner.proofs.Free.{eight_zero, rest_decides, eight_decides}
use Rattle.examiner.proofs.is_free.Goals as goal

pub returns-then-all : goal.returns-then-all
returns-then-all c =
    let s = c.args.part.now in
    let fs = c.as_chunks.result.0.now in
    rest_decides (length s / 8) s c.as_chunks.ensures.front
    (all_from_yields_List eight_zero _ _ _ c.all.ensures.ran (YieldsList-from_slice fs cc) (λ x b q k. search (rules, tests)) ∙ all_is eight_zero fs) c.as_chunks.ensures.back c.if-all.true c.all_zero.ensures

pub returns-else-all : goal.returns-else-all
returns-else-all c =
    let s = c.args.part.now in
    let fs = c.as_chunks.result.0.now in
    c.if-all.false ∙ eight_decides (length s / 8) s c.as_chunks.ensures.front
    (all_from_yields_List eight_zero _ _ _ c.all.ensures.ran (YieldsList-from_slice fs cc) (λ x b q k. search (rules, tests)) ∙ all_is eight_zero fs) c.if-all.false
