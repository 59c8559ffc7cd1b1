-- By the contents as they were read.
use Rattle.compare.proofs.Heads.{contents_same}
use borrow.Author.Rules.{rules}
use Rattle.compare.proofs.same_sets.Goals as goal

pub returns : goal.returns
returns c = search (rules, contents_same)
