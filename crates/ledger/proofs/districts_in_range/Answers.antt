-- One district after the other, as `all` takes them.
use mathlib.Core.Path.{refl, ◌∙◌}
use borrow.Author.Rules.{rules}
use borrow.Author.Tests.{tests}
use Rattle.std.proofs.lemmas.Iterator.{YieldsList-from_range}
use Rattle.std.proofs.lemmas.Iterator.Search.{all_from_yields_List}
use Rattle.meaning.specs.Sizes.{DISTRICTS}
use Rattle.meaning.specs.Ledger.{totals_at, totals_in_range}
use Rattle.ledger.proofs.Ranges.{districts_listed}
use Rattle.ledger.proofs.districts_in_range.Goals as goal

pub returns : goal.returns
returns c = all_from_yields_List (λ d. totals_in_range c.args.most (totals_at c.args.districts.now d)) _ _ c.all.result c.all.ensures.ran (YieldsList-from_range 0 DISTRICTS DISTRICTS refl refl)
    (λ d b q k. search (rules, tests))
    ∙ districts_listed c.args.most c.args.districts.now 0 DISTRICTS
