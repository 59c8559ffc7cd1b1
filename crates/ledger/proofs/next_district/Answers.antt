-- The first district that `find` gives.
use mathlib.Core.Path.{refl}
use Prim.Native.Nat.{◌-◌}
use borrow.Author.Rules.{rules}
use borrow.Author.Tests.{tests}
use Rattle.std.proofs.lemmas.Iterator.{YieldsList-from_range}
use Rattle.std.proofs.lemmas.Iterator.Search.{find_from_yields_List}
use Rattle.meaning.specs.Sizes.{DISTRICTS}
use Rattle.meaning.specs.Ledger.{totals_at, has_records}
use Rattle.ledger.proofs.Losses.{next_found}
use Rattle.ledger.proofs.next_district.Goals as goal

pub returns : goal.returns
returns c = let from = c.args.from in
    next_found c.args.districts.now from DISTRICTS c.requires c.find.result c.unwrap_or.result
    (find_from_yields_List (λ d. has_records (totals_at c.args.districts.now d)) _ _ c.find.result c.find.ensures.ran (YieldsList-from_range from DISTRICTS (DISTRICTS - from) refl refl)
    (λ d b q k. search (rules, tests)))
    c.unwrap_or.ensures
