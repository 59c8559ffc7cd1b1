use mathlib.Core.Path.{sym}
use mir.Syntax.{w64}
use mir.Val.{SFits}
use mir.ValLaws.{to_z-of_z}
use borrow.Author.Rules.{rules}
use Rattle.ledger.proofs.Ranges.{whole_in}
use Rattle.ledger.proofs.in_range.Goals as goal

pub returns-then-totals_in_range : goal.returns-then-totals_in_range
returns-then-totals_in_range c = let t = c.args.whole in
    let f : SFits w64 t.count = search rules in
    whole_in c.args.districts.now t (sym c.if-totals_in_range.ensures) (rw (to_z-of_z w64 t.count f) at c.districts_in_range.ensures)
