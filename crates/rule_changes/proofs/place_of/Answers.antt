-- By the answer of the lookup.
use mathlib.Core.Path.{ap, sym, ◌∙◌}
use Rattle.filter.specs.Place.{place_given}
use Rattle.rule_changes.specs.Places.{place_number}
use Rattle.rule_changes.proofs.place_of.Goals as goal

pub returns-in-Ok : goal.returns-in-Ok
returns-in-Ok c = ap place_number (sym (ap place_given c.in-Ok.is) ∙ c.find_given.ensures)

pub returns-in-Err : goal.returns-in-Err
returns-in-Err c = ap place_number (sym (ap place_given c.in-Err.is) ∙ c.find_given.ensures)
