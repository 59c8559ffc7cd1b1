-- What is left of the two decides.
use mathlib.Core.Path.{◌≡◌}
use lib.ListN.{drop}
use Rattle.meaning.specs.Filters.{compare_prefixes}
use Rattle.filter.proofs.order_prefixes.Given as goal

abbrev pub invariant-loop-i : goal.invariant-loop-i
invariant-loop-i l = compare_prefixes l.a l.b ≡ compare_prefixes (drop l.i l.a) (drop l.i l.b)
