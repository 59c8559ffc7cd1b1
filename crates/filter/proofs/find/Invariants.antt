-- What is left of the rules decides; i is the place of the first of them.
use Rattle.meaning.specs.Filters.{filter_of}
use Rattle.filter.proofs.PlaceLaws.{Walked}
use Rattle.filter.proofs.find.Given as goal

abbrev pub invariant-loop-i : goal.invariant-loop-i
invariant-loop-i l = Walked (filter_of l.code) l.rules l.count l.slot-items l.i
