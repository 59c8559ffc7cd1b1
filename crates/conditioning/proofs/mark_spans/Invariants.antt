-- What is left of the list decides, with the digits that are left: whether they are too few, and what is not marked yet (`Marking`).
use Prim.Native.Nat.{◌+◌}
use mathlib.Core.Path.{◌≡◌}
use lib.ListN.{length}
use Rattle.meaning.specs.Actions.{cas_of}
use Rattle.meaning.specs.Conditioning.{short}
use Rattle.actions.specs.Reading.{actions_left}
use Rattle.conditioning.specs.Marks.{PLACES}
use Rattle.conditioning.proofs.Marking.{Marking}
use Rattle.conditioning.proofs.mark_spans.Given as goal

abbrev pub invariant-loop-a : goal.invariant-loop-a
invariant-loop-a l = (l.taken + l.left ≡ l.n) × (short l.prefix l.left (actions_left l.a-iterator) ≡ short l.prefix l.n (cas_of l.cas))
    × (length l.marks.starts ≡ PLACES) × (length l.marks.counts ≡ PLACES)
    × Marking l.first l.prefix l.n (cas_of l.cas) l.taken l.left (actions_left l.a-iterator) l.marks
