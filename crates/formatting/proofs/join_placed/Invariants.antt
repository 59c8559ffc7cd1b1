-- At `end` the values of the codes before those that are left are written (`Joining`).
use Prim.Native.Nat.{◌≤◌}
use mathlib.Core.Path.{◌≡◌}
use lib.ListN.{length}
use Rattle.meaning.specs.Actions.{codes_of}
use Rattle.actions.specs.Reading.{codes_left}
use Rattle.formatting.specs.Tables.{sent_at}
use Rattle.formatting.proofs.Joining.{Joining}
use Rattle.formatting.proofs.join_placed.Given as goal

abbrev pub invariant-loop-f : goal.invariant-loop-f
invariant-loop-f l = (l.end ≤ l.most) × (length l.out ≡ length l.initial.out) × Joining (sent_at l.source l.marks) (codes_of l.fas) (codes_left l.f-iterator) l.end l.out
