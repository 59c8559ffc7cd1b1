-- At `end` the values of the codes before v are written and the rest is as it was (`JoiningOver`).
use mathlib.Core.Path.{◌≡◌}
use lib.ListN.{length, drop}
use Rattle.formatting.proofs.Conditioned.{values_of, JoiningOver}
use Rattle.formatting.proofs.write_conditioned.Given as goal

abbrev pub invariant-loop-v : goal.invariant-loop-v
invariant-loop-v l = (length l.out ≡ length l.initial.out) × JoiningOver (values_of l.settings l.digits l.cas l.prefix) l.v-items (drop l.v-index l.v-items) l.initial.out l.end l.out
