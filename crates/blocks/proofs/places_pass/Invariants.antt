-- The blocks before block k have passed (`PassedTo`).
use Prim.Native.Nat.{◌*◌}
use Rattle.blocks.proofs.PlaceLaws.{PassedTo}
use Rattle.blocks.proofs.places_pass.Given as goal

abbrev pub invariant-loop-k : goal.invariant-loop-k
invariant-loop-k l = PassedTo l.n l.s (8 * l.k)
