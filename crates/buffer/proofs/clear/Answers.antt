-- `zeros` is shut.
use Rattle.std.proofs.Common.{rules}
use Rattle.buffer.specs.Zeros.{zeros}
use Rattle.buffer.proofs.clear.Goals as goal

pub returns : goal.returns
unfolding zeros
returns c = search rules
