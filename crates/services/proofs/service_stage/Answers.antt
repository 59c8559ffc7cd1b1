-- The eight places are zeros, so that those behind the last action are.
use Rattle.buffer.specs.Zeros.{zeros}
use Rattle.services.proofs.Going.{served_anew}
use Rattle.services.proofs.service_stage.Goals as goal

pub returns : goal.returns
unfolding zeros
returns c = served_anew c.serve.ensures
