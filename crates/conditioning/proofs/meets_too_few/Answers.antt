-- Fewer than one is none.
use Rattle.actions.specs.Reading.{action_of}
use Rattle.conditioning.proofs.Walk.{too_few}
use Rattle.conditioning.proofs.meets_too_few.Goals as goal

pub returns : goal.returns
returns c = let a = c.args in
    too_few a.prefix a.left (action_of a.a) _ c.fewest.ensures
