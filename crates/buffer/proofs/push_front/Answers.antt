-- The copy writes over the bytes that the shift left at the front.
use mathlib.Core.Path.{◌∙◌}
use Rattle.buffer.proofs.Moves.{push_parts}
use Rattle.buffer.proofs.push_front.Goals as goal

pub returns : goal.returns
returns c = let u = c.shift_up in
    c.copy.ensures ∙ push_parts c.args.s.now c.args.x.now _ _ c.requires u.ensures
