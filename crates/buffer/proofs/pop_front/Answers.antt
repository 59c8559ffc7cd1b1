-- The last w bytes are lent and cleared after the shift.
use Rattle.buffer.proofs.Moves.{pop_parts}
use Rattle.buffer.proofs.pop_front.Goals as goal

pub returns : goal.returns
returns c = let d = c.shift_down in
    pop_parts c.args.s.now d.new.s _ c.args.w c.requires d.ensures d.auto.s c.clear.ensures
