-- One law over the width; slot `place` ends where slot `count` begins, or before.
use native.Mathlib.Omega.{arith}
use Rattle.buffer.specs.Zeros.{zeros}
use Rattle.buffer.proofs.SlotLaws.{remove_part, times_below}
use Rattle.buffer.proofs.remove_slot.Goals as goal

pub overflow_mul-a : goal.overflow_mul-a
overflow_mul-a c = omega (arith, c.requires, times_below c.args.w c.args.place c.args.count c.requires.0)

pub slice_bounds-pop_front-count : goal.slice_bounds-pop_front-count
slice_bounds-pop_front-count c = omega (arith, c.requires, times_below c.args.w c.args.place c.args.count c.requires.0)

pub slice_bounds-pop_front-start : goal.slice_bounds-pop_front-start
slice_bounds-pop_front-start c = omega (arith, c.requires, times_below c.args.w c.args.place c.args.count c.requires.0)

pub pop_front-requires : goal.pop_front-requires
pop_front-requires c = omega (arith, c.requires, times_below c.args.w c.args.place c.args.count c.requires.0)

pub returns : goal.returns
returns c = let p = c.pop_front in
    remove_part c.args.w c.args.place c.args.count c.args.area.now (zeros c.args.w) p.new.s c.requires.0 c.requires.1 p.ensures
