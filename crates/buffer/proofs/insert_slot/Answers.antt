-- One law over the width; slot `place` begins where slot `count` does, or before.
use native.Mathlib.Omega.{arith}
use Rattle.buffer.proofs.SlotLaws.{insert_part, times_within}
use Rattle.buffer.proofs.insert_slot.Goals as goal

pub overflow_mul-a : goal.overflow_mul-a
overflow_mul-a c = omega (arith, c.requires, times_within c.args.w c.args.place c.args.count c.requires.0)

pub slice_bounds-push_front-count : goal.slice_bounds-push_front-count
slice_bounds-push_front-count c = omega (arith, c.requires, times_within c.args.w c.args.place c.args.count c.requires.0)

pub slice_bounds-push_front-start : goal.slice_bounds-push_front-start
slice_bounds-push_front-start c = omega (arith, c.requires, times_within c.args.w c.args.place c.args.count c.requires.0)

pub push_front-requires : goal.push_front-requires
push_front-requires c = omega (arith, c.requires, times_within c.args.w c.args.place c.args.count c.requires.0)

pub returns : goal.returns
returns c = let p = c.push_front in
    insert_part c.args.w c.args.place c.args.count c.args.area.now c.args.x.now p.new.s c.requires.0 c.requires.1 c.requires.2 p.ensures
