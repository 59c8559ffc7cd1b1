-- What was written, and what is left to be written, are all entries.
use mathlib.Core.Path.{refl}
use native.Mathlib.Omega.{arith}
use Rattle.compare.proofs.Walks.{falls, goes_on, next_here, writing_none, puts_here, end_fits, writing_next}
use Rattle.compare.proofs.write_differences.Goals as goal

pub loop-standing-init : goal.loop-standing-init
loop-standing-init c = writing_none c.args.left.memory.now c.args.right.memory.now c.args.out.now c.args.left.sound c.args.right.sound c.requires

pub put_difference-end-requires : goal.put_difference-end-requires
put_difference-end-requires c = puts_here c.args.left.memory.now c.args.right.memory.now c.args.out.now c.loop-standing.i c.loop-standing.j c.loop-standing.end _ _ c.loop-standing.invariant c.in-Some.ensures.kind
    (goes_on c.in-Some.standing) _ c.in-Some.ensures.listed _ refl

pub overflow_add-end : goal.overflow_add-end
overflow_add-end c = let fits = end_fits c.args.left.memory.now c.args.right.memory.now c.args.out.now c.loop-standing.i c.loop-standing.j c.loop-standing.end _ _ c.loop-standing.invariant c.in-Some.ensures.kind
    (goes_on c.in-Some.standing) _ c.in-Some.ensures.listed _ _ c.put_difference-end.ensures in
    omega (arith, fits, c.loop-standing.invariant.long, c.well_formed.0)

pub overflow_add-i : goal.overflow_add-i
overflow_add-i c = let step = next_here c.args.left.memory.now c.args.right.memory.now c.loop-standing.i c.loop-standing.j _ c.loop-standing.invariant.at c.in-Some.ensures.kind (goes_on c.in-Some.standing) in
    omega (arith, step.on_left, c.loop-standing.invariant.at.left_few, c.takes_left-i.ensures)

pub overflow_add-j : goal.overflow_add-j
overflow_add-j c = let step = next_here c.args.left.memory.now c.args.right.memory.now c.loop-standing.i c.loop-standing.j _ c.loop-standing.invariant.at c.in-Some.ensures.kind (goes_on c.in-Some.standing) in
    omega (arith, step.on_right, c.loop-standing.invariant.at.right_few, c.takes_right-j.ensures)

pub loop-standing-smaller : goal.loop-standing-smaller
loop-standing-smaller c = falls c.args.left.memory.now c.args.right.memory.now c.loop-standing.i c.loop-standing.j _ c.loop-standing.invariant.at c.in-Some.ensures.kind
    (goes_on c.in-Some.standing) _ _ c.takes_left-i.ensures c.takes_right-j.ensures

pub loop-standing-preserved : goal.loop-standing-preserved
loop-standing-preserved c = writing_next c.args.left.memory.now c.args.right.memory.now c.args.out.now c.loop-standing.i c.loop-standing.j c.loop-standing.end _ _ c.loop-standing.invariant c.in-Some.ensures.kind
    (goes_on c.in-Some.standing) _ c.in-Some.ensures.listed _ _ c.put_difference-end.ensures _ _ c.takes_left-i.ensures c.takes_right-j.ensures
