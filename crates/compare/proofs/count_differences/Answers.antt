-- What was counted, and what is left to be counted, are all of them.
use native.Mathlib.Omega.{arith}
use Rattle.compare.proofs.Walks.{falls, goes_on, next_here, counting_none, counting_next}
use Rattle.compare.proofs.count_differences.Goals as goal

pub loop-standing-init : goal.loop-standing-init
loop-standing-init c = counting_none c.args.left.memory.now c.args.right.memory.now c.args.left.sound c.args.right.sound

pub overflow_add-i : goal.overflow_add-i
overflow_add-i c = let step = next_here c.args.left.memory.now c.args.right.memory.now c.loop-standing.i c.loop-standing.j _ c.loop-standing.invariant.at c.in-Some.ensures.kind (goes_on c.in-Some.standing) in
    omega (arith, step.on_left, c.loop-standing.invariant.at.left_few, c.takes_left-i.ensures)

pub overflow_add-j : goal.overflow_add-j
overflow_add-j c = let step = next_here c.args.left.memory.now c.args.right.memory.now c.loop-standing.i c.loop-standing.j _ c.loop-standing.invariant.at c.in-Some.ensures.kind (goes_on c.in-Some.standing) in
    omega (arith, step.on_right, c.loop-standing.invariant.at.right_few, c.takes_right-j.ensures)

pub overflow_add-n : goal.overflow_add-n
overflow_add-n c = let at = c.loop-standing.invariant.at in
    let step = next_here c.args.left.memory.now c.args.right.memory.now c.loop-standing.i c.loop-standing.j _ c.loop-standing.invariant.at c.in-Some.ensures.kind (goes_on c.in-Some.standing) in
    omega (arith, step.one, c.lists-n.ensures, c.loop-standing.invariant.few, at.on_left, at.on_right, at.left_few, at.right_few)

pub loop-standing-smaller : goal.loop-standing-smaller
loop-standing-smaller c = falls c.args.left.memory.now c.args.right.memory.now c.loop-standing.i c.loop-standing.j _ c.loop-standing.invariant.at c.in-Some.ensures.kind
    (goes_on c.in-Some.standing) _ _ c.takes_left-i.ensures c.takes_right-j.ensures

pub loop-standing-preserved : goal.loop-standing-preserved
loop-standing-preserved c = counting_next c.args.left.memory.now c.args.right.memory.now c.loop-standing.i c.loop-standing.j c.loop-standing.n _ c.loop-standing.invariant c.in-Some.ensures.kind
    (goes_on c.in-Some.standing) _ _ _ c.takes_left-i.ensures c.takes_right-j.ensures c.lists-n.ensures
