-- The places left hold every rule that may still weigh more than the best so far; places are left, or digits.
use Prim.Native.Nat.{◌+◌, ◌-◌}
use Rattle.meaning.specs.Answers.{place_chosen}
use Rattle.narrowing.proofs.Narrowing.{Reached}
use Rattle.narrowing.proofs.choose_among.Given as goal

abbrev pub invariant-loop-left : goal.invariant-loop-left
invariant-loop-left l = Reached l.rules l.count l.class l.digits (place_chosen l.best) l.most l.j l.left.start l.left.end

abbrev pub decreases-loop-left : goal.decreases-loop-left
decreases-loop-left l = l.left.end - l.left.start + (16 - l.j)
