-- What is left to count decides; i is the place of the first rule left.
use mathlib.Core.Path.{ap}
use native.Mathlib.Omega.{arith}
use Rattle.meaning.specs.declared.SetNumber.{SetNumber}
use Rattle.plan.proofs.ReadLaws.{counting_none, counting_named, counting_other, counting_all}
use Rattle.plan.proofs.naming.Goals as goal
use Rattle.plan.proofs.naming.Goals.{then-named-set, else-named-set}

pub loop-i-init : goal.loop-i-init
loop-i-init c = (omega arith, c.requires.few, c.requires.room, omega arith, counting_none c.args.set.0 c.args.area.now c.args.held)

pub loop-i-preserved : goal.loop-i-preserved
loop-i-preserved c = let l = c.loop-i in
    let a = c.args in
    let t = c.loop-i-test.true in
    let e = ap (λ (s : SetNumber). s.0) c.set_at-named.ensures in
    elim c.if-named-set.branch [
      | then-named-set w ↦ (omega arith, l.invariant.1, l.invariant.2, omega arith, rw w.n-is (counting_named a.set.0 a.area.now a.held l.i l.n l.invariant.4 _ t e w.if-named-set.true))
      | else-named-set w ↦ (omega arith, l.invariant.1, l.invariant.2, omega arith, rw w.n-is (counting_other a.set.0 a.area.now a.held l.i l.n l.invariant.4 _ t e w.if-named-set.false))
    ]

pub returns : goal.returns
returns c = let l = c.loop-i in
    let a = c.args in
    counting_all a.set.0 a.area.now a.held l.i l.n l.invariant.4 c.loop-i-test.false
