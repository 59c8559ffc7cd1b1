-- The numbers of a sound memory bound the place.
use native.Mathlib.Omega.{arith}
use borrow.Author.Rules.{rules}
use Rattle.plan.proofs.ReadLaws.{numbers}
use Rattle.plan.proofs.SoundPlan.rules_start.Goals as goal

pub returns : goal.returns
returns c = let n = numbers c.args.self.memory.now c.args.self.sound in
    record { is = search rules; sets = n.sets_most; rules = n.rules_most; held = n.count_most; room = omega (arith, n.size) }
