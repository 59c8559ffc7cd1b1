-- No rule, or the answer by the one chosen.
use Rattle.number.proofs.Bodies.{holds_none}
use Rattle.number.proofs.answer_held.Goals as goal

pub returns-in-None : goal.returns-in-None
returns-in-None c = holds_none c.args.plan.memory.now c.args.body.now _ c.args.out.now c.digits_in-digits.ensures _ c.choose.ensures.place c.in-None.is _ _ c.unserved.ensures
