-- The rule is the one chosen, and its set is held.
use Rattle.number.proofs.Bodies.{answerable, holds_placed}
use Rattle.number.proofs.answer_at.Goals as goal

pub answer_by-requires : goal.answer_by-requires
answer_by-requires c = let a = c.args in
    answerable a.rule.plan.memory.now a.body.now a.out.now a.n a.rule.place.0 a.rule.plan.sound c.requires _ _ _ c.settings.ensures c.prefix.ensures c.content.ensures

pub returns : goal.returns
returns c = let a = c.args in
    holds_placed a.rule.plan.memory.now a.body.now a.out.now a.n a.rule.place.0 a.rule.plan.sound c.requires _ _ _ c.settings.ensures c.prefix.ensures c.content.ensures _ _ c.answer_by.ensures
