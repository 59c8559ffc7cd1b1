-- What the steps over what is at hand did, and what became of their text.
use mathlib.Core.Path.{refl, ap, sym, ◌∙◌}
use mathlib.Core.Logic.{inl, inr}
use borrow.Author.Rules.{rules}
use Rattle.record.specs.Promises.{lent}
use Rattle.stream.specs.Turnings.{turned_by}
use Rattle.stream.specs.declared.Rest.{Rest}
use Rattle.stream.specs.declared.Turned.TheVariants.{NotRead}
use Rattle.stream.proofs.TurnLaws.{steps_at_hand, may_conclude}
use Rattle.stream.proofs.advance.Goals as goal

pub returns-then-failed : goal.returns-then-failed
returns-then-failed g c = let a = c.args in
    inl
    (record {
      failed = sym c.failed.ensures ∙ c.if-failed.true;
      memory_is = ap (λ (r : Rest). lent a.plan.now a.prices.now a.districts.now r.run.whole) c.unread.ensures;
      output_is = refl;
      is = ap NotRead c.unread.ensures;
    })

pub pump-p-requires : goal.pump-p-requires
pump-p-requires g c = c.requires.in_house

pub conclude-requires : goal.conclude-requires
conclude-requires g c = may_conclude c.args.input.now c.args.h _ c.requires c.pump-p.ensures

pub returns : goal.returns
returns g c = let p = c.pump-p in
    inr
    (record {
      read = sym c.failed.ensures ∙ c.if-failed.false;
      pumped = p.result;
      steps = steps_at_hand c.args.h c.hand-sink.result c.args.input.now c.ended.ensures c.conclude.ensures p.ensures;
      done = c.hand-sink.ensures.done;
      is = c.conclude.ensures ∙ ap (turned_by c.args.h p.result) c.hand-sink.ensures.is;
    })
