-- What is left of the list decides, from the place reached on.
use native.Mathlib.Omega.{arith}
use mathlib.Core.Path.{sym, ap, ◌∙◌}
use borrow.Author.Rules.{rules}
use Rattle.meaning.specs.Conditioning.{stretch_from, stretch_of}
use Rattle.meaning.specs.Answers.{span_of}
use Rattle.conditioning.proofs.Walk.{enough_for}
use Rattle.conditioning.proofs.span_of.Goals as goal

pub returns-then-takes_value : goal.returns-then-takes_value
unfolding stretch_of
returns-then-takes_value c = let args = c.args in
    let goes = c.in-Some.ensures.steps in
    let h = enough_for args.prefix c.loop-a.left c.width-w.ensures goes c.loop-a.invariant.1 in
    let s = sym (ap (stretch_from args.v args.prefix c.loop-a.at c.loop-a.left) goes) ∙ c.loop-a.invariant.2 in
    record {
      same = rw c.width-w.ensures (ap span_of (rw (sym c.takes_value.ensures ∙ c.if-takes_value.true) at s));
      inside = omega (arith, h.0, c.loop-a.invariant.0);
    }

pub returns : goal.returns
unfolding stretch_of
returns c = let args = c.args in
    let s = sym (ap (stretch_from args.v args.prefix c.loop-a.at c.loop-a.left) c.in-None.ensures.steps.0) ∙ c.loop-a.invariant.2 in
    record { same = ap span_of s; inside = search rules }
