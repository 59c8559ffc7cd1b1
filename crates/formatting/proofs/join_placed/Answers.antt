-- At `end` the values of the codes before those that are left are written (`Joining`); each step gets the part from there on.
use native.Mathlib.Omega.{arith}
use mathlib.Core.Path.{◌∙◌}
use Rattle.formatting.proofs.Tables.{sent_lies}
use Rattle.formatting.proofs.Joining.{joined_long, joining_more}
use borrow.Author.Rules.{rules}
use Rattle.formatting.proofs.join_placed.Goals as goal

pub returns-then-most-end : goal.returns-then-most-end
returns-then-most-end c = let v = sent_lies c.requires.0 c.in-Some.f c.value_to_send-value.ensures in
    (joined_long c.loop-f.invariant.2 c.args.most c.in-Some.ensures.steps _ v.count c.if-most-end.true _)

pub loop-f-preserved : goal.loop-f-preserved
loop-f-preserved c = let now = c.loop-f.invariant in
    let v = sent_lies c.requires.0 c.in-Some.f c.value_to_send-value.ensures in
    let fits = c.if-most-end.false in
    let j = joining_more now.2 c.args.most c.in-Some.ensures.steps _ v.count _ (omega (arith, now.1, fits, c.requires.2)) (search rules) (c.put_value.ensures ∙ v.is) in
    (fits, search rules, j)
