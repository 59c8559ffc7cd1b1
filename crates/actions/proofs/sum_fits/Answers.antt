-- A length that is not 0 is one more than another: the tests are then the definition's.
use Prim.Native.Nat.{ℕ}
use mathlib.Core.Path.{sym, ap, ◌∙◌}
use Rattle.meaning.specs.Groups.{sum_fits}
use Rattle.actions.proofs.Fit.{length_is_more}
use Rattle.actions.proofs.sum_fits.Goals as goal

pub returns-then-x : goal.returns-then-x
returns-then-x c = let args = c.args in
    sym (ap (λ (l : ℕ). sum_fits l args.x args.f) c.if-len-eq0.true ∙ rw c.if-x.true)

pub returns-else-x : goal.returns-else-x
returns-else-x c = let args = c.args in
    c.if-x.false ∙ sym (ap (λ (l : ℕ). sum_fits l args.x args.f) c.if-len-eq0.true ∙ rw c.if-x.false)

pub returns-then-x-2 : goal.returns-then-x-2
returns-then-x-2 c = let args = c.args in
    sym (length_is_more args.len args.x args.f c.if-len-eq0.false ∙ rw c.if-x-2.true)

pub returns-else-x-2 : goal.returns-else-x-2
returns-else-x-2 c = let args = c.args in
    sym (length_is_more args.len args.x args.f c.if-len-eq0.false ∙ rw c.if-x-2.false)
