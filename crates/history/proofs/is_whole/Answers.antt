-- The test of the definition at a place, one part at a time.
use mathlib.Core.Path.{sym, ◌∙◌}
use native.Mathlib.Omega.{arith}
use borrow.Author.Rules.{rules}
use borrow.Author.Tests.{not-true, not-false}
use Rattle.history.proofs.Going.{none_past, whole_is}
use Rattle.history.proofs.is_whole.Goals as goal

pub returns-then-calls-at : goal.returns-then-calls-at
returns-then-calls-at c = sym (none_past _ _ c.if-calls-at.true)

pub returns-then-is_call : goal.returns-then-is_call
returns-then-is_call c = let a = c.args in
    sym (whole_is a.calls.now a.at (omega arith) ∙ rw (sym c.is_call.ensures ∙ c.if-is_call.true, c.body_length.ensures.is))

pub returns-else-is_call : goal.returns-else-is_call
returns-else-is_call c = let a = c.args in
    c.if-is_call.false ∙ sym (whole_is a.calls.now a.at (omega arith) ∙ rw (sym c.is_call.ensures ∙ c.if-is_call.false))
