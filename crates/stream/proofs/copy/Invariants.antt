-- Between two turns a chain of them has been taken (`Copying`).
use mathlib.Core.Path.{◌≡◌, ap, ◌∙◌}
use lib.ListN.{length}
use mir.Syntax.{w32}
use mir.Val.{to_z}
use borrow.Author.Rules.{rules}
use Rattle.buffer.specs.Zeros.{zeros}
use Rattle.record.specs.Promises.{lent}
use Rattle.stream.proofs.Copying.{Copying, first_is, copying_start, copying_more, copying_last, copying_spent, never, as_lent}
use Rattle.stream.specs.declared.Rest.{Rest}
use Rattle.stream.specs.declared.Turned.TheVariants.{Goes}
use Rattle.stream.proofs.copy.Given as goal

abbrev pub invariant-loop-turns : goal.invariant-loop-turns
invariant-loop-turns g l = Copying l.from l.to (length l.initial.plan) (length l.initial.prices) l.initial.input l.initial.output (lent l.plan l.prices l.districts l.rest.run.whole) l.input l.output l.rest l.turns

abbrev pub decreases-loop-turns : goal.decreases-loop-turns
decreases-loop-turns g l = l.turns
