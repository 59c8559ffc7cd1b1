-- With a prefix any FPFX may stand.
use mathlib.Core.Bool.{or-true}
use borrow.Author.Tests.{ne_eqb}
use Rattle.meaning.specs.Groups.{fpfx_meets_prefix}
use Rattle.actions.proofs.fpfx_meets_prefix.Goals as goal

pub returns-then-prefix-ne0 : goal.returns-then-prefix-ne0
unfolding fpfx_meets_prefix
returns-then-prefix-ne0 c = rw (ne_eqb _ 0 c.if-prefix-ne0.true, or-true)
