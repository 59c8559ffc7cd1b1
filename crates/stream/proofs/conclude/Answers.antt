-- By what became of the write, and why the steps stopped.
use mathlib.Core.Path.{sym, ap, ◌∙◌}
use Rattle.pump.specs.Pumps.{is_over}
use Rattle.stream.specs.Turnings.{ending_of}
use Rattle.stream.proofs.Answers.{unwritten-so, goes_so, done-so}
use Rattle.stream.proofs.conclude.Goals as goal

pub returns-then-failed : goal.returns-then-failed
returns-then-failed c = unwritten-so c.args.h c.args.p c.args.sink (sym c.failed.ensures ∙ c.if-failed.true)

pub returns-in-Wants : goal.returns-in-Wants
returns-in-Wants c = goes_so c.args.h c.args.p c.args.sink (sym c.failed.ensures ∙ c.if-failed.false) (ap is_over c.in-Wants.is)

pub returns-in-Full : goal.returns-in-Full
returns-in-Full c = goes_so c.args.h c.args.p c.args.sink (sym c.failed.ensures ∙ c.if-failed.false) (ap is_over c.in-Full.is)

pub returns-in-Over : goal.returns-in-Over
returns-in-Over c = rw (c.given.ensures, ← ap ending_of c.in-Over.is)
    (done-so c.args.h c.args.p c.args.sink (sym c.failed.ensures ∙ c.if-failed.false) (ap is_over c.in-Over.is))
