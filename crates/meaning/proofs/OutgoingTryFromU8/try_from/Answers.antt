-- A byte other than 255 is what it is as a class.
use mathlib.Core.Path.{sym, ap, ◌∙◌}
use Rattle.std.proofs.lemmas.Result.{err_from_is_err_and}
use Rattle.meaning.specs.Answers.{given}
use Rattle.meaning.proofs.Telling.{outgoing_given}
use Rattle.meaning.proofs.OutgoingTryFromU8.try_from.Goals as goal

pub returns-in_err-class : goal.returns-in_err-class
returns-in_err-class c = let p = err_from_is_err_and c.from_residual.result c.from_residual.ensures.1 in
    rw (p.1, p.2) (sym (outgoing_given c.if-b-eq255.false c.try_from.ensures ∙ ap given c.in_err-class.was))

pub returns : goal.returns
returns c = sym (outgoing_given c.if-b-eq255.false c.try_from.ensures ∙ ap given c.in_ok-class.was)
