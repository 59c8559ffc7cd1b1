-- A refusal leaves the memory; an accepted edit leaves what it makes.
use Rattle.std.proofs.lemmas.Result.{err_from_is_err_and}
use Rattle.meaning.specs.Answers.{edit_of}
use Rattle.meaning.proofs.Telling.{answered, refusal_number}
use Rattle.changes.proofs.PromiseLaws.{known_refused, known_made}
use Rattle.provision.proofs.change_known.Goals as goal

pub make-requires : goal.make-requires
make-requires c = record { known = c.requires; accepted = answered c.refusal_known.ensures c.in_ok-refusal_known.was }

pub returns-in_err-refusal_known : goal.returns-in_err-refusal_known
returns-in_err-refusal_known c = let p = err_from_is_err_and c.from_residual.result c.from_residual.ensures.1 in
    rw (p.1, p.2)
    (known_refused (edit_of c.args.edit) c.args.plan.now c.args.body.now c.requires.whole c.requires.sound _
    (answered c.refusal_known.ensures c.in_err-refusal_known.was) (refusal_number _))

pub returns : goal.returns
returns c = known_made (edit_of c.args.edit) c.args.plan.now c.args.body.now c.requires.whole c.requires.sound _
    (answered c.refusal_known.ensures c.in_ok-refusal_known.was) c.make.ensures
