-- A refusal leaves the memory; an accepted opening starts a plan at its front.
use mathlib.Core.Path.{◌∙◌}
use lib.ListN.{length}
use Rattle.meaning.specs.Calls.{open_plan}
use Rattle.changes.specs.Promise.{calls}
use Rattle.changes.proofs.PromiseLaws.{refused}
use Rattle.set_changes.proofs.LineLaws.{opened_fits}
use Rattle.meaning.proofs.Telling.{refusal_number, answered}
use Rattle.set_changes.proofs.ChangeLaws.{opening_number, opened}
use Rattle.std.proofs.lemmas.Result.{err_from_is_err_and}
use borrow.Author.Rules.{rules}
use Rattle.set_changes.proofs.open_known.Goals as goal

pub start-requires : goal.start-requires
start-requires c = (search rules, search rules, opened_fits (length c.args.plan.now) c.args.body.now (answered c.opening_refusal.ensures c.in_ok-opening_refusal.was))

pub returns-in_err-opening_refusal : goal.returns-in_err-opening_refusal
returns-in_err-opening_refusal c = let p = err_from_is_err_and c.from_residual.result c.from_residual.ensures.1 in
    rw (p.1, p.2)
    (refused (calls open_plan c.args.body.now) c.args.plan.now _
    (opening_number c.args.plan.now c.args.body.now c.requires ∙ answered c.opening_refusal.ensures c.in_err-opening_refusal.was)
    (refusal_number _))

pub returns : goal.returns
returns c = opened c.args.plan.now c.args.body.now c.requires _ (answered c.opening_refusal.ensures c.in_ok-opening_refusal.was) c.start.ensures
