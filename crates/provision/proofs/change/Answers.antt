-- CUT, PLAN, or the edit over a plan that is known to be sound, with the bytes that its kind says.
use native.Mathlib.Nat.{sub-zero}
use native.Mathlib.Omega.{arith}
use mathlib.Core.Path.{◌∙◌}
use lib.Seq.{length-take-le}
use Rattle.meaning.specs.Answers.{edit_of}
use Rattle.meaning.proofs.Telling.{told}
use Rattle.meaning.proofs.CallKinds.{edits}
use Rattle.changes.proofs.PromiseLaws.{cut, unsound, longer}
use Rattle.provision.proofs.change.Goals as goal

pub returns-then-body-length : goal.returns-then-body-length
returns-then-body-length c = cut (edit_of c.args.edit) c.args.plan.now c.args.body.now (omega (arith, c.body_length-length.ensures.is, c.if-body-length.true))

pub returns-then-not-sound : goal.returns-then-not-sound
returns-then-not-sound c = unsound (edit_of c.args.edit) c.args.plan.now c.args.body.now (edits c.args.edit)
    (omega (arith, c.body_length-length.ensures.is, c.if-body-length.false)) (told c.sound.ensures c.if-not-sound.true)

pub change_known-requires : goal.change_known-requires
change_known-requires c = record {
  sound = told c.sound.ensures c.if-not-sound.false;
  whole = rw sub-zero (length-take-le _ c.args.body.now c.if-body-length.false ∙ c.body_length-length.ensures.is);
}

pub returns : goal.returns
returns c = longer (edit_of c.args.edit) c.args.plan.now c.args.body.now (omega (arith, c.body_length-length.ensures.is, c.if-body-length.false)) _ _
    (rw (← c.body_length-length.ensures.is) (rw sub-zero at c.change_known.ensures))
