-- CUT, or the opening with the bytes that its kind says.
use native.Mathlib.Nat.{sub-zero}
use lib.Seq.{length-take-le}
use Rattle.meaning.specs.Sizes.{OPENING-BYTES}
use Rattle.meaning.specs.Calls.{open_plan, body_length}
use Rattle.changes.proofs.PromiseLaws.{cut, longer}
use Rattle.provision.proofs.opening.Goals as goal

pub returns-then-body-lt-OPENING_BYTES : goal.returns-then-body-lt-OPENING_BYTES
unfolding body_length
returns-then-body-lt-OPENING_BYTES c = cut open_plan c.args.plan.now c.args.body.now c.if-body-lt-OPENING_BYTES.true

pub open_known-requires : goal.open_known-requires
open_known-requires c = rw sub-zero (length-take-le OPENING-BYTES c.args.body.now c.if-body-lt-OPENING_BYTES.false)

pub returns : goal.returns
unfolding body_length
returns c = longer open_plan c.args.plan.now c.args.body.now c.if-body-lt-OPENING_BYTES.false _ _ (rw sub-zero at c.open_known.ensures)
