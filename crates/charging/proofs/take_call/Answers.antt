-- The checks in order, then the record over what is known.
use mathlib.Core.Path.{refl}
use native.Mathlib.Omega.{arith}
use lib.Seq.{length-take-le}
use Rattle.meaning.proofs.Telling.{told}
use Rattle.charging.proofs.Charging.{takes_cut, takes_unsound, takes_no_room, takes_bad_call, takes_bad_ledger, takes_no_list, chargeable, takes_known}
use Rattle.charging.proofs.take_call.Goals.{then-not-call_in_range-via-then-not-call_in_range, then-not-call_in_range-via-else-not-call_in_range+then-not-in_range}
use Rattle.charging.proofs.take_call.Goals as goal

pub returns-then-body-lt-CALL_BYTES : goal.returns-then-body-lt-CALL_BYTES
returns-then-body-lt-CALL_BYTES c = rw c.refused.ensures (takes_cut c.args.plan.now c.args.prices.now _ c.args.body.now c.args.out.now c.if-body-lt-CALL_BYTES.true refl)

pub returns-in_default : goal.returns-in_default
returns-in_default c = rw c.refused-in_default.ensures (takes_unsound c.args.plan.now c.args.prices.now _ c.args.body.now c.args.out.now c.if-body-lt-CALL_BYTES.false c.in_default.ensures.1 refl)

pub returns-then-out-lt-DIGIT_ROOM : goal.returns-then-out-lt-DIGIT_ROOM
returns-then-out-lt-DIGIT_ROOM c = rw c.refused-then-out-lt-DIGIT_ROOM.ensures (takes_no_room c.args.plan.now c.args.prices.now _ c.args.body.now c.args.out.now c.if-body-lt-CALL_BYTES.false c.in-Ok.plan c.in-Ok.ensures c.if-out-lt-DIGIT_ROOM.true refl)

pub call_in_range-requires : goal.call_in_range-requires
call_in_range-requires c = length-take-le _ c.args.body.now c.if-body-lt-CALL_BYTES.false

-- the record, or the ledger
pub returns-then-not-call_in_range : goal.returns-then-not-call_in_range
returns-then-not-call_in_range c = rw c.refused-then-not-call_in_range.ensures (elim c.then-not-call_in_range.branch [
  | then-not-call_in_range-via-then-not-call_in_range w ↦
      takes_bad_call c.args.plan.now c.args.prices.now _ c.args.body.now c.args.out.now c.if-body-lt-CALL_BYTES.false c.in-Ok.plan c.in-Ok.ensures c.if-out-lt-DIGIT_ROOM.false (told c.call_in_range.ensures w.if-not-call_in_range.true) refl
  | then-not-call_in_range-via-else-not-call_in_range+then-not-in_range w ↦
      takes_bad_ledger c.args.plan.now c.args.prices.now _ c.args.body.now c.args.out.now c.if-body-lt-CALL_BYTES.false c.in-Ok.plan c.in-Ok.ensures c.if-out-lt-DIGIT_ROOM.false
      (told c.call_in_range.ensures w.if-not-call_in_range.false) (told w.in_range.ensures w.if-not-in_range.true) refl
])

pub returns-in_default-examine : goal.returns-in_default-examine
returns-in_default-examine c = rw c.refused-in_default-examine.ensures (takes_no_list c.args.plan.now c.args.prices.now _ c.args.body.now c.args.out.now c.if-body-lt-CALL_BYTES.false c.in-Ok.plan c.in-Ok.ensures c.if-out-lt-DIGIT_ROOM.false
    (told c.call_in_range.ensures c.if-not-call_in_range.false) c.in_default-examine.ensures.1 refl)

pub take_known-requires : goal.take_known-requires
take_known-requires c = (
  chargeable c.args.plan.now c.args.prices.now _ c.args.body.now c.args.out.now c.if-body-lt-CALL_BYTES.false c.in-Ok.plan c.in-Ok.ensures c.if-out-lt-DIGIT_ROOM.false
      (told c.call_in_range.ensures c.if-not-call_in_range.false) (told c.in_range.ensures c.if-not-in_range.false),
  omega (arith, c.if-out-lt-DIGIT_ROOM.false),
)

pub returns : goal.returns
returns c = takes_known c.args.plan.now c.args.prices.now _ c.args.body.now c.args.out.now c.if-body-lt-CALL_BYTES.false c.in-Ok.plan c.in-Ok.ensures c.if-out-lt-DIGIT_ROOM.false
    (told c.call_in_range.ensures c.if-not-call_in_range.false) c.in-Ok-examine.prices c.in-Ok-examine.ensures c.take_known.ensures
