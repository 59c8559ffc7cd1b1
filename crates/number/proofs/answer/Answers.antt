-- The checks in order, then the answer over the plan.
use Rattle.meaning.proofs.Telling.{told}
use Rattle.number.proofs.Calls.{gives_cut, gives_unsound, gives_no_room, gives_range, gives_known}
use Rattle.number.proofs.answer.Goals as goal

pub returns-then-body-lt-NUMBER_BYTES : goal.returns-then-body-lt-NUMBER_BYTES
returns-then-body-lt-NUMBER_BYTES c = gives_cut c.args.plan.now c.args.body.now c.args.out.now _ c.if-body-lt-NUMBER_BYTES.true c.refuse.ensures

pub returns-in-Err : goal.returns-in-Err
returns-in-Err c = gives_unsound c.args.plan.now c.args.body.now c.args.out.now _ c.if-body-lt-NUMBER_BYTES.false _ c.in-Err.ensures.0 c.in-Err.ensures.1 c.refuse-in-Err.ensures

pub returns-then-out-lt-DIGIT_ROOM : goal.returns-then-out-lt-DIGIT_ROOM
returns-then-out-lt-DIGIT_ROOM c = gives_no_room c.args.plan.now c.args.body.now c.args.out.now _ c.if-body-lt-NUMBER_BYTES.false c.in-Ok.plan c.in-Ok.ensures c.if-out-lt-DIGIT_ROOM.true c.refuse-then-out-lt-DIGIT_ROOM.ensures

pub returns-then-not-number_in_range : goal.returns-then-not-number_in_range
returns-then-not-number_in_range c = gives_range c.args.plan.now c.args.body.now c.args.out.now _ c.if-body-lt-NUMBER_BYTES.false c.in-Ok.plan c.in-Ok.ensures c.if-out-lt-DIGIT_ROOM.false (told c.number_in_range.ensures c.if-not-number_in_range.true) c.refuse-then-not-number_in_range.ensures

pub returns : goal.returns
returns c = gives_known c.args.plan.now c.args.body.now c.args.out.now _ c.if-body-lt-NUMBER_BYTES.false c.in-Ok.plan c.in-Ok.ensures c.if-out-lt-DIGIT_ROOM.false (told c.number_in_range.ensures c.if-not-number_in_range.false) _ c.answer_known.ensures
