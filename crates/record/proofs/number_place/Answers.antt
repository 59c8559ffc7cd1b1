-- By the kind: the length, the plan, and what stands before a call record's number.
use mathlib.Core.Path.{sym, ◌∙◌}
use Rattle.record.proofs.NumberLines.{number_cut, number_refused, number_at_lem, call_cut, call_refused, call_outside, call_at}
use Rattle.record.proofs.number_place.Goals as goal

pub returns-then-input-lt-NUMBER_RECORD : goal.returns-then-input-lt-NUMBER_RECORD
returns-then-input-lt-NUMBER_RECORD c = number_cut c.args.input.now c.if-kind-eq-NUMBER.true c.if-input-lt-NUMBER_RECORD.true

pub returns-then-not-opened : goal.returns-then-not-opened
returns-then-not-opened c = number_refused c.args.input.now c.if-kind-eq-NUMBER.true c.if-input-lt-NUMBER_RECORD.false (c.if-not-opened.true)

pub returns-then-kind-eq-NUMBER : goal.returns-then-kind-eq-NUMBER
returns-then-kind-eq-NUMBER c = (c.if-not-opened.false, number_at_lem c.args.input.now c.if-kind-eq-NUMBER.true c.if-input-lt-NUMBER_RECORD.false)

pub returns-then-input-lt-CALL_RECORD : goal.returns-then-input-lt-CALL_RECORD
returns-then-input-lt-CALL_RECORD c = call_cut c.args.input.now c.requires c.if-kind-eq-NUMBER.false c.if-input-lt-CALL_RECORD.true

pub returns-then-not-opened-2 : goal.returns-then-not-opened-2
returns-then-not-opened-2 c = call_refused c.args.input.now c.requires c.if-kind-eq-NUMBER.false c.if-input-lt-CALL_RECORD.false (c.if-not-opened-2.true)

pub returns-then-not-head_in_range : goal.returns-then-not-head_in_range
returns-then-not-head_in_range c = call_outside c.args.input.now c.requires c.if-kind-eq-NUMBER.false c.if-input-lt-CALL_RECORD.false (c.if-not-opened-2.false) (sym c.head_in_range.ensures ∙ c.if-not-head_in_range.true)

pub returns : goal.returns
returns c = (
  c.if-not-opened-2.false,
  call_at c.args.input.now c.requires c.if-kind-eq-NUMBER.false c.if-input-lt-CALL_RECORD.false (sym c.head_in_range.ensures ∙ c.if-not-head_in_range.false),
)
