-- By the kind; a record by the plan alone leaves the price list and the ledger beside it.
use native.Mathlib.Omega.{arith}
use Rattle.meaning.specs.Calls.{OPEN-PLAN, REFS, LIST, body_length}
use Rattle.meaning.specs.Answers.{number_of_edit}
use Rattle.record.proofs.ReadLines.{read_list}
use Rattle.record.proofs.CallLines.{edit_most, kept_line}
use Rattle.record.proofs.Beside.{beside_line}
use Rattle.record.proofs.MonthLines.{price_line, loss_last, loss_next}
use Rattle.record.proofs.whole_record.Goals as goal

pub opening_record-requires : goal.opening_record-requires
unfolding body_length
opening_record-requires c = (c.requires.0.plan_in, rw c.in-Opening.is at c.requires.2, c.requires.3)

pub returns-in-Opening : goal.returns-in-Opening
returns-in-Opening c = rw c.in-Opening.is (beside_line OPEN-PLAN c.args.body.now c.args.prices.now c.args.districts.now (omega arith) c.requires.0.prices_in c.opening_record.ensures)

pub edit_record-requires : goal.edit_record-requires
edit_record-requires c = (c.requires.0.plan_in, rw c.in-Edit.is at c.requires.2, c.requires.3)

pub returns-in-Edit : goal.returns-in-Edit
returns-in-Edit c = rw c.in-Edit.is (beside_line (number_of_edit c.in-Edit.edit) c.args.body.now c.args.prices.now c.args.districts.now (edit_most c.in-Edit.edit) c.requires.0.prices_in
    c.edit_record.ensures)

pub refs_record-requires : goal.refs_record-requires
unfolding body_length
refs_record-requires c = (c.requires.0.plan_in.state, rw c.in-Refs.is at c.requires.2, c.requires.3)

pub returns-in-Refs : goal.returns-in-Refs
returns-in-Refs c = rw c.in-Refs.is (beside_line REFS c.args.body.now c.args.prices.now c.args.districts.now (omega arith) c.requires.0.prices_in
    (kept_line c.requires.0.plan_in.state c.refs_record.ensures))

pub list_record-requires : goal.list_record-requires
list_record-requires c = (c.requires.0.plan_in.state, c.requires.3)

pub returns-in-List : goal.returns-in-List
returns-in-List c = rw c.in-List.is (beside_line LIST c.args.body.now c.args.prices.now c.args.districts.now (omega arith) c.requires.0.prices_in
    (kept_line c.requires.0.plan_in.state (read_list c.args.plan.now c.args.run c.args.body.now c.list_record.ensures)))

pub price_record-added-requires : goal.price_record-added-requires
unfolding body_length
price_record-added-requires c = (c.requires.0.prices_in, rw c.in-Price.is at c.requires.2, c.requires.3)

pub returns-in-Price : goal.returns-in-Price
unfolding body_length
returns-in-Price c = rw c.in-Price.is (price_line c.args.plan.now c.args.prices.now c.args.districts.now c.args.run c.requires.0 c.args.body.now (rw c.in-Price.is at c.requires.2)
    c.price_record-added.ensures c.line_of.ensures)

pub loss_record-reported-requires : goal.loss_record-reported-requires
loss_record-reported-requires c = (c.requires.0.ledger_in, c.requires.3)

pub returns-in-Some : goal.returns-in-Some
returns-in-Some c = rw c.in-Losses.is (loss_next c.args.plan.now c.args.prices.now c.args.districts.now c.args.run c.requires.0 c.args.body.now c.loss_record-reported.ensures
    _ c.in-Some.is c.line_of-in-Some.ensures)

pub returns-in-None : goal.returns-in-None
returns-in-None c = rw c.in-Losses.is (loss_last c.args.plan.now c.args.prices.now c.args.districts.now c.args.run c.requires.0 c.args.body.now c.loss_record-reported.ensures
    c.in-None.is c.line_of-in-None.ensures)
