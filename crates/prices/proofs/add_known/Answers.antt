-- Out of range, or as its slot is put in.
use Rattle.meaning.proofs.Telling.{told}
use Rattle.prices.proofs.Adding.{row_out, slot_given, row_added}
use Rattle.prices.proofs.add_known.Goals as goal

pub returns-then-not-row_in_range : goal.returns-then-not-row_in_range
returns-then-not-row_in_range c = row_out c.args.prices.now c.args.body.now c.requires.0 c.requires.1 (told c.row_in_range.ensures c.if-not-row_in_range.true)

pub row_slot-requires : goal.row_slot-requires
row_slot-requires c = (c.requires.1, told c.row_in_range.ensures c.if-not-row_in_range.false)

pub place_row-requires : goal.place_row-requires
place_row-requires c =
    record {
      list_in_range = c.requires.0;
      row_slot = slot_given c.args.prices.now c.args.body.now c.requires.0 c.requires.1 (told c.row_in_range.ensures c.if-not-row_in_range.false) c.row_slot.ensures;
    }

pub returns : goal.returns
returns c = row_added c.args.prices.now c.args.body.now c.requires.0 c.requires.1 (told c.row_in_range.ensures c.if-not-row_in_range.false) c.row_slot.ensures c.place_row.ensures
