-- The place that the lookup gives among the slots is the row's place among the rows.
use native.Mathlib.Omega.{arith}
use Rattle.prices.proofs.ImageLaws.{in_range_is}
use Rattle.prices.proofs.Chosen.{lent_area}
use Rattle.prices.proofs.RowEdits.{slot_code}
use Rattle.prices.proofs.Adding.{row_taken, row_full, row_placed, absent_within, room_left}
use Rattle.prices.proofs.place_row.Goals as goal

pub word-count-requires : goal.word-count-requires
word-count-requires c = let r = in_range_is c.args.prices.now c.requires.list_in_range in
    omega (arith, r.size)

pub slice_bounds-find-count : goal.slice_bounds-find-count
slice_bounds-find-count c = let r = in_range_is c.args.prices.now c.requires.list_in_range in
    omega (arith, r.size)

pub slice_bounds-find-start : goal.slice_bounds-find-start
slice_bounds-find-start c = let r = in_range_is c.args.prices.now c.requires.list_in_range in
    omega (arith, r.size)

pub find-requires : goal.find-requires
find-requires c = let m = c.args.prices.now in
    record {
      rule_area = lent_area m (in_range_is m c.requires.list_in_range) _ c.word-count.ensures.is;
      filter_bytes = slot_code c.args.slot.now c.requires.row_slot;
    }

pub returns-in_default : goal.returns-in_default
returns-in_default c = row_taken c.args.prices.now c.args.slot.now c.requires.list_in_range c.requires.row_slot _ c.word-count.ensures.is _ c.find.ensures _ c.in_default.is

pub returns-then-count-eq-PRICE_ROOM : goal.returns-then-count-eq-PRICE_ROOM
returns-then-count-eq-PRICE_ROOM c = row_full c.args.prices.now c.args.slot.now c.requires.list_in_range c.requires.row_slot _ c.word-count.ensures.is _ c.find.ensures _ c.in-Err.is c.if-count-eq-PRICE_ROOM.true

pub insert_row-requires : goal.insert_row-requires
insert_row-requires c = let m = c.args.prices.now in
    let s = c.args.slot.now in record {
      list_in_range = (
        c.requires.list_in_range,
        absent_within m s c.requires.list_in_range c.requires.row_slot _ c.word-count.ensures.is _ c.find.ensures _ c.in-Err.is,
        room_left m s c.requires.list_in_range c.requires.row_slot _ c.word-count.ensures.is _ c.find.ensures _ c.in-Err.is c.if-count-eq-PRICE_ROOM.false,
      );
      row_slot = c.requires.row_slot;
    }

pub returns : goal.returns
returns c = row_placed c.args.prices.now c.args.slot.now c.requires.list_in_range c.requires.row_slot _ c.word-count.ensures.is _ c.find.ensures _ c.in-Err.is c.if-count-eq-PRICE_ROOM.false _
    c.insert_row.ensures
