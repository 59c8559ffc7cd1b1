-- The slot is put in among those that are held, and the count raised.
use mathlib.Core.Path.{◌∙◌}
use native.Mathlib.Omega.{arith}
use Rattle.prices.proofs.ImageLaws.{in_range_is}
use Rattle.prices.proofs.RowEdits.{slot_size, row_inserted}
use borrow.Author.Rules.{rules}
use Rattle.prices.proofs.insert_row.Goals as goal

pub word-count-requires : goal.word-count-requires
word-count-requires c = let r = in_range_is c.args.prices.now c.requires.list_in_range.0 in
    omega (arith, r.size)

pub slice_bounds-insert_slot-count : goal.slice_bounds-insert_slot-count
slice_bounds-insert_slot-count c = let r = in_range_is c.args.prices.now c.requires.list_in_range.0 in
    omega (arith, r.size)

pub slice_bounds-insert_slot-start : goal.slice_bounds-insert_slot-start
slice_bounds-insert_slot-start c = let r = in_range_is c.args.prices.now c.requires.list_in_range.0 in
    omega (arith, r.size)

pub insert_slot-requires : goal.insert_slot-requires
insert_slot-requires c = let r = in_range_is c.args.prices.now c.requires.list_in_range.0 in (
  omega (arith, c.requires.list_in_range.1, c.from-k.ensures, c.word-count.ensures.is, r.count),
  omega (arith, c.requires.list_in_range.2, c.word-count.ensures.is, r.count, r.size),
  slot_size c.args.slot.now c.requires.row_slot,
)

pub put_word-requires : goal.put_word-requires
put_word-requires c = let r = in_range_is c.args.prices.now c.requires.list_in_range.0 in
    let size = r.size in
    (search rules, omega (arith, c.requires.list_in_range.2, c.word-count.ensures.is, r.count))

pub returns : goal.returns
returns c = let m = c.args.prices.now in
    c.put_word.ensures
    ∙ row_inserted m (in_range_is m c.requires.list_in_range.0) _ c.args.place.0 _ c.args.slot.now c.insert_slot.new.area c.word-count.ensures.is
    c.requires.list_in_range.1 c.requires.list_in_range.2 c.requires.row_slot.own (rw c.from-k.ensures at c.insert_slot.ensures)
