-- The filter is copied, the two sets are put behind it, and the kind before it.
use native.Mathlib.Omega.{arith}
use lib.ListN.{length-set}
use lib.Seq.{length-take-le}
use Rattle.meaning.specs.Sizes.{FILTER-BYTES}
use Rattle.compare.proofs.Entries.{entry_written}
use Rattle.compare.proofs.fill_entry.Goals as goal

pub shape_of-out : goal.shape_of-out
shape_of-out c = simp length-set (omega arith)

pub returns : goal.returns
returns c = entry_written c.args.out.now c.copy.new.to c.put_word.new.b c.put_word-2.new.b _ c.args.kind c.args.left.0 c.args.right.0 c.requires.0
    (length-take-le FILTER-BYTES c.args.code.now c.requires.1) c.copy.ensures c.put_word.ensures c.put_word-2.ensures
