-- The entry over the front of the buffer.
use mathlib.Core.Path.{ap, ◌∙◌}
use lib.ListN.{length, take}
use lib.Seq.{length-take-le}
use Rattle.meaning.specs.Sizes.{FILTER-BYTES}
use Rattle.compare.proofs.Entries.{entry_put, entry_long}
use Rattle.compare.proofs.put_entry.Goals as goal

pub returns : goal.returns
returns c = entry_put _ c.args.out.now c.fill_entry.new.out c.fill_entry.ensures
    (ap length c.fill_entry.ensures ∙ entry_long c.args.kind (take FILTER-BYTES c.args.code.now) c.args.left.0 c.args.right.0 (length-take-le FILTER-BYTES c.args.code.now c.requires.1))
