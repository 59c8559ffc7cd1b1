-- There is room for an entry, and a rule's slot begins with its filter.
use native.Mathlib.Omega.{arith}
use Rattle.meaning.specs.Compare.{LEFT-ONLY, RIGHT-ONLY, IN-BOTH, NO-SET}
use Rattle.compare.specs.Standings.{rule_of}
use Rattle.compare.proofs.Entries.{entry_room}
use Rattle.compare.proofs.put_difference.Goals as goal

pub put_entry-requires : goal.put_entry-requires
put_entry-requires c = let l = c.in-LeftOnly.l in
    (entry_room l LEFT-ONLY (rule_of l).set NO-SET c.args.out.now (rw c.in-LeftOnly.is at c.requires), omega (arith, c.slot.ensures.slot.long))

pub put_entry-requires-in-RightOnly : goal.put_entry-requires-in-RightOnly
put_entry-requires-in-RightOnly c = let r = c.in-RightOnly.r in
    (entry_room r RIGHT-ONLY NO-SET (rule_of r).set c.args.out.now (rw c.in-RightOnly.is at c.requires), omega (arith, c.slot-in-RightOnly.ensures.slot.long))

pub put_entry-requires-in-InBoth : goal.put_entry-requires-in-InBoth
put_entry-requires-in-InBoth c = let l = c.in-InBoth.l in
    (entry_room l IN-BOTH (rule_of l).set (rule_of c.in-InBoth.r).set c.args.out.now (rw c.in-InBoth.is at c.requires), omega (arith, c.slot-in-InBoth.ensures.slot.long))
