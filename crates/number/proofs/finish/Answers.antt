-- Each way gives the answer that document 01 has for it.
use Rattle.number.proofs.Answering.{holds_responded, holds_withheld, holds_long, holds_written}
use Rattle.number.proofs.finish.Goals as goal

pub returns-then-s-ge-CONNECT : goal.returns-then-s-ge-CONNECT
returns-then-s-ge-CONNECT c = holds_responded _ _ _ _ _ _ c.if-s-ge-CONNECT.true c.served.ensures

pub returns-then-s : goal.returns-then-s
returns-then-s c = holds_withheld _ _ _ _ _ _ c.if-s-ge-CONNECT.false c.if-s.true c.served-then-s.ensures

pub returns-then-written-gt-MOST : goal.returns-then-written-gt-MOST
returns-then-written-gt-MOST c = holds_long _ _ _ _ _ _ c.if-s-ge-CONNECT.false c.if-s.false _ c.join_outgoing-written.ensures c.if-written-gt-MOST.true c.refuse.ensures

pub returns : goal.returns
returns c = holds_written _ _ _ _ _ _ c.if-s-ge-CONNECT.false c.if-s.false _ c.join_outgoing-written.ensures c.if-written-gt-MOST.false c.served-2.ensures
