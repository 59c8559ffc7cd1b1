-- What is left of the two decides.
use native.Mathlib.Omega.{arith}
use Rattle.filter.proofs.OrderLaws.{prefix_longer, prefix_shorter}
use Rattle.filter.proofs.order_prefixes.Goals as goal

pub returns-in_default : goal.returns-in_default
returns-in_default c = prefix_longer _ _ _ c.loop-i.invariant c.loop-i-test.true c.in_default.ensures.lookup.3

pub returns-then-a-b : goal.returns-then-a-b
returns-then-a-b c = prefix_shorter _ _ _ c.loop-i.invariant c.loop-i-test.false (omega arith)
