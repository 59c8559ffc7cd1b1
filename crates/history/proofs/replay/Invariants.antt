-- The calls that are left decide (`Going`); each turn carries out the next.
use Prim.Native.Nat.{◌-◌}
use mathlib.Core.Path.{sym, ◌∙◌}
use native.Mathlib.Omega.{arith}
use lib.ListN.{length}
use borrow.Author.Rules.{rules}
use borrow.Author.Tests.{not-true, not-false}
use Rattle.history.proofs.Going.{Going, going_start, going_full, going_stops, going_whole, going_more}
use Rattle.history.proofs.replay.Given as goal

abbrev pub invariant-loop-done : goal.invariant-loop-done
invariant-loop-done l = Going l.initial.plan l.calls l.initial.numbers l.done l.at l.plan l.numbers
