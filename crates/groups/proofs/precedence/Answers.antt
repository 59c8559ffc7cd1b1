-- Each arm is where the table and the arm agree, as one computed test shows; the last is past the table.
use Prim.Native.Nat.{ℕ, ◌≤◌, ◌<◌}
use native.Mathlib.Omega.{arith}
use mathlib.Core.Path.{sym, ap}
use mathlib.Core.Logic.{◌≢◌}
use lib.ListN.{get_or-eq_default}
use borrow.Author.Rules.{rules}
use Rattle.meaning.specs.Groups.{precedence}
use Rattle.actions.proofs.Tables.{arm}
use Rattle.groups.proofs.precedence.Goals as goal

first : (c : ℕ) → c < 3 → c ≢ 1 → c ≢ 2 → c ≤ 0
first c h a b = omega arith

past : (c : ℕ) → 5 ≤ c → c ≢ 5 → 6 ≤ c
past c h a = omega arith

pub returns-in-1 : goal.returns-in-1
unfolding precedence
returns-in-1 c = sym (ap precedence c.in-1.is)

pub returns-in-2 : goal.returns-in-2
unfolding precedence
returns-in-2 c = sym (ap precedence c.in-2.is)

pub returns-in-5 : goal.returns-in-5
unfolding precedence
returns-in-5 c = sym (ap precedence c.in-5.is)

pub returns-in-3-to-4 : goal.returns-in-3-to-4
unfolding precedence
returns-in-3-to-4 c = arm precedence (λ c. 50) 3 4 tt c.args.service (search rules) (search rules)

pub returns-in_default : goal.returns-in_default
unfolding precedence
returns-in_default c = arm precedence (λ c. 0) 0 0 tt c.args.service (search rules) (search rules)

pub returns-in_default-2 : goal.returns-in_default-2
unfolding precedence
returns-in_default-2 c = let h : 6 ≤ c.args.service = search rules in rw get_or-eq_default
