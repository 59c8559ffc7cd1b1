-- Each arm is where the table and the arm agree, as one computed test shows; the last is past the table.
use Prim.Native.Nat.{ℕ, ◌≤◌}
use native.Mathlib.Omega.{arith}
use mathlib.Core.Path.{sym, ap}
use mathlib.Core.Logic.{◌≢◌}
use lib.ListN.{get_or-eq_default}
use borrow.Author.Rules.{rules}
use Rattle.meaning.specs.Actions.{most_of}
use Rattle.actions.proofs.Tables.{arm}
use Rattle.actions.proofs.most_of.Goals as goal

past_three : (c : ℕ) → 1 ≤ c → c ≢ 1 → c ≢ 2 → c ≢ 3 → 4 ≤ c
past_three c h a b d = omega arith

pub returns-in-1 : goal.returns-in-1
unfolding most_of
returns-in-1 c = sym (ap most_of c.in-1.is)

pub returns-in-2 : goal.returns-in-2
unfolding most_of
returns-in-2 c = sym (ap most_of c.in-2.is)

pub returns-in-3 : goal.returns-in-3
unfolding most_of
returns-in-3 c = sym (ap most_of c.in-3.is)

pub returns-in-4-to-6 : goal.returns-in-4-to-6
unfolding most_of
returns-in-4-to-6 c = arm most_of (λ c. 15) 4 6 tt c.args.code (search rules) (search rules)

pub returns-in-7-to-10 : goal.returns-in-7-to-10
unfolding most_of
returns-in-7-to-10 c = arm most_of (λ c. 8) 7 10 tt c.args.code (search rules) (search rules)

pub returns-in_default : goal.returns-in_default
unfolding most_of
returns-in_default c = arm most_of (λ c. 0) 0 0 tt c.args.code (search rules) (search rules)

pub returns-in_default-2 : goal.returns-in_default-2
unfolding most_of
returns-in_default-2 c = let h : 11 ≤ c.args.code = search rules in rw get_or-eq_default
