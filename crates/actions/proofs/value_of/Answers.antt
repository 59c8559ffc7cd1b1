-- The table is the definition's; no code stands behind it.
use Prim.Native.Nat.{◌≤◌}
use mathlib.Core.Path.{refl}
use lib.ListN.{get_or-eq_default}
use Rattle.meaning.specs.Actions.{value_of}
use Rattle.actions.proofs.value_of.Goals as goal

pub returns-then-i-lt16 : goal.returns-then-i-lt16
unfolding value_of
returns-then-i-lt16 c = refl

pub returns-else-i-lt16 : goal.returns-else-i-lt16
unfolding value_of
returns-else-i-lt16 c = let past : 16 ≤ c.args.code = c.if-i-lt16.false in
    rw get_or-eq_default
