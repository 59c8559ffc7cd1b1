-- As many digits as the byte before them says.
use mathlib.Core.Path.{◌≡◌, sym}
use native.Mathlib.Omega.{arith}
use Prim.Native.Nat.{◌+◌, ◌-◌}
use lib.ListN.{get_or}
use Rattle.meaning.specs.Sizes.{PREFIX-AT, PREFIX-DIGITS-AT}
use Rattle.filter.proofs.FilterLaws.{prefix_is}
use Rattle.filter.proofs.prefix_digits.Goals as goal

pub returns : goal.returns
returns c =
    let e : PREFIX-DIGITS-AT + c.from-digits.result - PREFIX-DIGITS-AT ≡ get_or c.args.code.now PREFIX-AT 0 = omega (arith, c.from-digits.ensures) in
    rw e (sym (prefix_is c.args.code.now c.requires))
