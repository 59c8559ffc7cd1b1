-- The last digit stands behind the others, which the number without it has.
use Prim.Native.Nat.{◌+◌, ◌%◌}
use mathlib.Core.Path.{sym}
use mathlib.Core.List.{[], ◌∷◌}
use native.Mathlib.Omega.{arith}
use Rattle.text.proofs.Lines.{decimal_one, decimal_more, decimal_some, decimal_longer, stored, named, kept_long, byte_behind}
use Rattle.text.proofs.+write_decimal.Goals as goal

pub bounds-out-0 : goal.bounds-out-0
bounds-out-0 t c = omega (arith, decimal_some c.args.n)

pub returns-then-n-lt10 : goal.returns-then-n-lt10
returns-then-n-lt10 t c =
    let a = c.args in named (sym (decimal_one a.n c.if-n-lt10.true)) (stored ((48 + a.n) ∷ []) a.out.now (omega (arith, decimal_some a.n)))

pub write_decimal-end-requires : goal.write_decimal-end-requires
write_decimal-end-requires t c = (omega arith, omega (arith, decimal_longer c.args.n c.if-n-lt10.false))

pub bounds-out-end : goal.bounds-out-end
bounds-out-end t c =
    let w = c.write_decimal-end.ensures in omega (arith, w.count_is, kept_long w, decimal_longer c.args.n c.if-n-lt10.false)

pub returns : goal.returns
returns t c =
    let w = c.write_decimal-end.ensures in
    let n = c.args.n in
    let h = c.if-n-lt10.false in
    named (sym (decimal_more n h)) (byte_behind w (48 + n % 10) (omega (arith, w.count_is, decimal_longer n h)))
