-- The price of the digits, or none.
use native.Mathlib.Omega.{arith}
use Rattle.charging.proofs.Dues.{product_small, price_small, due_priced, due_none}
use Rattle.charging.proofs.due_on.Goals as goal

pub overflow_mul-result : goal.overflow_mul-result
overflow_mul-result c = let small = product_small c.args.seconds _ c.requires (price_small c.price_for.ensures _ c.in_ok-price.was) in
    record { fits = omega (arith, small) }

pub returns-in_err-price : goal.returns-in_err-price
returns-in_err-price c = rw c.from_residual.ensures (due_none c.price_for.ensures c.args.seconds c.in_err-price.was)

pub returns : goal.returns
returns c = due_priced c.price_for.ensures c.args.seconds _ c.in_ok-price.was c.requires
