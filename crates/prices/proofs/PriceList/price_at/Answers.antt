-- The price stands at its place in the row's slot.
use native.Mathlib.Omega.{arith}
use mathlib.Core.Path.{◌∙◌}
use Rattle.prices.proofs.ImageLaws.{in_range_is}
use Rattle.prices.proofs.Chosen.{row_price}
use Rattle.prices.proofs.PriceList.price_at.Goals as goal

pub quad-requires : goal.quad-requires
quad-requires c = let r = in_range_is c.args.self.memory.now c.args.self.in_range in
    omega (arith, c.requires, c.from-k.ensures, r.size, r.passes.few)

pub returns : goal.returns
returns c = let m = c.args.self.memory.now in
    row_price m (in_range_is m c.args.self.in_range) c.args.place.0 c.requires _ (c.quad.ensures.is ∙ rw c.from-k.ensures)
