-- The rule chosen among the slots is the row whose price is given.
use mathlib.Core.Path.{◌≡◌, ap}
use native.Mathlib.Omega.{arith}
use borrow.Author.Rules.{rules}
use Rattle.std.specs.Prelude.{None}
use Rattle.meaning.specs.Answers.{place_chosen}
use Rattle.prices.proofs.ImageLaws.{in_range_is}
use Rattle.prices.proofs.Chosen.{lent_area, lent_order, lent_classes, chosen_inside, priced, unpriced}
use Rattle.prices.proofs.PriceList.price_for.Goals as goal

pub word-count-requires : goal.word-count-requires
word-count-requires c = let r = in_range_is c.args.self.memory.now c.args.self.in_range in
    omega (arith, r.size)

pub slice_bounds-choose_among-count : goal.slice_bounds-choose_among-count
slice_bounds-choose_among-count c = let r = in_range_is c.args.self.memory.now c.args.self.in_range in
    omega (arith, r.size)

pub slice_bounds-choose_among-start : goal.slice_bounds-choose_among-start
slice_bounds-choose_among-start c = let r = in_range_is c.args.self.memory.now c.args.self.in_range in
    omega (arith, r.size)

pub choose_among-requires : goal.choose_among-requires
choose_among-requires c = let m = c.args.self.memory.now in
    let r = in_range_is m c.args.self.in_range in
    record {
      rule_area = lent_area m r _ c.word-count.ensures.is;
      rules_rise = lent_order m r _ c.word-count.ensures.is;
      narrowed = lent_classes m r _ c.word-count.ensures.is;
    }

pub price_at-requires : goal.price_at-requires
price_at-requires c = let m = c.args.self.memory.now in
    chosen_inside m (in_range_is m c.args.self.in_range) _ c.word-count.ensures.is c.args.digits.now _ c.choose_among.ensures _ (ap place_chosen c.in_ok-place.was)

pub returns-in_err-place : goal.returns-in_err-place
returns-in_err-place c = let m = c.args.self.memory.now in
    let e : c.from_residual.result ≡ None = search rules in
    rw e (unpriced m (in_range_is m c.args.self.in_range) _ c.word-count.ensures.is c.args.digits.now _ c.choose_among.ensures (ap place_chosen c.in_err-place.was))

pub returns : goal.returns
returns c = let m = c.args.self.memory.now in
    priced m (in_range_is m c.args.self.in_range) _ c.word-count.ensures.is c.args.digits.now _ c.choose_among.ensures _ _ (ap place_chosen c.in_ok-place.was) c.price_at.ensures
