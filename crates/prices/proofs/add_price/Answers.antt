-- Cut short, over a list out of range, or as over one that is known to be in range.
use lib.Seq.{length-take-le}
use Rattle.meaning.specs.Sizes.{PRICE-BODY}
use Rattle.meaning.proofs.Telling.{told}
use Rattle.prices.proofs.Adding.{cut_short, list_out, same_body}
use Rattle.prices.proofs.add_price.Goals as goal

pub returns-then-body-lt-PRICE_BODY : goal.returns-then-body-lt-PRICE_BODY
returns-then-body-lt-PRICE_BODY c = let a = c.args in cut_short a.prices.now a.body.now c.if-body-lt-PRICE_BODY.true

pub returns-then-not-in_range : goal.returns-then-not-in_range
returns-then-not-in_range c = let a = c.args in
    list_out a.prices.now a.body.now c.if-body-lt-PRICE_BODY.false (told c.in_range.ensures c.if-not-in_range.true)

pub add_known-requires : goal.add_known-requires
add_known-requires c = (told c.in_range.ensures c.if-not-in_range.false, length-take-le PRICE-BODY c.args.body.now c.if-body-lt-PRICE_BODY.false)

pub returns : goal.returns
returns c = same_body c.if-body-lt-PRICE_BODY.false c.add_known.ensures
