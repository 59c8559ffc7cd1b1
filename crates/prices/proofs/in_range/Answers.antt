-- Each answer is the test that failed, or the last one, since what is tested of a list is its range.
use mathlib.Core.Path.{◌≡◌, ◌∙◌}
use Prim.Native.Nat.{◌*◌, ◌+◌, ◌≤◌}
use native.Mathlib.Omega.{arith}
use borrow.Author.Tests.{ne_eqb, lt-leb}
use Rattle.meaning.specs.Sizes.{PRICE-ROOM, ROWS-AT, RULE-WIDTH}
use Rattle.meaning.specs.Basics.{word}
use Rattle.buffer.proofs.ListLaws.{rest_is}
use Rattle.blocks.proofs.EndianLaws.{Bytes}
use Rattle.prices.proofs.Bridge.{out_of_range, rows_decide, rows_cut}
use Rattle.prices.proofs.in_range.Goals as goal

pub returns-then-prices-ne-PRICES_BYTES : goal.returns-then-prices-ne-PRICES_BYTES
returns-then-prices-ne-PRICES_BYTES c = out_of_range c.args.prices.now (λ i. omega (arith, c.type_inv.prices i)) 0 (ne_eqb _ _ c.if-prices-ne-PRICES_BYTES.true)

pub returns-then-count-gt-PRICE_ROOM : goal.returns-then-count-gt-PRICE_ROOM
returns-then-count-gt-PRICE_ROOM c = let m = c.args.prices.now in
    out_of_range m (λ i. omega (arith, c.type_inv.prices i)) 1 (lt-leb (word m 0) PRICE-ROOM (omega (arith, c.if-count-gt-PRICE_ROOM.true, c.word-count.ensures.is)))

pub returns : goal.returns
returns c = let m = c.args.prices.now in
    let bytes : Bytes m = λ i. omega (arith, c.type_inv.prices i) in
    let n : c.word-count.result ≡ word m 0 = c.word-count.ensures.is in
    let size = c.if-prices-ne-PRICES_BYTES.false in
    let few : word m 0 ≤ PRICE-ROOM = omega (arith, c.if-count-gt-PRICE_ROOM.false, n) in
    rows_decide m bytes size few
    (c.rows_pass.ensures ∙ rw (c.as_chunks.ensures.front, n, rows_cut m bytes size few, rest_is (ROWS-AT + RULE-WIDTH * word m 0) m))
