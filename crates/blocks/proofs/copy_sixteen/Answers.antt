-- Two blocks, the second behind the first; both are read before one is written.
use Prim.Native.Nat.{ℕ, ◌-◌, ◌≤◌}
use mathlib.Core.Path.{◌≡◌, sym, ap, ◌∙◌}
use mathlib.Core.List.{List}
use native.Mathlib.Omega.{arith}
use borrow.Author.Rules.{rules}
use lib.ListN.{length, take, drop, length-take, length-drop}
use lib.Seq.{length-take-le}
use Rattle.meaning.specs.Basics.{written_over}
use Rattle.blocks.proofs.EndianLaws.{Bytes, bytes_front, bytes_behind, block_back}
use Rattle.blocks.proofs.OverLaws.{written_behind, two_parts}
use Rattle.blocks.proofs.copy_sixteen.Goals as goal

pub returns : goal.returns
returns c = let from = c.args.from.now in
    let rest = take (length from - 8) (drop 8 from) in
    let bytes : Bytes from = λ k. search rules in
    let xs = take 8 from in
    let ys = take 8 rest in
    let long : 8 ≤ length rest = simp (length-take, length-drop) (omega (arith, c.requires.1)) in
    let l : length xs ≡ 8 = length-take-le 8 from (omega (arith, c.requires.1)) in
    let k : length ys ≡ 8 = length-take-le 8 rest long in
    let low = block_back from _ (omega (arith, c.requires.1)) bytes c.eight-low.ensures in
    let high = block_back rest _ long (bytes_front (length from - 8) (drop 8 from) (bytes_behind 8 from bytes)) c.eight-high.ensures in
    let first = c.put_eight.ensures ∙ ap (λ (x : List ℕ). written_over x c.args.to.now) low in
    let second = rw high at c.put_eight-2.ensures in
    written_behind xs ys c.args.to.now 8 first (sym l) (omega (arith, c.requires.0)) _ second
    ∙ ap (λ (x : List ℕ). written_over x c.args.to.now) (two_parts 8 (length from - 8) from (omega (arith, c.requires.1)))
