-- The bytes of the number that was read are the digits, and those of its text are their text.
use Prim.Native.Nat.{ℕ}
use mathlib.Core.Path.{ap, ◌∙◌}
use mathlib.Core.List.{List, map}
use native.Mathlib.Omega.{arith}
use Rattle.meaning.specs.Basics.{written_over}
use Rattle.meaning.specs.Records.{digit_text}
use Rattle.blocks.proofs.EndianLaws.{block_back}
use Rattle.text.proofs.write_eight.Goals as goal

pub text_of_eight-requires : goal.text_of_eight-requires
text_of_eight-requires c = let e = block_back c.args.digits.now _ c.requires.0 (λ k. omega (arith, c.type_inv.digits k)) c.eight.ensures in
    rw e c.requires.2

pub returns : goal.returns
returns c = let e = block_back c.args.digits.now _ c.requires.0 (λ k. omega (arith, c.type_inv.digits k)) c.eight.ensures in
    c.put_eight.ensures
    ∙ ap (λ (x : List ℕ). written_over x c.args.out.now) (c.text_of_eight.ensures ∙ ap (map digit_text) e)
