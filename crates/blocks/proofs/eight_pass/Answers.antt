-- Eight bytes and their masks are disjoint exactly if their numbers are.
use Rattle.std.proofs.Common.{rules}
use Rattle.blocks.proofs.MaskLaws.{block_bits}
use Rattle.blocks.proofs.eight_pass.Goals as goal

pub returns : goal.returns
returns c = let a = c.args in
    block_bits a.s.now a.masks.now _ _ c.requires.0 c.requires.1 (λ k. search rules) (λ k. search rules) c.eight.ensures c.eight-2.ensures
