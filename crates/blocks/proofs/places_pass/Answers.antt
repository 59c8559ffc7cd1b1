-- The places before i have passed (`PassedTo`); the last block may begin before i. What a window tells of its places is `window_pass`.
use Prim.Native.Nat.{◌+◌, ◌-◌, ◌*◌}
use mathlib.Core.Path.{◌≡◌, sym}
use native.Mathlib.Omega.{arith}
use lib.ListN.{length}
use borrow.Author.Rules.{rules}
use Rattle.blocks.proofs.EndianLaws.{Bytes}
use Rattle.blocks.proofs.PlaceLaws.{block_fails, block_passes, block_last}
use Rattle.blocks.proofs.MaskLaws.{window_pass}
use Rattle.blocks.proofs.places_pass.Goals as goal

pub returns-then-not-eight_pass : goal.returns-then-not-eight_pass
returns-then-not-eight_pass c = let a = c.args in
    let i = 8 * c.loop-k.k in
    let bytes : Bytes a.s.now = λ k. search rules in
    let e = window_pass a.n i a.s.now c.masks.result.now _ c.masks.ensures.table (omega arith) (omega arith) (omega arith) bytes (rw c.masks.ensures.len at c.eight_pass.ensures) in
    sym (block_fails a.n a.s.now i _ e c.if-not-eight_pass.true)

pub loop-k-preserved : goal.loop-k-preserved
loop-k-preserved c = let a = c.args in
    let i = 8 * c.loop-k.k in
    let bytes : Bytes a.s.now = λ k. search rules in
    let e = window_pass a.n i a.s.now c.masks.result.now _ c.masks.ensures.table (omega arith) (omega arith) (omega arith) bytes (rw c.masks.ensures.len at c.eight_pass.ensures) in
    let next : 8 * (c.loop-k.k + 1) ≡ i + 8 = omega arith in
    rw next (block_passes a.n a.s.now i _ e c.if-not-eight_pass.false c.loop-k.invariant)

pub returns : goal.returns
returns c = let a = c.args in
    let bytes : Bytes a.s.now = λ k. search rules in
    let last = length a.s.now - 8 in
    let e = window_pass a.n last a.s.now c.masks.result.now _ c.masks.ensures.table (omega arith) (omega arith) (omega arith) bytes (rw c.masks.ensures.len at c.eight_pass-2.ensures) in
    block_last a.n a.s.now last _ e (8 * c.loop-k.k) (omega arith) (omega arith) c.loop-k.invariant
