-- One block, or two of them one behind the other.
use Prim.Native.Nat.{◌+◌, ◌-◌, ◌≤◌}
use native.Mathlib.Omega.{arith}
use lib.ListN.{length, take, drop}
use Rattle.blocks.proofs.OverLaws.{written_behind}
use Rattle.formatting.proofs.Places.{one_block, first_long, second_long, two_blocks}
use Rattle.formatting.proofs.put_value.Goals as goal

pub returns-then-value-gt16 : goal.returns-then-value-gt16
returns-then-value-gt16 c = let source = c.args.source.now in
    let start = c.args.value.start in
    let count = c.args.value.count in
    let out = c.args.out.now in
    let k = length source - start in
    let j = length source - (start + 16) in
    let h : 16 ≤ k = omega (arith, c.requires.0.long, c.requires.0.low) in
    let i : 16 ≤ j = omega (arith, c.requires.0.long, c.requires.0.low) in
    let room : start + 32 ≤ length source = omega (arith, c.requires.0.long, c.requires.0.low) in
    let long = second_long source out start count k h j i room in
    two_blocks source out start count k h j i room c.requires.0.few
    (written_behind (take 16 (take k (drop start source))) (take 16 (take j (drop (start + 16) source))) out 16 c.copy_sixteen.ensures (first_long source out start count k h j i room) (omega (arith, long, c.requires.1)) _
    c.copy_sixteen-then-value-gt16.ensures)

pub returns-else-value-gt16 : goal.returns-else-value-gt16
returns-else-value-gt16 c = let source = c.args.source.now in
    let start = c.args.value.start in
    rw c.copy_sixteen.ensures
    (one_block source c.args.out.now start c.args.value.count (length source - start) (omega (arith, c.requires.0.long, c.requires.0.low)) (omega (arith, c.requires.0.long, c.requires.0.low)) c.if-value-gt16.false)
