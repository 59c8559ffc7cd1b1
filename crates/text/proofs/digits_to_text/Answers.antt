-- At i the digits before i are written (`Seam`); each block moves the seam behind itself.
use Prim.Native.Nat.{ℕ, ◌+◌, ◌-◌}
use mathlib.Core.List.{map}
use Rattle.buffer.proofs.Moves.{Seam}
use Rattle.meaning.specs.Records.{digit_text}
use native.Mathlib.Omega.{arith}
use lib.ListN.{length}
use Rattle.text.proofs.DigitTexts.{texts_none, texts_all, block_digits, block_written}
use borrow.Author.Rules.{rules}
use Rattle.text.proofs.digits_to_text.Goals as goal
use Rattle.text.proofs.digits_to_text.Goals.{else-loop-i-test, then-loop-i-test+else-last-i-gt8}

pub loop-i-init : goal.loop-i-init
loop-i-init c = (omega arith, omega arith, omega arith, texts_none c.args.digits.now c.args.out.now c.requires.1)

pub write_eight-requires : goal.write_eight-requires
write_eight-requires c = (search rules, search rules, block_digits c.loop-i.i c.args.digits.now c.requires.0)

pub loop-i-preserved : goal.loop-i-preserved
loop-i-preserved c = let l = c.loop-i in
    let t = c.loop-i-test.true in
    let w = block_written l.i c.args.digits.now l.invariant.3 (omega arith) (omega arith) (omega arith) c.write_eight.ensures in
    (omega arith, l.invariant.1, search rules, w)

pub write_eight-requires-2 : goal.write_eight-requires-2
write_eight-requires-2 c = (search rules, search rules, block_digits (length c.args.digits.now - 8) c.args.digits.now c.requires.0)

-- from the first seam that the last block reaches
pub returns : goal.returns
returns c = let ds = c.args.digits.now in
    let last : ℕ = length ds - 8 in
    let l = c.loop-i in
    elim c.loop-i-test.branch [
      | else-loop-i-test w ↦
          let t = w.loop-i-test.false in
          let g : Seam (map digit_text ds) c.args.out.now l.i c.loop-i-test.out = rw w.out-is l.invariant.3 in
          texts_all ds (block_written last ds g (omega arith) (omega arith) (omega arith) c.write_eight-2.ensures) (omega arith)
      | then-loop-i-test+else-last-i-gt8 w ↦
          let t = w.loop-i-test.true in
          let b = block_written l.i ds l.invariant.3 (omega arith) (omega arith) (omega arith) w.write_eight.ensures in
          let g : Seam (map digit_text ds) c.args.out.now (l.i + 8) c.loop-i-test.out = rw w.out-is b in
          texts_all ds (block_written last ds g (omega arith) (omega arith) (omega arith) c.write_eight-2.ensures) (omega arith)
    ]
