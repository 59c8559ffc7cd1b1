-- The bytes behind the header are cleared, and the header is written.
use Prim.Native.Nat.{ℕ, ◌+◌, ◌*◌}
use native.Mathlib.Omega.{arith}
use Rattle.meaning.specs.Sizes.{SETS-AT, SET-WIDTH, RULE-WIDTH}
use Rattle.meaning.specs.Settings.{rooms_of, bytes_needed}
use Rattle.plan.proofs.EditLaws.{started}
use Rattle.plan.proofs.start.Goals as goal

pub slice_bounds-clear-end : goal.slice_bounds-clear-end
unfolding rooms_of bytes_needed
slice_bounds-clear-end c = omega (arith, c.requires)

pub slice_bounds-write_header-end : goal.slice_bounds-write_header-end
unfolding rooms_of bytes_needed
slice_bounds-write_header-end c = omega (arith, c.requires, c.clear.auto)

pub returns : goal.returns
unfolding rooms_of bytes_needed
returns c = let size : ℕ = SETS-AT + SET-WIDTH * c.word.result + RULE-WIDTH * c.word-2.result in
    let sets-is = c.word.ensures.is in
    let rules-is = c.word-2.ensures.is in
    started c.args.rooms.now c.args.settings.now c.args.memory.now c.clear.new.s c.write_header.new.header size
    (omega arith) (omega (arith, c.requires)) c.clear.ensures c.write_header.ensures
