-- Too small a buffer, or all entries.
use Rattle.compare.proofs.Compared.{no_room, all_fit, all_written}
use Rattle.compare.proofs.compare_known.Goals as goal

pub returns-then-out-n : goal.returns-then-out-n
returns-then-out-n c = no_room c.args.left.memory.now c.args.right.memory.now c.args.out.now c.args.left.sound c.args.right.sound _ c.count_differences-n.ensures c.if-out-n.true

pub write_differences-requires : goal.write_differences-requires
write_differences-requires c = all_fit c.args.left.memory.now c.args.right.memory.now c.args.out.now c.args.left.sound c.args.right.sound _ c.count_differences-n.ensures c.if-out-n.false

pub returns : goal.returns
returns c = all_written c.args.left.memory.now c.args.right.memory.now c.args.out.now c.args.left.sound c.args.right.sound _ c.count_differences-n.ensures c.if-out-n.false _ c.write_differences.ensures
