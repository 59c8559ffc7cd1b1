-- The slots are those of the parts that were lent, by the numbers that the header says.
use mathlib.Core.Path.{◌≡◌, ◌∙◌}
use Prim.Native.Nat.{◌+◌, ◌*◌}
use Rattle.std.proofs.Common.{arith, rules}
use Rattle.meaning.specs.Sizes.{SETS-AT, SET-WIDTH, RULE-WIDTH}
use Rattle.meaning.specs.Settings.{rooms_of}
use Rattle.plan.specs.Layout.{set_room, rule_room, rule_count}
use Rattle.examiner.proofs.Bytes.{part_slots, part_rest}
use Rattle.examiner.proofs.body_passes.Goals as goal

pub returns : goal.returns
unfolding rooms_of
returns c =
    let m = c.args.memory.now in
    let s : c.word.result ≡ set_room m = c.word.ensures.is in
    let n : c.word-2.result ≡ rule_count m = c.word-2.ensures.is in
    let r : c.word-3.result ≡ rule_room m = c.word-3.ensures.is in
    let at = SETS-AT + SET-WIDTH * set_room m in
    let sets = part_slots SET-WIDTH (set_room m) SETS-AT (SET-WIDTH * set_room m) m (search rules) (omega arith) (omega (arith, c.requires.size)) in
    let held = part_slots RULE-WIDTH (rule_count m) at (RULE-WIDTH * rule_room m) m (search rules) (omega (arith, c.requires.held)) (omega (arith, c.requires.size, c.requires.held)) in
    let free = part_rest (RULE-WIDTH * rule_count m) at (RULE-WIDTH * rule_room m) m (omega (arith, c.requires.held)) in
    c.areas_pass.ensures ∙ rw (c.as_chunks.ensures.front, c.as_chunks-2.ensures.front, s, n, r, sets, held, free)
