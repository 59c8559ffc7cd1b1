-- Over the limits an opening is refused as in a memory of 0 bytes; within them the memory of a run has the bytes.
use native.Mathlib.Omega.{arith}
use borrow.Author.Tests.{ltb-false}
use Rattle.meaning.specs.Calls.{operation_of}
use Rattle.run.proofs.RunLaws.{over_sets, over_rules, within_both, opened_over, opened_within}
use Rattle.run.proofs.open.Goals as goal
use Rattle.run.proofs.open.Goals.{then-word-gt-RUN_SETS-via-then-word-gt-RUN_SETS, then-word-gt-RUN_SETS-via-else-word-gt-RUN_SETS+then-word-gt-RUN_RULES}

pub returns-then-word-gt-RUN_SETS : goal.returns-then-word-gt-RUN_SETS
unfolding operation_of
returns-then-word-gt-RUN_SETS c = let b = c.args.body.now in
    opened_over c.args.plan.now b c.requires.0 _ c.opening_refusal.ensures
    (elim c.then-word-gt-RUN_SETS.branch [
      | then-word-gt-RUN_SETS-via-then-word-gt-RUN_SETS w ↦ over_sets b _ c.word.ensures.is w.if-word-gt-RUN_SETS.true
      | then-word-gt-RUN_SETS-via-else-word-gt-RUN_SETS+then-word-gt-RUN_RULES w ↦ over_rules b _ w.word-else-word-gt-RUN_SETS.ensures.is w.if-word-gt-RUN_RULES.true
    ])

pub returns : goal.returns
unfolding operation_of
returns c = let b = c.args.body.now in
    opened_within c.args.plan.now b c.requires.0 _ _ c.requires.1
    (within_both b _ _ c.word.ensures.is c.word-else-word-gt-RUN_SETS.ensures.is (omega arith) (omega (arith, ltb-false)))
    c.open_known.ensures
