-- What was read of the rule and of the slot that it names decides.
use mathlib.Core.Path.{sym}
use borrow.Author.Rules.{rules}
use borrow.Author.Tests.{tests}
use Rattle.std.proofs.Common.{◌≤◌, ◌<◌, length}
use Rattle.examiner.proofs.RuleSlots.{no_set, empty_set, held_set}
use Rattle.examiner.proofs.fits_held.Goals as goal

pub returns-in_default : goal.returns-in_default
returns-in_default c =
    let l : length c.args.sets.now ≤ c.word-n.result = search (rules, tests) in
    sym (no_set _ c.args.sets.now c.args.rule.now c.word-n.ensures.is l)

pub returns-then-set-ne0 : goal.returns-then-set-ne0
returns-then-set-ne0 c =
    let l : c.word-n.result < length c.args.sets.now = search (rules, tests) in
    held_set _ c.args.sets.now c.args.rule.now c.word-n.ensures.is c.in-Some.set.now l (search (rules, tests)) _ _ _ c.if-set-ne0.true c.requires
    c.from-prefix.ensures c.from-len.ensures c.fits_content.ensures

pub returns-else-set-ne0 : goal.returns-else-set-ne0
returns-else-set-ne0 c =
    let l : c.word-n.result < length c.args.sets.now = search (rules, tests) in
    rw c.if-set-ne0.false (sym (empty_set _ c.args.sets.now c.args.rule.now c.word-n.ensures.is c.in-Some.set.now l (search (rules, tests)) c.if-set-ne0.false))
