-- The header and the body decide, since what the examiner tests is soundness.
use mathlib.Core.Path.{sym, ◌∙◌}
use Rattle.std.proofs.Common.{arith}
use Rattle.meaning.proofs.Telling.{told}
use Rattle.examiner.proofs.Bridge.{header_fails, body_numbers, body_decides}
use Rattle.examiner.proofs.sound.Goals as goal

pub body_passes-requires : goal.body_passes-requires
body_passes-requires c = body_numbers c.args.memory.now (told c.header_passes.ensures c.if-header_passes.true)

pub returns-then-header_passes : goal.returns-then-header_passes
returns-then-header_passes c =
    c.body_passes.ensures ∙ sym (body_decides c.args.memory.now (told c.header_passes.ensures c.if-header_passes.true) (λ i. omega (arith, c.type_inv.memory i)))

pub returns-else-header_passes : goal.returns-else-header_passes
returns-else-header_passes c =
    c.if-header_passes.false ∙ sym (header_fails c.args.memory.now (λ i. omega (arith, c.type_inv.memory i)) (told c.header_passes.ensures c.if-header_passes.false))
