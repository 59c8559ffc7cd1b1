-- Each answer is the read that its check stands for; the number has at most 35 digits, so that the buffer is enough.
use native.Mathlib.Omega.{arith}
use Rattle.meaning.proofs.Telling.{told}
use Rattle.reads.proofs.NumberReads.{number_unconditioned, number_short, number_conditionable, number_few, number_given}
use Rattle.reads.proofs.conditioned_at.Goals as goal

pub returns-then-no_conditioning : goal.returns-then-no_conditioning
returns-then-no_conditioning c = number_unconditioned c.args.rule.plan.memory.now c.args.rule.place.0 c.args.digits.now c.args.out.now _ _ c.content.ensures c.cas_of-cas.ensures
    (told c.no_conditioning.ensures c.if-no_conditioning.true)

pub returns-then-is_short : goal.returns-then-is_short
returns-then-is_short c = number_short c.args.rule.plan.memory.now c.args.rule.place.0 c.args.digits.now c.args.out.now _ _ c.content.ensures c.cas_of-cas.ensures
    _ (told c.no_conditioning.ensures c.if-no_conditioning.false) c.prefix-prefix.ensures (told c.is_short.ensures c.if-is_short.true)

pub write_conditioned-requires : goal.write_conditioned-requires
write_conditioned-requires c = let m = c.args.rule.plan.memory.now in
    let sound = c.args.rule.plan.sound in
    let few = number_few m c.args.rule.place.0 c.args.digits.now c.args.out.now _ _ c.content.ensures c.cas_of-cas.ensures
    _ (told c.no_conditioning.ensures c.if-no_conditioning.false) c.prefix-prefix.ensures _ c.settings-settings.ensures (told c.is_short.ensures c.if-is_short.false) sound c.requires.applies in (
      number_conditionable m c.args.rule.place.0 c.args.digits.now c.args.out.now _ _ c.content.ensures c.cas_of-cas.ensures
          _ (told c.no_conditioning.ensures c.if-no_conditioning.false) c.prefix-prefix.ensures _ c.settings-settings.ensures (told c.is_short.ensures c.if-is_short.false) sound,
      omega (arith, few, c.requires.in_bounds),
    )

pub returns : goal.returns
returns c = number_given c.args.rule.plan.memory.now c.args.rule.place.0 c.args.digits.now c.args.out.now _ _ c.content.ensures c.cas_of-cas.ensures
    _ (told c.no_conditioning.ensures c.if-no_conditioning.false) c.prefix-prefix.ensures _ c.settings-settings.ensures (told c.is_short.ensures c.if-is_short.false) _ _ c.write_conditioned.ensures
