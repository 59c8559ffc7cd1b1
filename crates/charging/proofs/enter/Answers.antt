-- LEDGER FULL, or the entry.
use mathlib.Core.Path.{refl, ap, sym, ◌∙◌}
use native.Mathlib.Omega.{arith}
use Rattle.meaning.specs.Ledger.{ledger_of, Entry, entered}
use Rattle.charging.proofs.Ranges.{in_range}
use Rattle.charging.proofs.Charging.{enters_full, enters, entry_is}
use Rattle.charging.proofs.enter.Goals as goal

pub returns-then-is_full : goal.returns-then-is_full
returns-then-is_full c = enters_full _ _ _ (sym c.is_full.ensures ∙ c.if-is_full.true) refl

pub overflow_mul-billed : goal.overflow_mul-billed
overflow_mul-billed c = record { fits = omega (arith, c.quad-billed.ensures.small) }

pub enter-requires : goal.enter-requires
enter-requires c = let r = in_range c.args.body.now c.requires.2 in
    record {
      in_range = c.requires.0;
      room = sym c.is_full.ensures ∙ c.if-is_full.false;
      district = omega (arith, c.word-district.ensures.is, r.district);
      due = c.requires.3;
      billed = omega (arith, c.quad-billed.ensures.is, r.billed);
    }

pub returns : goal.returns
returns c = enters _ _ _ (sym c.is_full.ensures ∙ c.if-is_full.false)
    (c.enter.ensures ∙ ap (λ (e : Entry). entered e (ledger_of c.args.districts.now c.args.whole)) (entry_is c.args.body.now _ c.word-district.ensures.is c.quad-billed.ensures.is))
