-- By the lookup's kind.
use mathlib.Core.Path.{sym, ap, ◌∙◌}
use native.Mathlib.Omega.{arith}
use Rattle.meaning.specs.Sizes.{LOOKUP-AT, LOOKUP-BYTES}
use Rattle.formatting.specs.Sources.{lookup_in, digits_if}
use Rattle.formatting.proofs.Values.{sp_entity, sp_none}
use Rattle.formatting.proofs.Places.{part_within, kind_in, lies_as, nothing_lies}
use Rattle.formatting.proofs.service_provider.Goals as goal

pub returns-then-source-eq3 : goal.returns-then-source-eq3
returns-then-source-eq3 c = let a = c.args in
    let s = a.source.now in
    let e = ap (digits_if a.ported) (sym (part_within 1 16 LOOKUP-AT LOOKUP-BYTES s (omega arith))) ∙ sp_entity (lookup_in s) a.ported (kind_in s ∙ c.if-source-eq3.true) in
    lies_as e c.string_if.ensures

pub returns : goal.returns
returns c = let a = c.args in
    let s = a.source.now in
    lies_as (sp_none (lookup_in s) a.ported (λ e. c.if-source-eq3.false (sym (kind_in s) ∙ e))) (nothing_lies s)
