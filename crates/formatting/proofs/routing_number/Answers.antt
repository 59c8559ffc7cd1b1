-- By the lookup's kind.
use mathlib.Core.Path.{sym, ap, ◌∙◌}
use native.Mathlib.Omega.{arith}
use Rattle.meaning.specs.Sizes.{SETTINGS-BYTES, LOOKUP-AT, LOOKUP-BYTES, VALUE-BYTES}
use Rattle.formatting.specs.Sources.{settings_in, lookup_in, digits_if}
use Rattle.formatting.proofs.Values.{rn_entity, rn_default, rn_none}
use Rattle.formatting.proofs.Places.{part_within, kind_in, lies_as, nothing_lies}
use Rattle.formatting.proofs.routing_number.Goals as goal

pub returns-then-kind-eq2 : goal.returns-then-kind-eq2
returns-then-kind-eq2 c = let a = c.args in
    let s = a.source.now in
    let e = ap (digits_if a.ported) (sym (part_within 1 16 LOOKUP-AT LOOKUP-BYTES s (omega arith))) ∙ rn_entity (settings_in s) (lookup_in s) a.ported (kind_in s ∙ c.if-kind-eq2.true) in
    lies_as e c.string_if.ensures

pub returns-then-kind-eq3 : goal.returns-then-kind-eq3
returns-then-kind-eq3 c = let a = c.args in
    let s = a.source.now in
    let e = ap (digits_if a.ported) (sym (part_within 4 16 VALUE-BYTES SETTINGS-BYTES s (omega arith))) ∙ rn_default (settings_in s) (lookup_in s) a.ported (kind_in s ∙ c.if-kind-eq3.true) in
    lies_as e c.string_if-then-kind-eq3.ensures

pub returns : goal.returns
returns c = let a = c.args in
    let s = a.source.now in
    lies_as (rn_none (settings_in s) (lookup_in s) a.ported (λ e. c.if-kind-eq2.false (sym (kind_in s) ∙ e)) (λ e. c.if-kind-eq3.false (sym (kind_in s) ∙ e))) (nothing_lies s)
