-- Each way gives the answer that document 01 has for it.
use mathlib.Core.Path.{refl, sym, ◌∙◌}
use native.Mathlib.Omega.{arith}
use lib.ListN.{get_or}
use Rattle.formatting.proofs.Places.{digits_long}
use Rattle.formatting.proofs.Tables.{marked_outgoing}
use Rattle.formatting.specs.Sources.{lookup_in, digits_in}
use Rattle.number.proofs.Answering.{holds_unserved, holds_refused, holds_digits, given_escaped, given_short, holds_served, serviceable}
use Rattle.number.proofs.answer_by.Goals as goal

pub returns-then-no_conditioning : goal.returns-then-no_conditioning
returns-then-no_conditioning c = let a = c.args in
    holds_unserved _ _ _ _ _ (given_escaped a.settings.now (lookup_in a.body.now) (get_or a.body.now 0 0) (digits_in a.n a.body.now) a.prefix a.content.now _ c.cas_of-cas.ensures _ c.outgoing_class-sent.ensures (sym c.no_conditioning.ensures ∙ c.if-no_conditioning.true)) c.unserved.ensures

pub returns-then-mark_spans : goal.returns-then-mark_spans
returns-then-mark_spans c = let a = c.args in
    let short = sym c.mark_spans.ensures.short_is ∙ c.if-mark_spans.true in
    holds_refused _ _ _ _ (given_short a.settings.now (lookup_in a.body.now) (get_or a.body.now 0 0) (digits_in a.n a.body.now) a.prefix a.content.now _ c.cas_of-cas.ensures _ c.outgoing_class-sent.ensures (sym c.no_conditioning.ensures ∙ c.if-no_conditioning.false) (rw (digits_long a.body.now a.n (omega (arith, c.requires.body_long, c.requires.few))) short)) c.refuse.ensures

pub service_stage-s-requires : goal.service_stage-s-requires
service_stage-s-requires c = serviceable c.args.settings.now c.args.body.now c.args.n c.args.content.now c.args.out.now c.requires _ _ c.sas_of.ensures refl

pub returns : goal.returns
returns c = let a = c.args in
    let e = c.if-mark_spans.false in
    let made = c.mark_spans.ensures in
    let enough = sym made.short_is ∙ e in
    let digits = marked_outgoing a.settings.now a.body.now _ c.requires.body_long c.requires.few (made.marked e) c.service_stage-s.result c.fas_of-fas.result.now in
    holds_served a.settings.now (lookup_in a.body.now) (get_or a.body.now 0 0) (digits_in a.n a.body.now) a.prefix a.content.now _ c.cas_of-cas.ensures _ c.outgoing_class-sent.ensures (sym c.no_conditioning.ensures ∙ c.if-no_conditioning.false) (rw (digits_long a.body.now a.n (omega (arith, c.requires.body_long, c.requires.few))) enough)
    _ _ c.sas_of.ensures c.fas_of-fas.ensures _ c.service_stage-s.ensures _ _ (holds_digits _ _ _ _ _ digits c.finish.ensures)
