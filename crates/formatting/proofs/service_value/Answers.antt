-- Each arm is an entry of the definition's table, and the last is past it.
use Prim.Native.Nat.{◌<◌}
use mathlib.Core.Path.{sym, ap}
use native.Mathlib.Omega.{arith}
use Rattle.meaning.specs.Sizes.{SETTINGS-BYTES, LOOKUP-AT, LOOKUP-BYTES, VALUE-BYTES}
use Rattle.meaning.specs.Actions.{DELIMITER-B}
use Rattle.meaning.specs.Basics.{digits_of}
use Rattle.meaning.specs.Settings.{settings_of, lookup_of}
use Rattle.meaning.specs.Services.{value_to_send}
use Rattle.services.specs.Stages.{stage_of}
use Rattle.formatting.specs.Sources.{digits_if}
use Rattle.formatting.proofs.Tables.{no_value}
use Rattle.formatting.proofs.Places.{part_within, lies_as, nothing_lies}
use Rattle.formatting.proofs.service_value.Goals as goal

pub returns-in-11 : goal.returns-in-11
unfolding value_to_send stage_of
returns-in-11 c = rw c.in-11.is c.routing_number.ensures

pub returns-in-12 : goal.returns-in-12
unfolding value_to_send stage_of
returns-in-12 c = rw c.in-12.is c.service_provider.ensures

pub returns-in-13 : goal.returns-in-13
unfolding value_to_send stage_of lookup_of
returns-in-13 c = let a = c.args in
    rw c.in-13.is (lies_as (ap (digits_if a.served.effect.asd) (sym (part_within 17 11 LOOKUP-AT LOOKUP-BYTES a.source.now (omega arith)))) c.string_if.ensures)

pub returns-in-14 : goal.returns-in-14
unfolding value_to_send stage_of lookup_of
returns-in-14 c = let a = c.args in
    rw c.in-14.is (lies_as (ap (digits_if a.served.effect.grn) (sym (part_within 28 11 LOOKUP-AT LOOKUP-BYTES a.source.now (omega arith)))) c.string_if-in-14.ensures)

pub returns-in-15 : goal.returns-in-15
unfolding value_to_send stage_of settings_of
returns-in-15 c = let a = c.args in
    rw c.in-15.is (lies_as (ap digits_of (sym (part_within 20 6 VALUE-BYTES SETTINGS-BYTES a.source.now (omega arith)))) c.string_at.ensures)

pub returns-in-16 : goal.returns-in-16
unfolding value_to_send stage_of settings_of
returns-in-16 c = let a = c.args in
    rw c.in-16.is (lies_as (ap digits_of (sym (part_within 26 6 VALUE-BYTES SETTINGS-BYTES a.source.now (omega arith)))) c.string_at-in-16.ensures)

pub returns-in_default : goal.returns-in_default
returns-in_default c = let a = c.args in
    let r = c.in_default.in_default-own.rest in
    let h : DELIMITER-B < a.f = omega (arith, c.requires.1, r.0.0.0.0.0.1, r.0.0.0.0.1, r.0.0.0.1, r.0.0.1, r.0.1, r.1) in
    lies_as (no_value _ _ a.served _ a.f h) (nothing_lies a.source.now)
