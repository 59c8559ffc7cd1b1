-- Each code is asked for the action that it needs, in the part that its function gives.
use Prim.Native.Nat.{◌≤◌, ◌<◌}
use mathlib.Core.Path.{◌≡◌, sym, ◌∙◌}
use native.Mathlib.Omega.{arith}
use Rattle.meaning.specs.Basics.{contains}
use Rattle.meaning.specs.Actions.{SP, GRN, CDPNNP, ASDLKUP, GRNLKUP, actions_of}
use Rattle.meaning.specs.Groups.{is_set}
use Rattle.groups.proofs.Backed.{value_backed, sp_backed, asd_backed, grn_backed, delimiter_backed}
use Rattle.groups.proofs.is_backed.Goals as goal

pub returns-then-f-le-LAST_CONDITIONED : goal.returns-then-f-le-LAST_CONDITIONED
unfolding actions_of
returns-then-f-le-LAST_CONDITIONED c = let args = c.args in
    let set = actions_of args.content.now in
    let asked : c.is_set.result ≡ is_set args.f set.cas = rw c.cas_of.ensures at c.is_set.ensures in
    asked ∙ sym (value_backed set args.f c.if-f-le-LAST_CONDITIONED.true)

pub returns-then-f-le-SP : goal.returns-then-f-le-SP
unfolding actions_of
returns-then-f-le-SP c = let args = c.args in
    let set = actions_of args.content.now in
    let asked : c.contains.result ≡ contains CDPNNP set.sas = rw c.sas_of.ensures at c.contains.ensures in
    let up-to-sp : args.f ≤ SP = omega arith in
    asked ∙ sym (sp_backed set args.f c.if-f-le-LAST_CONDITIONED.false up-to-sp)

pub returns-then-f-eq-ASD : goal.returns-then-f-eq-ASD
unfolding actions_of
returns-then-f-eq-ASD c = let args = c.args in
    let set = actions_of args.content.now in
    let asked : c.contains-then-f-eq-ASD.result ≡ contains ASDLKUP set.sas = rw c.sas_of-then-f-eq-ASD.ensures at c.contains-then-f-eq-ASD.ensures in
    asked ∙ sym (asd_backed set args.f c.if-f-eq-ASD.true)

pub returns-then-f-eq-GRN : goal.returns-then-f-eq-GRN
unfolding actions_of
returns-then-f-eq-GRN c = let args = c.args in
    let set = actions_of args.content.now in
    let asked : c.contains-then-f-eq-GRN.result ≡ contains GRNLKUP set.sas = rw c.sas_of-then-f-eq-GRN.ensures at c.contains-then-f-eq-GRN.ensures in
    asked ∙ sym (grn_backed set args.f c.if-f-eq-GRN.true)

pub returns : goal.returns
returns c = let args = c.args in
    let delimiter : GRN < args.f = omega arith in
    sym (delimiter_backed (actions_of args.content.now) args.f delimiter)
