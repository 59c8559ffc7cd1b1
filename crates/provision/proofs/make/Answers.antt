-- Each edit makes its own change.
use Prim.Native.Nat.{ℕ}
use mathlib.Core.Path.{◌≡◌, ap, ◌∙◌}
use Rattle.meaning.specs.Calls.{body_length}
use Rattle.meaning.specs.Answers.{number_of_edit}
use Rattle.meaning.specs.declared.kinds.Edit.{Edit}
use Rattle.plan.specs.Layout.{plan_of}
use Rattle.provision.proofs.Accepted.{added_room, replaced_room, removed_room, added_rule, changed_rule_lem, removed_rule_lem, slot_left, rules_left}
use Rattle.provision.proofs.make.Goals as goal

whole : {e x : Edit} {n : ℕ} → n ≡ body_length (number_of_edit e) → e ≡ x → n ≡ body_length (number_of_edit x)
whole h q = h ∙ ap (λ (e : Edit). body_length (number_of_edit e)) q

pub store_given-requires : goal.store_given-requires
unfolding body_length
store_given-requires c = let e = rw c.in-AddSet.is at c.requires.accepted in
    (c.requires.known.sound, whole c.requires.known.whole c.in-AddSet.is, added_room (plan_of c.args.plan.now) c.args.body.now e)

pub store_given-requires-in-ReplaceSet : goal.store_given-requires-in-ReplaceSet
unfolding body_length
store_given-requires-in-ReplaceSet c = let e = rw c.in-ReplaceSet.is at c.requires.accepted in
    (c.requires.known.sound, whole c.requires.known.whole c.in-ReplaceSet.is, replaced_room (plan_of c.args.plan.now) c.args.body.now e)

pub clear_given-requires : goal.clear_given-requires
unfolding body_length
clear_given-requires c = let e = rw c.in-RemoveSet.is at c.requires.accepted in
    (c.requires.known.sound, whole c.requires.known.whole c.in-RemoveSet.is, removed_room (plan_of c.args.plan.now) c.args.body.now e)

pub insert_given-requires : goal.insert_given-requires
unfolding body_length
insert_given-requires c = let e = rw c.in-AddRule.is at c.requires.accepted in
    let r = added_rule c.args.plan.now c.args.body.now c.requires.known.sound (whole c.requires.known.whole c.in-AddRule.is) e in
    (c.requires.known.sound, r.0, r.1, r.2, r.3)

pub rename_given-requires : goal.rename_given-requires
unfolding body_length
rename_given-requires c = let e = rw c.in-ChangeRule.is at c.requires.accepted in
    let r = changed_rule_lem c.args.plan.now c.args.body.now c.requires.known.sound (whole c.requires.known.whole c.in-ChangeRule.is) e in
    (c.requires.known.sound, r.0, r.1, r.2)

pub remove_given-requires : goal.remove_given-requires
unfolding body_length
remove_given-requires c = let e = rw c.in-RemoveRule.is at c.requires.accepted in
    let r = removed_rule_lem c.args.plan.now c.args.body.now c.requires.known.sound (whole c.requires.known.whole c.in-RemoveRule.is) e in
    (c.requires.known.sound, r.0, r.1)

pub returns-in-AddSet : goal.returns-in-AddSet
returns-in-AddSet c = let m = c.args.plan.now in
    rw c.in-AddSet.is (slot_left m _ _ c.store_given.ensures)

pub returns-in-ReplaceSet : goal.returns-in-ReplaceSet
returns-in-ReplaceSet c = let m = c.args.plan.now in
    rw c.in-ReplaceSet.is (slot_left m _ _ c.store_given-in-ReplaceSet.ensures)

pub returns-in-RemoveSet : goal.returns-in-RemoveSet
returns-in-RemoveSet c = let m = c.args.plan.now in
    rw c.in-RemoveSet.is (slot_left m _ _ c.clear_given.ensures)

pub returns-in-AddRule : goal.returns-in-AddRule
returns-in-AddRule c = let m = c.args.plan.now in
    rw c.in-AddRule.is (rules_left m _ c.insert_given.ensures)

pub returns-in-ChangeRule : goal.returns-in-ChangeRule
returns-in-ChangeRule c = let m = c.args.plan.now in
    rw c.in-ChangeRule.is (rules_left m _ c.rename_given.ensures)

pub returns-in-RemoveRule : goal.returns-in-RemoveRule
returns-in-RemoveRule c = let m = c.args.plan.now in
    rw c.in-RemoveRule.is (rules_left m _ c.remove_given.ensures)
