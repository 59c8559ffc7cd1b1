-- Each edit has its own checks.
use mathlib.Core.Path.{ap, ◌∙◌}
use Rattle.meaning.specs.Calls.{body_length}
use Rattle.meaning.specs.Answers.{number_of_edit}
use Rattle.meaning.specs.declared.kinds.Edit.{Edit}
use Rattle.provision.proofs.refusal_known.Goals as goal

pub add_set_refusal-requires : goal.add_set_refusal-requires
unfolding body_length
add_set_refusal-requires c = c.requires ∙ ap (λ (e : Edit). body_length (number_of_edit e)) c.in-AddSet.is

pub replace_set_refusal-requires : goal.replace_set_refusal-requires
unfolding body_length
replace_set_refusal-requires c = c.requires ∙ ap (λ (e : Edit). body_length (number_of_edit e)) c.in-ReplaceSet.is

pub remove_set_refusal-requires : goal.remove_set_refusal-requires
unfolding body_length
remove_set_refusal-requires c = c.requires ∙ ap (λ (e : Edit). body_length (number_of_edit e)) c.in-RemoveSet.is

pub add_rule_refusal-requires : goal.add_rule_refusal-requires
unfolding body_length
add_rule_refusal-requires c = c.requires ∙ ap (λ (e : Edit). body_length (number_of_edit e)) c.in-AddRule.is

pub change_rule_refusal-requires : goal.change_rule_refusal-requires
unfolding body_length
change_rule_refusal-requires c = c.requires ∙ ap (λ (e : Edit). body_length (number_of_edit e)) c.in-ChangeRule.is

pub remove_rule_refusal-requires : goal.remove_rule_refusal-requires
unfolding body_length
remove_rule_refusal-requires c = c.requires ∙ ap (λ (e : Edit). body_length (number_of_edit e)) c.in-RemoveRule.is

pub returns-in-AddSet : goal.returns-in-AddSet
returns-in-AddSet c = rw c.in-AddSet.is c.add_set_refusal.ensures

pub returns-in-ReplaceSet : goal.returns-in-ReplaceSet
returns-in-ReplaceSet c = rw c.in-ReplaceSet.is c.replace_set_refusal.ensures

pub returns-in-RemoveSet : goal.returns-in-RemoveSet
returns-in-RemoveSet c = rw c.in-RemoveSet.is c.remove_set_refusal.ensures

pub returns-in-AddRule : goal.returns-in-AddRule
returns-in-AddRule c = rw c.in-AddRule.is c.add_rule_refusal.ensures

pub returns-in-ChangeRule : goal.returns-in-ChangeRule
returns-in-ChangeRule c = rw c.in-ChangeRule.is c.change_rule_refusal.ensures

pub returns-in-RemoveRule : goal.returns-in-RemoveRule
returns-in-RemoveRule c = rw c.in-RemoveRule.is c.remove_rule_refusal.ensures
