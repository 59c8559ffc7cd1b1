-- What the checks of an accepted call said of its body, which is what its change asks; and what the change leaves.
use Prim.Native.Nat.{ℕ}
use mathlib.Core.Path.{◌≡◌, refl, ◌∙◌}
use mathlib.Core.Bool.{Bool, true, false, ◌&&◌, ◌||◌, not}
use mathlib.Core.List.{List, ◌++◌}
use mathlib.Core.Option.{Option, some}
use native.Mathlib.Omega.{arith}
use lib.ListN.{length}
use lib.Dec.{T, eqb}
use Rattle.meaning.specs.Sizes.{FILTER-BYTES, RULE-BODY}
use Rattle.meaning.specs.Basics.{is_some}
use Rattle.meaning.specs.Refusals.{first_of}
use Rattle.meaning.specs.Filters.{filter_in_range}
use Rattle.meaning.specs.Rules.{Rule}
use Rattle.meaning.specs.Actions.{content_in_range}
use Rattle.meaning.specs.Plan.{Plan, rooms_in, held, with_slot, with_rules}
use Rattle.meaning.specs.Reads.{over_room}
use Rattle.meaning.specs.Calls.{set_number, content_given, code_given, set_given, holds_filter, add_set_lines, replace_set_lines, remove_set_lines, add_rule_lines, change_rule_lines, remove_rule_lines}
use Rattle.meaning.proofs.Tests.{is_true, is_false, and_left, or_left_false, not_not, passed_at}
use Rattle.plan.specs.Layout.{image, plan_of}
use Rattle.plan.specs.State.{sound_of, rest_of}
use Rattle.changes.specs.Promise.{memory_of}
use Rattle.changes.proofs.PromiseLaws.{rest_behind}
use Rattle.rule_changes.specs.Places.{GivesFilter}
use Rattle.rule_changes.proofs.Given.{in_range}

-- SETS: the number is not over the room

module _ (p : Plan) (b : List ℕ) where
  room_kept : T (not (over_room p (set_number b) || not (content_in_range (content_given b)))) → over_room p (set_number b) ≡ false
  room_kept t = is_false (over_room p (set_number b)) (or_left_false (over_room p (set_number b)) (not (content_in_range (content_given b))) t)

  pub added_room : first_of (add_set_lines p b) ≡ 0 → over_room p (set_number b) ≡ false
  unfolding add_set_lines
  added_room e = room_kept (passed_at 0 (add_set_lines p b) tt e)

  pub replaced_room : first_of (replace_set_lines p b) ≡ 0 → over_room p (set_number b) ≡ false
  unfolding replace_set_lines
  replaced_room e = room_kept (passed_at 0 (replace_set_lines p b) tt e)

  pub removed_room : first_of (remove_set_lines p b) ≡ 0 → over_room p (set_number b) ≡ false
  unfolding remove_set_lines
  removed_room e = is_false (over_room p (set_number b)) (passed_at 0 (remove_set_lines p b) tt e)

-- RULES: the filter is in range, and there or not

module _ (m b : List ℕ) (s : sound_of m ≡ true) where
  gives : length b ≡ RULE-BODY → T (not (over_room (plan_of m) (set_given b) || not (filter_in_range (code_given b)))) → GivesFilter b
  gives size t = in_range _ size refl (is_false (over_room (plan_of m) (set_given b) || not (filter_in_range (code_given b))) t)

  module _ (size : length b ≡ RULE-BODY) where
    pub added_rule : first_of (add_rule_lines (plan_of m) b) ≡ 0
        → GivesFilter b × (length b ≡ RULE-BODY) × (holds_filter (plan_of m) (code_given b) ≡ false) × (eqb (length (plan_of m).rules) (rooms_in (plan_of m)).rules ≡ false)
    unfolding add_rule_lines
    added_rule e = (
      gives size (passed_at 0 (add_rule_lines (plan_of m) b) tt e),
      size,
      is_false (holds_filter (plan_of m) (code_given b)) (passed_at 1 (add_rule_lines (plan_of m) b) tt e),
      is_false (eqb (length (plan_of m).rules) (rooms_in (plan_of m)).rules) (passed_at 4 (add_rule_lines (plan_of m) b) tt e),
    )

    pub changed_rule_lem : first_of (change_rule_lines (plan_of m) b) ≡ 0 → GivesFilter b × (length b ≡ RULE-BODY) × (holds_filter (plan_of m) (code_given b) ≡ true)
    unfolding change_rule_lines
    changed_rule_lem e =
        let there : Bool = holds_filter (plan_of m) (code_given b) in
        let held_set : Bool = is_some (held (plan_of m) (set_given b)) in (
          gives size (passed_at 0 (change_rule_lines (plan_of m) b) tt e),
          size,
          is_true there (and_left there held_set (not_not (there && held_set) (passed_at 1 (change_rule_lines (plan_of m) b) tt e))),
        )

  pub removed_rule_lem : length b ≡ FILTER-BYTES → first_of (remove_rule_lines (plan_of m) b) ≡ 0 → GivesFilter b × (holds_filter (plan_of m) (code_given b) ≡ true)
  unfolding remove_rule_lines
  removed_rule_lem size e =
      let range : Bool = filter_in_range (code_given b) in
      let there : Bool = holds_filter (plan_of m) (code_given b) in (
        record { whole = omega arith; range = is_true range (not_not range (passed_at 0 (remove_rule_lines (plan_of m) b) tt e)) },
        is_true there (not_not there (passed_at 1 (remove_rule_lines (plan_of m) b) tt e)),
      )

-- WHAT A CHANGE LEAVES: the rooms of the plan stay

module _ (m : List ℕ) {after : List ℕ} where
  pub slot_left : (n : ℕ) (o : Option (List ℕ)) → after ≡ image (with_slot n o (plan_of m)) ++ rest_of m → after ≡ memory_of (some (with_slot n o (plan_of m))) m
  unfolding with_slot
  slot_left n o e = e ∙ rest_behind m (with_slot n o (plan_of m)) refl

  pub rules_left : (rs : List Rule) → after ≡ image (with_rules rs (plan_of m)) ++ rest_of m → after ≡ memory_of (some (with_rules rs (plan_of m))) m
  unfolding with_rules
  rules_left rs e = e ∙ rest_behind m (with_rules rs (plan_of m)) refl
