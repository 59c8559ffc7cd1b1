-- The rules of a sound plan as they lie in its rule slots, and what the rule at a place has: its slot, its prefix, and the content of its set.
use Prim.Native.Nat.{ℕ, ◌+◌, ◌-◌, ◌*◌, ◌≤◌, ◌<◌}
use mathlib.Core.Path.{◌≡◌, ap, sym, subst, ◌∙◌}
use mathlib.Core.Bool.{true}
use mathlib.Core.List.{List}
use mathlib.Core.Option.{some}
use native.Mathlib.Omega.{arith}
use lib.ListN.{length, take, drop, get_or, length-drop}
use lib.Seq.{length-take-le}
use Rattle.meaning.specs.Sizes.{FILTER-BYTES, PREFIX-AT, RULE-WIDTH}
use Rattle.meaning.specs.Basics.{is_some}
use Rattle.meaning.specs.Filters.{Filter}
use Rattle.meaning.specs.Rules.{Rule, filter_in, rules_in_order}
use Rattle.meaning.specs.History.{no_rule}
use Rattle.meaning.specs.Plan.{held, NamesHeld}
use Rattle.meaning.proofs.Tests.{is_true}
use Rattle.meaning.proofs.Largest.{place_mem}
use Rattle.meaning.proofs.Soundness.{names_held}
use Rattle.buffer.proofs.ListLaws.{element_at}
use Rattle.filter.specs.Slots.{RuleArea, rule_of, rules_of}
use Rattle.filter.proofs.FilterLaws.{prefix_length}
use Rattle.filter.proofs.RuleLaws.{filter_in_lem, slot_bytes}
use Rattle.plan.specs.Layout.{rule_count, plan_of}
use Rattle.plan.specs.State.{sound_of}
use Rattle.plan.specs.Readings.{RulesPart, Content, RuleSlot, Prefix, NamedContent, rule_placed}
use Rattle.plan.proofs.ReadLaws.{sound_is, rule_count_is, rule_there}

-- THE AREA OF THE RULES

pub area_is : (m area : List ℕ) (n : ℕ) → RulesPart m area → n ≡ rule_count m → RuleArea n area
area_is m area n part count = subst (λ k. RuleArea k area) (sym count) part.area

pub rules_are : (m area : List ℕ) (n : ℕ) → RulesPart m area → n ≡ rule_count m → rules_of n area ≡ (plan_of m).rules
rules_are m area n part count = ap (λ k. rules_of k area) count ∙ part.rules

-- and they stand in listing order
pub order_is : (m area : List ℕ) (n : ℕ) → sound_of m ≡ true → RulesPart m area → n ≡ rule_count m → rules_in_order (rules_of n area) ≡ true
order_is m area n e part count = ap rules_in_order (rules_are m area n part count) ∙ is_true (rules_in_order (plan_of m).rules) (sound_is m e).plan.order

-- THE RULE AT A PLACE

module _ (m : List ℕ) (k : ℕ) (below : k < rule_count m) where
  stands : k < length (plan_of m).rules
  stands = rw (← rule_count_is m) below

  -- the slot of an area
  pub slot_is : (area : List ℕ) → RulesPart m area → RuleSlot (rule_placed m k) (take (RULE-WIDTH * k + RULE-WIDTH - RULE-WIDTH * k) (drop (RULE-WIDTH * k) area))
  unfolding rule_of
  slot_is area part =
      let w : RULE-WIDTH * k + RULE-WIDTH - RULE-WIDTH * k ≡ RULE-WIDTH = omega arith in
      let l : RULE-WIDTH ≤ length (drop (RULE-WIDTH * k) area) = rw (length-drop (RULE-WIDTH * k) area) (omega (arith, part.area.room)) in
      let there : rule_placed m k ≡ rule_of (take RULE-WIDTH (drop (RULE-WIDTH * k) area)) =
      ap (λ (rs : List Rule). get_or rs k no_rule) (sym part.rules) ∙ rule_there (rule_count m) k area below in
      record {
        long = rw w (length-take-le RULE-WIDTH (drop (RULE-WIDTH * k) area) l);
        bytes = slot_bytes (rule_count m) k area part.area below;
        filter = rw w (sym (ap filter_in there ∙ filter_in_lem (take RULE-WIDTH (drop (RULE-WIDTH * k) area))));
      }

  -- it begins with the bytes of the rule's filter
  pub slot_code : (area : List ℕ) → RulesPart m area → take FILTER-BYTES (take (RULE-WIDTH * k + RULE-WIDTH - RULE-WIDTH * k) (drop (RULE-WIDTH * k) area)) ≡ (rule_placed m k).code
  unfolding rule_of
  slot_code area part =
      let w : RULE-WIDTH * k + RULE-WIDTH - RULE-WIDTH * k ≡ RULE-WIDTH = omega arith in
      let there : rule_placed m k ≡ rule_of (take RULE-WIDTH (drop (RULE-WIDTH * k) area)) =
      ap (λ (rs : List Rule). get_or rs k no_rule) (sym part.rules) ∙ rule_there (rule_count m) k area below in
      rw w (sym (ap (λ (r : Rule). r.code) there))

  pub place_named : sound_of m ≡ true → NamesHeld (plan_of m) (rule_placed m k)
  place_named e =
      names_held (plan_of m) (sound_is m e).plan (rule_placed m k)
      (place_mem (plan_of m).rules k (rule_placed m k) (element_at (plan_of m).rules k no_rule stands))

  -- the set that it names is held
  pub named_held : sound_of m ≡ true → is_some (held (plan_of m) (rule_placed m k).set) ≡ true
  named_held e = rw (place_named e).is_held

  pub content_named : (c : List ℕ) → sound_of m ≡ true → Content (plan_of m) (rule_placed m k).set c → NamedContent (plan_of m) (rule_placed m k) c
  content_named c e is =
      let n = place_named e in
      let same : n.content ≡ c = let both : some n.content ≡ some c = sym n.is_held ∙ is.is in cc in
      record { is = is.is; size = is.size; passes = rw (← same) n.passes; fits = rw (← same) n.fits }

-- the length of a prefix is the byte before it
pub slot_prefix : (r : Rule) (s : List ℕ) (n : ℕ) → RuleSlot r s → n ≡ get_or s PREFIX-AT 0 → Prefix r n
slot_prefix r s n slot e =
    record { is = e ∙ sym (prefix_length s slot.bytes) ∙ ap (λ (f : Filter). length f.prefix) slot.filter; few = rw e slot.bytes.prefix }
