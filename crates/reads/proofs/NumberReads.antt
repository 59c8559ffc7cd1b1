-- What the conditioned number gives, check by check, and that it has no more than 35 digits.
use Prim.Native.Nat.{ℕ, ◌≤◌, ◌<◌}
use mathlib.Core.Path.{◌≡◌, refl, ap, sym}
use mathlib.Core.Bool.{true, false}
use mathlib.Core.List.{List}
use mathlib.Core.Option.{some}
use lib.ListN.{length}
use lib.Dec.{lit≤}
use Rattle.std.specs.Prelude.{Option as Optional, Some, None, Result, Ok, Err, IfSome, option_map}
use borrow.Author.Tests.{lt-ltb, le-ltb}
use Rattle.meaning.specs.Sizes.{DIGIT-ROOM}
use Rattle.meaning.specs.Basics.{is_empty}
use Rattle.meaning.specs.Settings.{dialled_in_range}
use Rattle.meaning.specs.Rules.{chosen}
use Rattle.meaning.specs.Actions.{actions_of, ca_bytes, cas_of}
use Rattle.meaning.specs.Conditioning.{short}
use Rattle.meaning.specs.Reads.{Read, read, conditioned, conditioned_by, conditioned_under}
use Rattle.meaning.specs.Numbers.{Conditions}
use Rattle.meaning.specs.declared.Refusal.TheVariants.{Plan as NoPlan, Room, Range, Short}
use Rattle.meaning.specs.declared.Refusal.{Refusal}
use Rattle.meaning.proofs.Tests.{true_is}
use Rattle.meaning.proofs.Soundness.{sound_of_lem}
use Rattle.meaning.proofs.Numbers.{every_number}
use Rattle.formatting.specs.Joins.{conditioned as conditionedDigits, Conditionable, Writes}
use Rattle.plan.specs.Layout.{plan_of}
use Rattle.plan.specs.State.{sound_of}
use Rattle.plan.specs.declared.SoundPlan.{SoundPlan}
use Rattle.plan.specs.declared.HeldRule.{HeldRule}
use Rattle.plan.proofs.ImageLaws.{state_some, state_none}
use Rattle.plan.proofs.ReadLaws.{sound_is}
use Rattle.plan.specs.Readings.{Prefix, NamedContent, rule_placed}
use Rattle.choice.specs.Chosen.{ChoicePromise}
use Rattle.choice.proofs.Chosen.{no_rule_given, plan_given, rule_given}
use Rattle.reads.specs.Promises.{GivesRead, ConditionedPromise}
use Rattle.reads.specs.Applies.{Applies}

-- THE CHECKS BEFORE THE CHOICE

module _ (m : List ℕ) (class : ℕ) (ds out : List ℕ) where
  pub number_plan : (f : Refusal) → f ≡ NoPlan → sound_of m ≡ false → ConditionedPromise m class ds out out (Err f)
  number_plan f q e = rw (q, state_none m e) (record { result = record { refusal = refl; bytes = refl }; buffer = refl })

  module _ (p : SoundPlan) (same : p.memory.now ≡ m) where
    pub number_room : length out < DIGIT-ROOM → ConditionedPromise m class ds out out (Err Room)
    number_room h = rw (← same, state_some p.memory.now p.sound, lt-ltb (length out) DIGIT-ROOM h) (record { result = record { refusal = refl; bytes = refl }; buffer = refl })

    module _ (room : DIGIT-ROOM ≤ length out) where
      pub number_range : dialled_in_range class ds ≡ false → ConditionedPromise m class ds out out (Err Range)
      number_range d = rw (← same, state_some p.memory.now p.sound, le-ltb (length out) DIGIT-ROOM room, d) (record { result = record { refusal = refl; bytes = refl }; buffer = refl })

      pub number_known : dialled_in_range class ds ≡ true → (after : List ℕ) (r : Result ℕ Refusal)
          → GivesRead (conditioned_under (plan_of p.memory.now) ds (chosen class ds (plan_of p.memory.now).rules)) out after r → ConditionedPromise m class ds out after r
      number_known d after r g = rw (← same, state_some p.memory.now p.sound, le-ltb (length out) DIGIT-ROOM room, d) g

-- THE CHOICE

module _ (m : List ℕ) (class : ℕ) (ds out : List ℕ) (o : Optional HeldRule) (given : ChoicePromise m class ds (option_map (λ (r : HeldRule). r.place) o)) where
  pub number_none : o ≡ None → GivesRead (conditioned_under (plan_of m) ds (chosen class ds (plan_of m).rules)) out out (Ok 0)
  number_none q = rw (no_rule_given m class ds o given q) (record { result = record { refusal = refl; bytes = refl }; buffer = refl })

  module _ (same : IfSome o (λ (r : HeldRule). r.plan.memory.now ≡ m)) (rule : HeldRule) (q : o ≡ Some rule) where
    pub rule_applies : dialled_in_range class ds ≡ true → Applies rule.plan.memory.now rule.place.0 ds
    rule_applies d = record { class = class; in_range = d; rule = (rule_given m class ds o given same rule q).is }

    pub number_chosen : (after : List ℕ) (w : Result ℕ Refusal) → GivesRead (conditioned_under (plan_of rule.plan.memory.now) ds (some (rule_placed rule.plan.memory.now rule.place.0))) out after w
        → GivesRead (conditioned_under (plan_of m) ds (chosen class ds (plan_of m).rules)) out after w
    number_chosen after w g = rw (← plan_given m class ds o given same rule q, (rule_given m class ds o given same rule q).is) g

-- BY THE RULE AT A PLACE

module _ (m : List ℕ) (k : ℕ) (ds out content cas : List ℕ) (named : NamedContent (plan_of m) (rule_placed m k) content) (cas-is : cas ≡ ca_bytes content) where
  -- its set's conditioning actions
  pub actions_are : (actions_of content).cas ≡ cas_of cas
  unfolding actions_of
  actions_are = ap cas_of (sym cas-is)

  pub number_unconditioned : is_empty (cas_of cas) ≡ true → GivesRead (conditioned_under (plan_of m) ds (some (rule_placed m k))) out out (Ok 0)
  unfolding conditioned_by
  number_unconditioned e = rw (named.is, actions_are, e) (record { result = record { refusal = refl; bytes = refl }; buffer = refl })

  module _ (prefix : ℕ) (e : is_empty (cas_of cas) ≡ false) (p : Prefix (rule_placed m k) prefix) where
    pub number_short : short prefix (length ds) (cas_of cas) ≡ true → GivesRead (conditioned_under (plan_of m) ds (some (rule_placed m k))) out out (Err Short)
    unfolding conditioned_by
    number_short s = rw (named.is, actions_are, e, ← p.is, s) (record { result = record { refusal = refl; bytes = refl }; buffer = refl })

    module _ (settings : List ℕ) (settings-are : settings ≡ (plan_of m).settings) (s : short prefix (length ds) (cas_of cas) ≡ false) where
      pub number_conditionable : sound_of m ≡ true → Conditionable settings ds cas prefix
      number_conditionable q = record { settings_long = rw settings-are (sound_is m q).plan.settings_size; enough = s }

      -- the number itself
      number_is : conditioned_under (plan_of m) ds (some (rule_placed m k)) ≡ read (conditionedDigits settings ds cas prefix)
      unfolding conditioned_by conditionedDigits
      number_is = rw (named.is, actions_are, e, ← p.is, s, settings-are)

      pub number_few : sound_of m ≡ true → Applies m k ds → length (conditionedDigits settings ds cas prefix) ≤ DIGIT-ROOM
      number_few sound-m a =
          let is : conditioned (some (plan_of m)) DIGIT-ROOM a.class ds ≡ read (conditionedDigits settings ds cas prefix) = rw (a.in_range, a.rule) number_is in
          let given : Conditions (plan_of m) a.class ds (rule_placed m k) content =
          record { in_range = true_is (dialled_in_range a.class ds) a.in_range; rule = a.rule; set = named.is; actions = rw actions_are e } in
          let holds = every_number (plan_of m) (sound_of_lem (plan_of m) (sound_is m sound-m).plan) a.class ds (rule_placed m k) content given DIGIT-ROOM (lit≤ tt) in
          rw is at (holds.length_is (ap (λ (x : Read). x.refusal) is)).1

      pub number_given : (after : List ℕ) (n : ℕ) → Writes (conditionedDigits settings ds cas prefix) out after n
          → GivesRead (conditioned_under (plan_of m) ds (some (rule_placed m k))) out after (Ok n)
      number_given after n w = rw number_is (record { result = record { refusal = refl; bytes = w.count }; buffer = w.written })
