-- What a number's body in range has, and the answer by the rule chosen for it.
use Prim.Native.Nat.{ℕ, ◌+◌, ◌-◌, ◌≤◌}
use mathlib.Core.Path.{◌≡◌, ap, sym, subst, ◌∙◌}
use mathlib.Core.Bool.{true}
use mathlib.Core.List.{List}
use mathlib.Core.Option.{Option, none}
use Rattle.std.specs.Prelude.{Option as Optional, None, option_map}
use native.Mathlib.Omega.{arith}
use lib.ListN.{length, take, drop, get_or, length-drop}
use lib.Seq.{length-take-le, get_or-take, get_or-drop}
use lib.Dec.{T, leb→le, lit<}
use Rattle.meaning.specs.Sizes.{CLASS-AT, DIALLED-AT, DIALLED-DIGITS-AT, NUMBER-BYTES}
use Rattle.meaning.specs.Basics.{part}
use Rattle.meaning.specs.Settings.{Number, lookup_of, number_of, lookup_ranges, lookup_in_range, number_ranges, number_in_range}
use Rattle.meaning.specs.Rules.{filter_in, chosen}
use Rattle.meaning.specs.Actions.{actions_of}
use Rattle.meaning.specs.Plan.{settings_in, actions_in}
use Rattle.meaning.specs.Answer.{NO-RULE, Answer, unserved, answer_by, answer_under, answer_of}
use Rattle.meaning.specs.Answers.{answered_as}
use Rattle.meaning.specs.declared.Answered.{Answered}
use Rattle.meaning.proofs.Tests.{true_is, all_at, digits_said}
use Rattle.buffer.proofs.DigitLaws.{digits_at_lem}
use Rattle.plan.specs.Layout.{plan_of}
use Rattle.plan.proofs.ReadLaws.{sound_is}
use Rattle.plan.specs.declared.HeldRule.{HeldRule}
use Rattle.plan.specs.State.{sound_of}
use Rattle.plan.specs.Readings.{Prefix, NamedContent, rule_placed}
use Rattle.choice.specs.Chosen.{ChoicePromise}
use Rattle.choice.proofs.Chosen.{ChosenAt, chosen_at, no_rule_given}
use Rattle.formatting.specs.Sources.{lookup_in, digits_in}
use Rattle.number.specs.Answering.{given_by, Answerable, Digits, Known, Placed}
use Rattle.number.specs.Promises.{HoldsAnswer}
use Rattle.number.proofs.Answering.{holds_unserved, answer_with_lem}

-- THE BODY

module _ (body : List ℕ) (whole : length body ≡ NUMBER-BYTES) (range : number_in_range body ≡ true) where
  ranges : (k : ℕ) → T (get_or (number_ranges body) k true)
  unfolding number_in_range
  ranges k = all_at k (number_ranges body) (true_is (number_in_range body) range)

  pub digits_few : get_or body DIALLED-AT 0 ≤ 32
  digits_few =
      let is : ◌≡◌ {A = ℕ} (get_or (part DIALLED-AT 33 body) 0 0) (get_or body DIALLED-AT 0) = get_or-take 33 (drop DIALLED-AT body) 0 0 (lit< tt) ∙ get_or-drop DIALLED-AT body 0 0 in
      rw is at (digits_said 0 32 (part DIALLED-AT 33 body) (ranges 1))

  pub digits_are : (n : ℕ) → n ≡ get_or body DIALLED-AT 0 → Digits body (take (n + DIALLED-DIGITS-AT - DIALLED-DIGITS-AT) (drop DIALLED-DIGITS-AT body))
  unfolding number_of
  digits_are n e =
      let few : get_or body DIALLED-AT 0 ≤ 32 = digits_few in
      let k : n + DIALLED-DIGITS-AT - DIALLED-DIGITS-AT ≡ get_or body DIALLED-AT 0 = omega arith in
      let l : length (take (get_or body DIALLED-AT 0) (drop DIALLED-DIGITS-AT body)) ≡ get_or body DIALLED-AT 0 = length-take-le (get_or body DIALLED-AT 0) (drop DIALLED-DIGITS-AT body) (rw (length-drop DIALLED-DIGITS-AT body) (omega arith)) in
      rw k (record { is = sym (digits_at_lem DIALLED-AT 32 body (omega arith) few); from = rw l; few = omega arith })

  pub lookup_kind : get_or (lookup_in body) 0 0 ≤ 3
  unfolding lookup_in_range
  lookup_kind = leb→le (get_or (lookup_in body) 0 0) 3 (all_at 0 (lookup_ranges (lookup_in body)) (ranges 2))

-- BY THE RULE CHOSEN

module _ (m body out : List ℕ) (n k : ℕ) (sound-m : sound_of m ≡ true) (placed : Placed m body n k out) where
  abbrev ds : List ℕ
  ds = digits_in n body

  known : Known body
  known = placed.holdable.known

  number_is : number_of body ≡ record { class = get_or body CLASS-AT 0; digits = ds; lookup = lookup_of (lookup_in body) }
  unfolding number_of
  number_is = rw placed.digits

  pub at_place : ChosenAt m (get_or body CLASS-AT 0) ds k
  at_place = chosen_at m (get_or body CLASS-AT 0) ds k sound-m placed.place

  module _ (settings content : List ℕ) (prefix : ℕ) (settings_is : settings ≡ (plan_of m).settings) (prefix_is : Prefix (rule_placed m k) prefix)
      (content_is : NamedContent (plan_of m) (rule_placed m k) content) where
    pub answerable : Answerable settings body n content out
    answerable =
        record {
          settings_long = ap length settings_is ∙ (sound_is m sound-m).plan.settings_size;
          body_long = known.whole;
          kind = lookup_kind body known.whole known.range;
          few = placed.few;
          content_long = content_is.size;
          room = placed.holdable.room;
        }

    answer_is : answer_of (plan_of m) (number_of body) ≡ given_by settings (lookup_in body) (get_or body CLASS-AT 0) ds prefix content
    unfolding answer_of
    answer_is =
        let x : Number = record { class = get_or body CLASS-AT 0; digits = ds; lookup = lookup_of (lookup_in body) } in
        ap (λ (y : Number). answer_under (plan_of m) y (chosen y.class y.digits (plan_of m).rules)) number_is
        ∙ (ap (answer_under (plan_of m) x) at_place.is
        ∙ (ap (λ (o : Option (List ℕ)). answer_by (settings_in (plan_of m)) x (filter_in (rule_placed m k)) (actions_in o)) content_is.is
        ∙ (answer_with_lem (settings_in (plan_of m)) x (filter_in (rule_placed m k)) (actions_of content) prefix prefix_is.is ∙ rw settings_is)))

    pub holds_placed : (after : List ℕ) (r : Answered) → HoldsAnswer (given_by settings (lookup_in body) (get_or body CLASS-AT 0) ds prefix content) after r
        → HoldsAnswer (answer_of (plan_of m) (number_of body)) after r
    holds_placed after r g = subst (λ (x : Answer). HoldsAnswer x after r) (sym answer_is) g

-- BY THE CHOICE

module _ (m body ds out : List ℕ) (digits : Digits body ds) (o : Optional HeldRule)
    (o_is : ChoicePromise m (get_or body CLASS-AT 0) ds (option_map (λ (r : HeldRule). r.place) o)) where
  pub holds_none : o ≡ None → (after : List ℕ) (r : Answered) → r ≡ answered_as (unserved NO-RULE (get_or body CLASS-AT 0)) → HoldsAnswer (answer_of (plan_of m) (number_of body)) after r
  unfolding answer_of number_of
  holds_none q after r e =
      let c : chosen (get_or body CLASS-AT 0) (number_of body).digits (plan_of m).rules ≡ none =
      ap (λ (x : List ℕ). chosen (get_or body CLASS-AT 0) x (plan_of m).rules) (sym digits.is) ∙ no_rule_given m (get_or body CLASS-AT 0) ds o o_is q in
      holds_unserved (answer_of (plan_of m) (number_of body)) NO-RULE (get_or body CLASS-AT 0) after r (ap (answer_under (plan_of m) (number_of body)) c) e
