-- Which stretch each check and each choice gives, and the digits that it names.
use Prim.Native.Nat.{ℕ, ◌+◌, ◌≤◌}
use mathlib.Core.Path.{◌≡◌, refl, ap, ap₂, sym, ◌∙◌}
use mathlib.Core.Bool.{true, false}
use mathlib.Core.List.{List}
use mathlib.Core.Option.{Option}
use native.Mathlib.Omega.{arith}
use lib.ListN.{length}
use Rattle.std.specs.Prelude.{Option as Optional, Some, None, IfSome, option_map}
use Rattle.meaning.specs.Basics.{within}
use Rattle.meaning.specs.Settings.{dialled_in_range}
use Rattle.meaning.specs.Rules.{Rule, filter_in, chosen}
use Rattle.meaning.specs.Actions.{LAST-CONDITIONED, actions_of, ca_bytes, cas_of}
use Rattle.meaning.specs.Conditioning.{empty_stretch}
use Rattle.meaning.specs.Plan.{actions_in}
use Rattle.meaning.specs.Reads.{stretch_by, stretch_under, stretch}
use Rattle.meaning.specs.Answers.{span_of}
use Rattle.meaning.specs.declared.Span.{Span}
use Rattle.conditioning.specs.Spans.{stretch_in, Covers}
use Rattle.conditioning.proofs.Walk.{stretch_by_lem}
use Rattle.plan.specs.Layout.{plan_of}
use Rattle.plan.specs.State.{sound_of, state_of}
use Rattle.plan.specs.declared.SoundPlan.{SoundPlan}
use Rattle.plan.specs.declared.HeldRule.{HeldRule}
use Rattle.plan.proofs.ImageLaws.{state_some, state_none}
use Rattle.plan.specs.Readings.{Prefix, NamedContent, rule_placed}
use Rattle.choice.specs.Chosen.{ChoicePromise}
use Rattle.choice.proofs.Chosen.{no_rule_given, plan_given, rule_given}
use Rattle.reads.specs.Promises.{SpanPromise}

-- an empty span
abbrev pub nothing : Span
nothing = record { start = 0; count = 0 }

-- THE CHECKS BEFORE THE CHOICE

module _ (m : List ℕ) (class : ℕ) (ds : List ℕ) (v : ℕ) where
  -- a span that is the stretch, within the digits
  abbrev pub Spans : Span → Type 0
  Spans r = SpanPromise m class ds v r × (r.start + r.count ≤ length ds)

  empty_span : stretch (state_of m) class ds v ≡ empty_stretch → Spans nothing
  empty_span e = (ap span_of (sym e), omega arith)

  pub span_plan : sound_of m ≡ false → Spans nothing
  span_plan e = empty_span (rw (state_none m e))

  module _ (p : SoundPlan) (same : p.memory.now ≡ m) where
    e : sound_of m ≡ true
    e = rw (← same) p.sound

    module _ (d : dialled_in_range class ds ≡ true) where
      pub span_given : within 1 LAST-CONDITIONED v ≡ true → (r : Span)
          → Covers (length ds) (stretch_under (plan_of p.memory.now) v (length ds) (chosen class ds (plan_of p.memory.now).rules)) r → Spans r
      span_given w r g =
          let is : stretch (state_of m) class ds v ≡ stretch_under (plan_of p.memory.now) v (length ds) (chosen class ds (plan_of p.memory.now).rules) = rw (state_some m e, d, w, same) in
          (g.same ∙ ap span_of (sym is), g.inside)

-- THE CHOICE

module _ (m : List ℕ) (class : ℕ) (ds : List ℕ) (v : ℕ) (o : Optional HeldRule) (given : ChoicePromise m class ds (option_map (λ (r : HeldRule). r.place) o)) where
  pub covers_none : o ≡ None → Covers (length ds) (stretch_under (plan_of m) v (length ds) (chosen class ds (plan_of m).rules)) nothing
  covers_none q = rw (no_rule_given m class ds o given q) (record { same = refl; inside = omega arith })

  module _ (same-plan : IfSome o (λ (r : HeldRule). r.plan.memory.now ≡ m)) (rule : HeldRule) (q : o ≡ Some rule) where
    abbrev placed : Rule
    placed = rule_placed rule.plan.memory.now rule.place.0

    pub covers_chosen : (content cas : List ℕ) (prefix : ℕ) (s : Span) → NamedContent (plan_of rule.plan.memory.now) placed content → cas ≡ ca_bytes content
        → Prefix placed prefix → Covers (length ds) (stretch_in v prefix (length ds) (cas_of cas)) s
        → Covers (length ds) (stretch_under (plan_of m) v (length ds) (chosen class ds (plan_of m).rules)) s
    unfolding actions_of
    covers_chosen content cas prefix s named cas-is p g =
        let same : stretch_under (plan_of m) v (length ds) (chosen class ds (plan_of m).rules) ≡ stretch_in v prefix (length ds) (cas_of cas) =
        ap (λ (x : List ℕ). stretch_under (plan_of x) v (length ds) (chosen class ds (plan_of x).rules)) (sym (plan_given m class ds o given same-plan rule q))
        ∙ (ap (stretch_under (plan_of rule.plan.memory.now) v (length ds)) (rule_given m class ds o given same-plan rule q).is
        ∙ (ap (λ (x : Option (List ℕ)). stretch_by v (length ds) (filter_in placed) (actions_in x)) named.is
        ∙ (stretch_by_lem v (length ds) (filter_in placed) (actions_of content)
        ∙ ap₂ (λ n (b : List ℕ). stretch_in v n (length ds) (cas_of b)) (sym p.is) (sym cas-is)))) in
        rw same g
