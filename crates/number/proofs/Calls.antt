-- The call's checks in order: which of them refuses, or the answer over the plan.
use Prim.Native.Nat.{ℕ, ◌≤◌, ◌<◌}
use mathlib.Core.Path.{◌≡◌, ap, sym, subst, ◌∙◌}
use mathlib.Core.Bool.{true, false}
use mathlib.Core.List.{List}
use mathlib.Core.Option.{Option, none, some}
use lib.ListN.{length, take}
use borrow.Author.Tests.{lt-ltb, le-ltb}
use Rattle.meaning.specs.Sizes.{NUMBER-BYTES, DIGIT-ROOM}
use Rattle.meaning.specs.Refusals.{CUT, PLAN, ROOM, RANGE}
use Rattle.meaning.specs.Settings.{number_of, number_in_range}
use Rattle.meaning.specs.Plan.{Plan}
use Rattle.meaning.specs.Answer.{Answer, refused, answer_of, answer}
use Rattle.meaning.specs.Answers.{number_of_refusal, answered_as}
use Rattle.meaning.specs.declared.Answered.{Answered}
use Rattle.meaning.specs.declared.Refusal.{Refusal}
use Rattle.meaning.specs.declared.Refusal.TheVariants.{Plan as NoPlan}
use Rattle.plan.specs.Layout.{plan_of}
use Rattle.plan.specs.State.{sound_of, state_of}
use Rattle.plan.specs.declared.SoundPlan.{SoundPlan}
use Rattle.plan.proofs.ImageLaws.{state_some, state_none}
use Rattle.number.specs.Promises.{GivesAnswer, AnswerPromise}
use Rattle.number.proofs.Answering.{gives_refused}

cut_is : (o : Option Plan) (size : ℕ) (body : List ℕ) → length body < NUMBER-BYTES → answer o size body ≡ refused CUT
cut_is none size body h = rw (lt-ltb (length body) NUMBER-BYTES h)
cut_is (some p) size body h = rw (lt-ltb (length body) NUMBER-BYTES h)

module _ (m body out : List ℕ) (r : Answered) where
  pub gives_cut : length body < NUMBER-BYTES → r ≡ answered_as (refused CUT) → AnswerPromise m body out out r
  gives_cut h e = gives_refused (answer (state_of m) (length out) body) CUT out r (cut_is (state_of m) (length out) body h) e

  module _ (whole : NUMBER-BYTES ≤ length body) where
    pub gives_unsound : (f : Refusal) → f ≡ NoPlan → sound_of m ≡ false → r ≡ answered_as (refused (number_of_refusal f)) → AnswerPromise m body out out r
    gives_unsound f q s e =
        let is : answer none (length out) body ≡ refused PLAN = rw (le-ltb (length body) NUMBER-BYTES whole) in
        gives_refused (answer (state_of m) (length out) body) PLAN out r (ap (λ (o : Option Plan). answer o (length out) body) (state_none m s) ∙ is) (e ∙ ap (λ (x : Refusal). answered_as (refused (number_of_refusal x))) q)

    module _ (p : SoundPlan) (same : p.memory.now ≡ m) where
      s : sound_of m ≡ true
      s = rw (← same) p.sound

      over : answer (state_of m) (length out) body ≡ answer (some (plan_of m)) (length out) body
      over = ap (λ (o : Option Plan). answer o (length out) body) (state_some m s)

      pub gives_no_room : length out < DIGIT-ROOM → r ≡ answered_as (refused ROOM) → AnswerPromise m body out out r
      gives_no_room h e =
          let is : answer (some (plan_of m)) (length out) body ≡ refused ROOM = rw (le-ltb (length body) NUMBER-BYTES whole, lt-ltb (length out) DIGIT-ROOM h) in
          gives_refused (answer (state_of m) (length out) body) ROOM out r (over ∙ is) e

      module _ (room : DIGIT-ROOM ≤ length out) where
        pub gives_range : number_in_range (take NUMBER-BYTES body) ≡ false → r ≡ answered_as (refused RANGE) → AnswerPromise m body out out r
        gives_range q e =
            let is : answer (some (plan_of m)) (length out) body ≡ refused RANGE = rw (le-ltb (length body) NUMBER-BYTES whole, le-ltb (length out) DIGIT-ROOM room, q) in
            gives_refused (answer (state_of m) (length out) body) RANGE out r (over ∙ is) e

        pub gives_known : number_in_range (take NUMBER-BYTES body) ≡ true → (after : List ℕ) → GivesAnswer (answer_of (plan_of p.memory.now) (number_of (take NUMBER-BYTES body))) out after r
            → AnswerPromise m body out after r
        gives_known q after g =
            let is : answer (some (plan_of m)) (length out) body ≡ answer_of (plan_of p.memory.now) (number_of (take NUMBER-BYTES body)) =
            rw (same, le-ltb (length body) NUMBER-BYTES whole, le-ltb (length out) DIGIT-ROOM room, q) in
            subst (λ (x : Answer). GivesAnswer x out after r) (sym (over ∙ is)) g
