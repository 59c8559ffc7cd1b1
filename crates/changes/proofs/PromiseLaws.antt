-- How a call meets its promise: it is refused by its first check, by the examiner, or by one of its own checks, or it leaves the image of what it made.
use Prim.Native.Nat.{ℕ, ◌≤◌, ◌<◌}
use mathlib.Core.Path.{◌≡◌, refl, ap, ap₂, sym, subst, ◌∙◌}
use mathlib.Core.Logic.{◌≢◌}
use mathlib.Core.Bool.{true, false}
use mathlib.Core.List.{List, ◌++◌}
use mathlib.Core.Option.{Option, some}
use native.Mathlib.Omega.{arith}
use lib.ListN.{length, take, drop}
use lib.Seq.{take-take, take_all, length-take-le}
use borrow.Author.Tests.{lt-ltb, le-ltb, ne_eqb}
use Rattle.meaning.specs.Basics.{is_zero}
use Rattle.std.specs.Prelude.{if◌then◌else◌}
use Rattle.meaning.specs.Refusals.{CUT, KIND, PLAN, first_of}
use Rattle.meaning.specs.Settings.{rooms_of, bytes_needed}
use Rattle.meaning.specs.Plan.{Plan, rooms_in}
use Rattle.meaning.specs.Answers.{edit_of, number_of_edit}
use Rattle.meaning.specs.declared.kinds.Edit.{Edit}
use Rattle.meaning.proofs.Telling.{edit_call, edit_asked}
use Rattle.meaning.specs.Calls.{Operation, open_plan, Call, kind_of, body_length, body_of, lacks_bytes, lines_of, refusal, made, OPEN-PLAN, is_call, operation_of}
use Rattle.meaning.proofs.CallKinds.{is_opening, plan_lines, not_both}
use Rattle.plan.specs.Layout.{image, plan_of}
use Rattle.plan.specs.State.{sound_of, state_of, rest_of}
use Rattle.plan.proofs.ImageLaws.{state_some, state_none}
use Rattle.changes.specs.Promise.{number_for, memory_of, memory_after, Provides, calls, Carries}

-- REFUSED

pub refused : (c : Call) (m : List ℕ) (n : ℕ) → number_for c m ≡ n → n ≢ 0 → Provides c m m n
unfolding memory_after
refused c m n e h = record { number_is = sym e; memory_is = sym (rw (ne_eqb (number_for c m) 0 (λ q. h (sym e ∙ q)))) }

-- the body is shorter than its kind says
pub cut : (o : Operation) (m b : List ℕ) → length b < body_length (kind_of o) → Provides (calls o b) m m CUT
unfolding refusal
cut o m b h = refused (calls o b) m CUT (rw (lt-ltb (length b) (body_length (kind_of o)) h)) (λ e. omega (arith, e))

-- the number of a call that is not cut is that of its own checks
pub number_whole : (o : Operation) (m b : List ℕ) → body_length (kind_of o) ≤ length b
    → number_for (calls o b) m ≡ first_of (lines_of o (lacks_bytes (length m)) (state_of m) (take (body_length (kind_of o)) b))
unfolding refusal
number_whole o m b h = rw (le-ltb (length b) (body_length (kind_of o)) h)

-- ACCEPTED

pub accepted : (c : Call) (m : List ℕ) (q : Plan) → number_for c m ≡ 0 → made c.operation (state_of m) (body_of c) ≡ some q
    → Provides c m (image q ++ drop (bytes_needed (rooms_in q)) m) 0
unfolding memory_after
accepted c m q e f = record { number_is = sym e; memory_is = sym (rw (e, f)) }

-- LONGER BODIES: what is behind is not looked at

module _ (o : Operation) (m b : List ℕ) (h : body_length (kind_of o) ≤ length b) where
  same_body : body_of (calls o (take (body_length (kind_of o)) b)) ≡ body_of (calls o b)
  same_body = take-take (body_length (kind_of o)) (body_length (kind_of o)) b (omega arith)

  same_number : number_for (calls o (take (body_length (kind_of o)) b)) m ≡ number_for (calls o b) m
  same_number =
      number_whole o m (take (body_length (kind_of o)) b) (rw (length-take-le (body_length (kind_of o)) b h) (omega arith))
      ∙ (ap (λ (x : List ℕ). first_of (lines_of o (lacks_bytes (length m)) (state_of m) x)) same_body ∙ sym (number_whole o m b h))

  same_memory : memory_after (calls o (take (body_length (kind_of o)) b)) m ≡ memory_after (calls o b) m
  unfolding memory_after
  same_memory = ap₂ (λ (k : ℕ) (x : List ℕ). if is_zero k then memory_of (made o (state_of m) x) m else m) same_number same_body

  pub longer : (after : List ℕ) (number : ℕ) → Provides (calls o (take (body_length (kind_of o)) b)) m after number → Provides (calls o b) m after number
  longer after number p = record { number_is = p.number_is ∙ same_number; memory_is = p.memory_is ∙ same_memory }

-- OVER AN UNSOUND MEMORY every call but opening is refused with PLAN

pub unsound : (o : Operation) (m b : List ℕ) → is_opening o ≡ false → body_length (kind_of o) ≤ length b → sound_of m ≡ false → Provides (calls o b) m m PLAN
unsound o m b e h s =
    refused (calls o b) m PLAN
    (number_whole o m b h ∙ (ap (λ (t : Option Plan). first_of (lines_of o (lacks_bytes (length m)) t (take (body_length (kind_of o)) b))) (state_none m s)
    ∙ plan_lines o (lacks_bytes (length m)) (take (body_length (kind_of o)) b) e))
    (λ q. omega (arith, q))

-- OVER A SOUND MEMORY, with a body of just its length

module _ (o : Operation) (m b : List ℕ) (size : length b ≡ body_length (kind_of o)) (s : sound_of m ≡ true) where
  whole_body : take (body_length (kind_of o)) b ≡ b
  whole_body = take_all (body_length (kind_of o)) b (omega arith)

  pub number_known : number_for (calls o b) m ≡ first_of (lines_of o (lacks_bytes (length m)) (some (plan_of m)) b)
  number_known =
      number_whole o m b (omega arith)
      ∙ ap₂ (λ (t : Option Plan) (x : List ℕ). first_of (lines_of o (lacks_bytes (length m)) t x)) (state_some m s) whole_body

  -- one of its own checks refuses
  pub known_refused : (number : ℕ) → first_of (lines_of o (lacks_bytes (length m)) (some (plan_of m)) b) ≡ number → number ≢ 0 → Provides (calls o b) m m number
  known_refused number e h = refused (calls o b) m number (number_known ∙ e) h

  -- none does: what it makes is there
  pub known_made : (after : List ℕ) → first_of (lines_of o (lacks_bytes (length m)) (some (plan_of m)) b) ≡ 0 → after ≡ memory_of (made o (some (plan_of m)) b) m
      → Provides (calls o b) m after 0
  unfolding memory_after
  known_made after e f =
      let z : number_for (calls o b) m ≡ 0 = number_known ∙ e in
      record { number_is = sym z; memory_is = f ∙ sym (rw (z, state_some m s, whole_body)) }

-- a plan with the rooms of a memory's plan, over the front of the memory
pub rest_behind : (m : List ℕ) (q : Plan) → q.rooms ≡ (plan_of m).rooms → image q ++ rest_of m ≡ memory_of (some q) m
unfolding plan_of
rest_behind m q e = ap (λ (x : List ℕ). image q ++ drop (bytes_needed (rooms_of x)) m) (sym e)

-- BY KIND: the call of a kind that opens or edits, and of any other byte

module _ {k : ℕ} {b m after : List ℕ} {number : ℕ} where
  pub opens_kind : OPEN-PLAN ≡ k → Provides (calls open_plan b) m after number → Carries k b m after number
  unfolding is_call operation_of
  opens_kind e p = subst (λ (k : ℕ). Carries k b m after number) e (record { call = λ _. p; no_call = λ h. not_both h refl })

  pub edits_kind : (x : Edit) → number_of_edit x ≡ k → Provides (calls (edit_of x) b) m after number → Carries k b m after number
  edits_kind x e p =
      subst (λ (k : ℕ). Carries k b m after number) e (record { call = λ _. rw (edit_asked x) p; no_call = λ h. not_both h (edit_call x) })

pub no_kind : {k : ℕ} {b m : List ℕ} → is_call k ≡ false → Carries k b m m KIND
no_kind c = record { call = λ e. not_both c e; no_call = λ e. (refl, refl) }

pub other_kind : {k q : ℕ} {b m : List ℕ} → q ≡ k → is_call q ≡ false → Carries k b m m KIND
other_kind e c = no_kind (sym (ap is_call e) ∙ c)
