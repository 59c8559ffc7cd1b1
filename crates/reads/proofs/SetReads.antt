-- What a set's content and the count of its rules give, check by check.
use Prim.Native.Nat.{ℕ, ◌/◌, ◌%◌, ◌≤◌, ◌<◌}
use mathlib.Core.Path.{◌≡◌, refl, ap, sym, ◌∙◌}
use mathlib.Core.Bool.{false}
use mathlib.Core.List.{List, [], ◌∷◌, append-nil}
use mathlib.Core.Option.{some}
use native.Mathlib.Omega.{arith}
use lib.ListN.{length, take, drop}
use lib.Seq.{length-take-le, drop-length}
use Rattle.std.specs.Prelude.{Result, Ok, Err}
use borrow.Author.Tests.{lt-ltb, le-ltb}
use borrow.Rule.Slice.PartMut.{put_mid, mid_of}
use Rattle.meaning.specs.Sizes.{SET-NUMBER-BYTES, CONTENT-BYTES, SET-BODY}
use Rattle.meaning.specs.Basics.{written_over}
use Rattle.meaning.specs.Plan.{Plan, held}
use Rattle.meaning.specs.Reads.{over_room, set_content, referrer_count}
use Rattle.meaning.specs.declared.Refusal.TheVariants.{Plan as NoPlan, Room}
use Rattle.meaning.specs.declared.Refusal.{Refusal}
use Rattle.buffer.specs.Bytes.{with_word}
use Rattle.plan.specs.Layout.{plan_of}
use Rattle.plan.specs.State.{sound_of, state_of}
use Rattle.plan.specs.declared.SoundPlan.{SoundPlan}
use Rattle.plan.proofs.ImageLaws.{state_some, state_none}
use Rattle.reads.specs.Promises.{GivesRead, ContentPromise, ReferrersPromise}

-- A SET'S CONTENT

module _ (m : List ℕ) (n : ℕ) (out : List ℕ) where
  pub content_plan : (f : Refusal) → f ≡ NoPlan → sound_of m ≡ false → ContentPromise m n out out (Err f)
  content_plan f q e = rw (q, state_none m e) (record { result = record { refusal = refl; bytes = refl }; buffer = refl })

  module _ (p : SoundPlan) (same : p.memory.now ≡ m) where
    pub content_room : length out < SET-BODY → ContentPromise m n out out (Err Room)
    content_room h = rw (← same, state_some p.memory.now p.sound, lt-ltb (length out) SET-BODY h) (record { result = record { refusal = refl; bytes = refl }; buffer = refl })

    pub content_known : (after : List ℕ) (r : Result ℕ Refusal) → GivesRead (set_content (some (plan_of p.memory.now)) (length out) n) out after r
        → ContentPromise m n out after r
    content_known after r g = rw (← same, state_some p.memory.now p.sound) g

-- a set that is held: its number, and its content behind it
pub content_given_lem : (p : Plan) (n : ℕ) (out : List ℕ) → SET-BODY ≤ length out → (content after : List ℕ) → over_room p n ≡ false → held p n ≡ some content
    → length content ≡ CONTENT-BYTES → after ≡ written_over (n / 256 ∷ n % 256 ∷ content) out → GivesRead (set_content (some p) (length out) n) out after (Ok SET-BODY)
content_given_lem p n out room content after o is size written =
    rw (le-ltb (length out) SET-BODY room, o, is) (record { result = record { refusal = refl; bytes = rw size }; buffer = written })

-- its number put over the first two bytes of the buffer, and its content copied behind them
pub content_written : (out put copied content : List ℕ) (n : ℕ) → length content ≡ CONTENT-BYTES → SET-BODY ≤ length out → put ≡ with_word out 0 n
    → copied ≡ written_over content (mid_of SET-NUMBER-BYTES CONTENT-BYTES put) → put_mid SET-NUMBER-BYTES CONTENT-BYTES put copied ≡ written_over (n / 256 ∷ n % 256 ∷ content) out
unfolding with_word
content_written [] put copied content n size room put_is copied_is = absurd (omega (arith, room))
content_written (x ∷ []) put copied content n size room put_is copied_is = absurd (omega (arith, room))
content_written (x ∷ y ∷ rest) put copied content n size room put_is copied_is =
    let long : length (take CONTENT-BYTES rest) ≡ CONTENT-BYTES = length-take-le CONTENT-BYTES rest (omega (arith, room)) in
    let nothing : drop CONTENT-BYTES (take CONTENT-BYTES rest) ≡ [] = ap (λ k. drop k (take CONTENT-BYTES rest)) (sym long) ∙ drop-length (take CONTENT-BYTES rest) in
    let whole : copied ≡ content = copied_is ∙ rw (put_is, size, nothing) (append-nil content) in
    rw (whole, put_is, size)

-- THE COUNT OF RULES NAMING A SET

module _ (m : List ℕ) (n : ℕ) where
  pub count_plan : (f : Refusal) → f ≡ NoPlan → sound_of m ≡ false → ReferrersPromise m n (Err f)
  count_plan f q e = rw (q, state_none m e)

  pub count_known : (p : SoundPlan) → p.memory.now ≡ m → referrer_count (some (plan_of p.memory.now)) n ≡ referrer_count (state_of m) n
  count_known p same = rw (← same, state_some p.memory.now p.sound)
