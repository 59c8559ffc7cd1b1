-- What a comparison gives, by what was counted and written; and, from its promise alone, when it is refused with ROOM.
use Prim.Native.Nat.{ℕ, ◌*◌, ◌≤◌, ◌<◌}
use mathlib.Core.Path.{◌≡◌, refl, ap, sym, subst, ◌∙◌}
use mathlib.Core.Bool.{Bool, true, false}
use mathlib.Core.List.{List, [], ◌∷◌, map}
use mathlib.Core.Option.{Option, none, some, some-injective}
use native.Mathlib.Omega.{arith}
use lib.ListN.{length, length-map}
use lib.Dec.{T, ltb}
use borrow.Author.Tests.{lt-ltb, le-ltb, ltb-true}
use Rattle.meaning.specs.Sizes.{DIFFERENCE-BYTES}
use Rattle.meaning.specs.Basics.{all, written_over}
use Rattle.std.specs.Prelude.{if◌then◌else◌}
use Rattle.meaning.specs.Refusals.{PLAN, ROOM}
use Rattle.meaning.specs.Rules.{Rule}
use Rattle.meaning.specs.Plan.{Plan, code_passes, codes_pass}
use Rattle.meaning.specs.Reads.{Count}
use Rattle.meaning.specs.Compare.{LEFT-ONLY, RIGHT-ONLY, IN-BOTH, NO-SET, merge, entry, differences, difference_bytes, Comparison, count_in, uncompared, comparison}
use Rattle.meaning.specs.Answers.{count_of}
use Rattle.meaning.specs.declared.Refusal.TheVariants.{Plan as NoPlan, Room}
use Rattle.meaning.specs.declared.Refusal.{Refusal}
use Rattle.std.specs.Prelude.{Result, Ok, Err}
use Rattle.meaning.proofs.Tests.{and_left, and_right}
use Rattle.meaning.proofs.Soundness.{Sound, sound_parts}
use Rattle.meaning.proofs.Merged.{by_order}
use Rattle.buffer.specs.Slots.{flat, Wide}
use Rattle.buffer.proofs.SlotLaws.{length_flat}
use Rattle.plan.specs.Layout.{plan_of}
use Rattle.plan.specs.State.{sound_of, state_of}
use Rattle.plan.specs.declared.SoundPlan.{SoundPlan}
use Rattle.plan.proofs.ImageLaws.{state_some, state_none, code_size}
use Rattle.plan.proofs.ReadLaws.{sound_is}
use Rattle.compare.specs.Steps.{entries_from, CountsEntries}
use Rattle.compare.specs.Promises.{GivesComparison, ComparePromise}
use Rattle.compare.specs.Alike.{EntriesWide, RoomExactly}
use Rattle.compare.proofs.Entries.{entry_long}

-- "An entry is 24 bytes": every one that is listed of two sound plans
module _ (p q : Plan) where
  abbrev passes : Rule → Bool
  passes r = code_passes r.code

  long : (r : Rule) (rs : List Rule) → T (all passes (r ∷ rs)) → (kind left right : ℕ) → length (entry kind r.code left right) ≡ DIFFERENCE-BYTES
  long r rs t kind left right = entry_long kind r.code left right (code_size r.code (and_left (passes r) (all passes rs) t))

  wide_merge : (xs ys : List Rule) → T (all passes xs) → T (all passes ys) → Wide DIFFERENCE-BYTES (map difference_bytes (merge p q xs ys))
  wide_merge [] [] s t = tt
  wide_merge [] (y ∷ ys) s t = (long y ys t RIGHT-ONLY NO-SET y.set, wide_merge [] ys tt (and_right (passes y) (all passes ys) t))
  wide_merge (x ∷ xs) [] s t = (long x xs s LEFT-ONLY x.set NO-SET, wide_merge xs [] (and_right (passes x) (all passes xs) s) tt)
  wide_merge (x ∷ xs) (y ∷ ys) s t =
      let s' = and_right (passes x) (all passes xs) s in
      let t' = and_right (passes y) (all passes ys) t in
      by_order p q x y xs ys (λ o b ds. Wide DIFFERENCE-BYTES (map difference_bytes ds))
      (λ b. (long x xs s LEFT-ONLY x.set NO-SET, wide_merge xs (y ∷ ys) s' t))
      (long x xs s IN-BOTH x.set y.set, wide_merge xs ys s' t')
      (wide_merge xs ys s' t')
      (λ b. (long y ys t RIGHT-ONLY NO-SET y.set, wide_merge (x ∷ xs) ys s t'))

  all_wide : Sound p → Sound q → Wide DIFFERENCE-BYTES (map difference_bytes (differences p q))
  unfolding differences codes_pass
  all_wide s t = wide_merge p.rules q.rules s.codes t.codes

  -- as many bytes as entries of that width have
  bytes_needed_lem : Sound p → Sound q → length (flat (map difference_bytes (differences p q))) ≡ DIFFERENCE-BYTES * length (differences p q)
  bytes_needed_lem s t =
      length_flat DIFFERENCE-BYTES (map difference_bytes (differences p q)) (all_wide s t) ∙ ap (λ n. DIFFERENCE-BYTES * n) (length-map (differences p q) difference_bytes)

  -- the entries from the first places on are those of all differences
  all_entries : entries_from p q 0 0 ≡ map difference_bytes (differences p q)
  unfolding differences
  all_entries = refl

  all_counted : (n : ℕ) → CountsEntries p q n → n ≡ length (differences p q)
  all_counted n m = m.is ∙ (ap length all_entries ∙ length-map (differences p q) difference_bytes)

-- OVER SOUND PLANS

module _ (left right out : List ℕ) (left-sound : sound_of left ≡ true) (right-sound : sound_of right ≡ true) where
  abbrev p : Plan
  p = plan_of left

  abbrev q : Plan
  q = plan_of right

  all_bytes : length (flat (entries_from p q 0 0)) ≡ DIFFERENCE-BYTES * length (differences p q)
  all_bytes =
      ap (λ (es : List (List ℕ)). length (flat es)) (all_entries p q)
      ∙ bytes_needed_lem p q (sound_is left left-sound).plan (sound_is right right-sound).plan

  module _ (n : ℕ) (many : CountsEntries p q n) where
    pub no_room : length out < DIFFERENCE-BYTES * n → GivesComparison (comparison (some p) (some q) (length out)) out out (Err Room)
    no_room h =
        let less : length out < DIFFERENCE-BYTES * length (differences p q) = omega (arith, h, all_counted p q n many) in
        let is : uncompared ROOM ≡ comparison (some p) (some q) (length out) = rw (lt-ltb (length out) (DIFFERENCE-BYTES * length (differences p q)) less) in
        record { result = ap count_in is; buffer = ap (λ (c : Comparison). written_over (flat c.entries) out) is }

    module _ (h : DIFFERENCE-BYTES * n ≤ length out) where
      pub all_fit : length (flat (entries_from p q 0 0)) ≤ length out
      all_fit = omega (arith, h, all_bytes, all_counted p q n many)

      pub all_written : (after : List ℕ) → after ≡ written_over (flat (entries_from p q 0 0)) out
          → GivesComparison (comparison (some p) (some q) (length out)) out after (Ok n)
      all_written after written =
          let enough : DIFFERENCE-BYTES * length (differences p q) ≤ length out = omega (arith, h, all_counted p q n many) in
          let is : record { refusal = 0; entries = map difference_bytes (differences p q) } ≡ comparison (some p) (some q) (length out) =
          rw (le-ltb (length out) (DIFFERENCE-BYTES * length (differences p q)) enough) in
          record {
            result = ap (λ (k : ℕ). record { refusal = 0; number = k }) (many.is ∙ ap length (all_entries p q)) ∙ ap count_in is;
            buffer = written ∙ (ap (λ (es : List (List ℕ)). written_over (flat es) out) (all_entries p q) ∙ ap (λ (c : Comparison). written_over (flat c.entries) out) is);
          }

-- THE CALL

module _ (left right out : List ℕ) where
  plan_refused : (f : Refusal) → f ≡ NoPlan → comparison (state_of left) (state_of right) (length out) ≡ uncompared PLAN → ComparePromise left right out out (Err f)
  plan_refused f q is = rw q (record { result = ap count_in (sym is); buffer = ap (λ (c : Comparison). written_over (flat c.entries) out) (sym is) })

  pub left_unsound : (f : Refusal) → f ≡ NoPlan → sound_of left ≡ false → ComparePromise left right out out (Err f)
  left_unsound f q e = plan_refused f q (rw (state_none left e))

  module _ (l : SoundPlan) (same : l.memory.now ≡ left) where
    left-state : state_of left ≡ some (plan_of left)
    left-state = rw (← same) (state_some l.memory.now l.sound)

    pub right_unsound : (f : Refusal) → f ≡ NoPlan → sound_of right ≡ false → ComparePromise left right out out (Err f)
    right_unsound f q e = plan_refused f q (rw (left-state, state_none right e))

    pub both_sound : (r : SoundPlan) → r.memory.now ≡ right → (after : List ℕ) (n : Result ℕ Refusal)
        → GivesComparison (comparison (some (plan_of l.memory.now)) (some (plan_of r.memory.now)) (length out)) out after n → ComparePromise left right out after n
    both_sound r other after n g = rw (← same, ← other, state_some l.memory.now l.sound, state_some r.memory.now r.sound) g

-- FROM THE PROMISE

pub entries_wide : EntriesWide
entries_wide p q s t = all_wide p q (sound_parts p s) (sound_parts q t)

-- the plan of a memory is sound
state_sound : (m : List ℕ) (p : Plan) → state_of m ≡ some p → Sound p
state_sound m p e = go (sound_of m) refl
  where
    go : (b : Bool) → sound_of m ≡ b → Sound p
    go true q = subst Sound (some-injective (plan_of m) p (sym (state_some m q) ∙ e)) (sound_is m q).plan
    go false q = let z : none ≡ some p = sym (state_none m q) ∙ e in absurd (let y : ◌≡◌ {A = ℕ} 0 1 = cc in omega arith)

pub room_exactly : RoomExactly
room_exactly left right out after r p q s t promise =
    (λ e. rw bytes (refused (ltb (length out) need) refl (sym given ∙ e)), λ h. given ∙ rw (lt-ltb (length out) need (rw bytes at h)))
  where
    need : ℕ
    need = DIFFERENCE-BYTES * length (differences p q)

    bytes : length (flat (map difference_bytes (differences p q))) ≡ need
    bytes = bytes_needed_lem p q (state_sound left p s) (state_sound right q t)

    given : (count_of r).refusal ≡ (comparison (some p) (some q) (length out)).refusal
    given =
        ap (λ (c : Count). c.refusal) promise.result
        ∙ (ap (λ (x : Option Plan). (comparison x (state_of right) (length out)).refusal) s ∙ ap (λ (x : Option Plan). (comparison (some p) x (length out)).refusal) t)

    refused : (b : Bool) → ltb (length out) need ≡ b → (if b then uncompared ROOM else record { refusal = 0; entries = map difference_bytes (differences p q) }).refusal ≡ ROOM → length out < need
    refused true e k = ltb-true (length out) need e
    refused false e k = absurd (omega (arith, k))
