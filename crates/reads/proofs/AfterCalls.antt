-- After each accepted call over any sound memory, a set's content and the count of its rules read as the body says, every other set as before.
use Prim.Native.Nat.{ℕ, zero, suc, ◌+◌, ◌-◌, ◌<◌}
use mathlib.Core.Path.{◌≡◌, refl, ap, ap₂, sym, subst, ◌∙◌}
use mathlib.Core.Bool.{Bool, true, false, ◌&&◌, true≢false}
use mathlib.Core.List.{List, [], ◌∷◌}
use mathlib.Core.Option.{Option, none, some}
use native.Mathlib.Omega.{arith}
use native.Mathlib.Nat.{le_of_suc-le-suc}
use lib.ListN.{length, get_or, set}
use lib.Dec.{T}
use Rattle.meaning.specs.Basics.{any, count, is_some}
use Rattle.std.specs.Prelude.{if◌then◌else◌}
use Rattle.meaning.specs.Refusals.{first_of}
use Rattle.meaning.specs.Filters.{Filter, filter_of, is_before}
use Rattle.meaning.specs.Rules.{Rule, filter_in, names, has_filter, set_named, rules_in_order, insert, rename, without}
use Rattle.meaning.specs.Plan.{Plan, rooms_in, held, referrers, fresh, with_slot, with_rules}
use Rattle.meaning.specs.Reads.{Read, set_content, referrer_count}
use Rattle.meaning.specs.Calls.{Operation, open_plan, add_set, replace_set, remove_set, add_rule, change_rule, remove_rule, Call, body_of, code_given, set_given, rule_given, holds_filter, change_rule_lines, remove_rule_lines, lacks_bytes, lines_of, refusal, made, after}
use Rattle.meaning.specs.LookBack.{content_after, set_after}
use Rattle.meaning.specs.History.{no_rule}
use Rattle.meaning.proofs.Tests.{is_true, and_left, not_not, passed_at}
use Rattle.meaning.proofs.Soundness.{Sound, accepted_passed}
use Rattle.meaning.proofs.ReadBack.{held_in, set_in, reads_back}
use Rattle.buffer.specs.Slots.{remove_at}
use Rattle.filter.specs.Place.{Place, held as held_at, absent as absentAt, filter_place}
use Rattle.filter.proofs.PlaceLaws.{HeldAt, absent_at, held_at_lem}
use Rattle.plan.specs.State.{state_of}
use Rattle.changes.specs.Promise.{Provides}
use Rattle.changes.proofs.Chains.{HoldsIf, state_holds, after_call}
use Rattle.reads.specs.Promises.{GivesRead}
use Rattle.reads.specs.AfterCalls.{content_read, count_read, room_after, names_it, named_after, old_set, is_about, ReadsAfter}

-- COUNTS OF RULES

abbrev one : Bool → ℕ
one b = if b then 1 else 0

count_insert : (p : Rule → Bool) (r : Rule) (rs : List Rule) → count p (insert r rs) ≡ count p rs + one (p r)
count_insert p r [] = omega arith
count_insert p r (s ∷ rs) = go (is_before (filter_in r) (filter_in s)) (count_insert p r rs)
  where
    go : (b : Bool) → count p (insert r rs) ≡ count p rs + one (p r) → count p (if b then r ∷ s ∷ rs else s ∷ insert r rs) ≡ one (p s) + count p rs + one (p r)
    go true ih = omega arith
    go false ih = omega (arith, ih)

count_removed : (p : Rule → Bool) (rs : List Rule) (k : ℕ) → k < length rs → count p (remove_at k rs) + one (p (get_or rs k no_rule)) ≡ count p rs
count_removed p [] k h = absurd (omega (arith, h))
count_removed p (r ∷ rs) zero h = omega arith
count_removed p (r ∷ rs) (suc k) h = omega (arith, count_removed p rs k (le_of_suc-le-suc h))

count_set : (p : Rule → Bool) (rs : List Rule) (k : ℕ) (r : Rule) → k < length rs → count p (set rs k r) + one (p (get_or rs k no_rule)) ≡ count p rs + one (p r)
count_set p [] k r h = absurd (omega (arith, h))
count_set p (s ∷ rs) zero r h = omega arith
count_set p (s ∷ rs) (suc k) r h = omega (arith, count_set p rs k r (le_of_suc-le-suc h))

-- a filter that some rule has, in order
placed : (f : Filter) (rs : List Rule) → T (rules_in_order rs) → T (any (has_filter f) rs) → (k : ℕ) × HeldAt f rs k
placed f rs order t = go (filter_place f rs) refl
  where
    go : (p : Place) → filter_place f rs ≡ p → (k : ℕ) × HeldAt f rs k
    go (held_at k) e = (k, held_at_lem f rs k order e)
    go (absentAt k) e = absurd (let z : true ≡ false = sym (is_true (any (has_filter f) rs) t) ∙ (absent_at f rs k order e).none_has in true≢false z)

module _ (f : Filter) (rs : List Rule) (k n : ℕ) (h : HeldAt f rs k) where
  count_without : count (names n) (without f rs) ≡ count (names n) rs - names_it n (set_named f rs)
  count_without = rw (h.removed, h.named) (omega (arith, count_removed (names n) rs k h.within))

  count_rename : (s : ℕ) → count (names n) (rename f s rs) ≡ count (names n) rs + names_it n (some s) - names_it n (set_named f rs)
  count_rename s = rw (h.renamed s, h.named) (omega (arith, count_set (names n) rs k (record { code = (get_or rs k no_rule).code; set = s }) h.within))

-- THE COUNT AFTER A CALL

abbrev count_in : Option Plan → ℕ → ℕ
count_in none n = 0
count_in (some p) n = referrers p n

module _ (p : Plan) (b : List ℕ) (n : ℕ) (s : Sound p) where
  count_after_lem : (o : Operation) (lacks : List ℕ → Bool) → first_of (lines_of o lacks (some p) b) ≡ 0
      → count_in (made o (some p) b) n ≡ named_after o b n (old_set p b) (referrers p n)
  unfolding referrers fresh with_slot with_rules change_rule_lines remove_rule_lines
  count_after_lem open_plan lacks e = refl
  count_after_lem add_set lacks e = refl
  count_after_lem replace_set lacks e = refl
  count_after_lem remove_set lacks e = refl
  count_after_lem add_rule lacks e = count_insert (names n) (rule_given b) p.rules
  count_after_lem change_rule lacks e =
      let there : T (holds_filter p (code_given b)) =
      and_left (holds_filter p (code_given b)) (is_some (held p (set_given b)))
      (not_not (holds_filter p (code_given b) && is_some (held p (set_given b))) (passed_at 1 (change_rule_lines p b) tt e)) in
      let at = placed (filter_of (code_given b)) p.rules s.order there in
      count_rename (filter_of (code_given b)) p.rules at.0 n at.1 (set_given b)
  count_after_lem remove_rule lacks e =
      let there : T (holds_filter p (code_given b)) = not_not (holds_filter p (code_given b)) (passed_at 1 (remove_rule_lines p b) tt e) in
      let at = placed (filter_of (code_given b)) p.rules s.order there in
      count_without (filter_of (code_given b)) p.rules at.0 n at.1

-- WHAT IS MADE READS AS THE ROOM, THE CONTENT AND THE COUNT SAY

module _ (p : Plan) (b : List ℕ) (n : ℕ) where
  content_made : (o : Operation) (size : ℕ) → set_content (made o (some p) b) size n ≡ content_read (room_after o b p.rooms) size n (held_in (made o (some p) b) n)
  unfolding fresh with_slot with_rules
  content_made open_plan size = refl
  content_made add_set size = refl
  content_made replace_set size = refl
  content_made remove_set size = refl
  content_made add_rule size = refl
  content_made change_rule size = refl
  content_made remove_rule size = refl

  count_made : (o : Operation) → referrer_count (made o (some p) b) n ≡ count_read (room_after o b p.rooms) n (held_in (made o (some p) b) n) (count_in (made o (some p) b) n)
  unfolding fresh with_slot with_rules
  count_made open_plan = refl
  count_made add_set = refl
  count_made replace_set = refl
  count_made remove_set = refl
  count_made add_rule = refl
  count_made change_rule = refl
  count_made remove_rule = refl

  -- a call that is not about the set
  other_room : (o : Operation) → is_about o b n ≡ false → room_after o b p.rooms ≡ (rooms_in p).sets
  other_room open_plan e = cc
  other_room add_set e = refl
  other_room replace_set e = refl
  other_room remove_set e = refl
  other_room add_rule e = refl
  other_room change_rule e = refl
  other_room remove_rule e = refl

  other_held : (o : Operation) → is_about o b n ≡ false → content_after o b n (held p n) ≡ held p n
  other_held open_plan e = cc
  other_held add_set e = rw e
  other_held replace_set e = rw e
  other_held remove_set e = rw e
  other_held add_rule e = refl
  other_held change_rule e = refl
  other_held remove_rule e = refl

  other_named : (o : Operation) → is_about o b n ≡ false → names_it n (some (set_given b)) ≡ 0 → names_it n (old_set p b) ≡ 0
      → named_after o b n (old_set p b) (referrers p n) ≡ referrers p n
  other_named open_plan e g h = cc
  other_named add_set e g h = refl
  other_named replace_set e g h = refl
  other_named remove_set e g h = refl
  other_named add_rule e g h = omega (arith, g)
  other_named change_rule e g h = omega (arith, g, h)
  other_named remove_rule e g h = omega (arith, h)

-- THE THEOREM

module _ (c : Call) (m end : List ℕ) (p : Plan) (is : state_of m ≡ some p) (promise : Provides c m end 0) where
  accepted : refusal (lacks_bytes (length m)) (some p) c ≡ 0
  accepted = sym (promise.number_is ∙ ap (λ (s : Option Plan). refusal (lacks_bytes (length m)) s c) is)

  is_sound : Sound p
  is_sound = (subst (HoldsIf (length m)) is (state_holds m)).is_sound

  state_made : state_of end ≡ made c.operation (some p) (body_of c)
  unfolding after
  state_made = ap state_of promise.memory_is ∙ ((after_call c m).state ∙ rw (is, accepted))

  content_is : (n size : ℕ) → set_content (state_of end) size n ≡ content_read (room_after c.operation (body_of c) p.rooms) size n (content_after c.operation (body_of c) n (held p n))
  content_is n size =
      ap (λ (s : Option Plan). set_content s size n) state_made
      ∙ (content_made p (body_of c) n c.operation size
      ∙ ap (content_read (room_after c.operation (body_of c) p.rooms) size n) ((reads_back (lacks_bytes (length m)) p c is_sound accepted).sets n))

  count_is : (n : ℕ) → referrer_count (state_of end) n
      ≡ count_read (room_after c.operation (body_of c) p.rooms) n (content_after c.operation (body_of c) n (held p n))
      (named_after c.operation (body_of c) n (old_set p (body_of c)) (referrers p n))
  count_is n =
      ap (λ (s : Option Plan). referrer_count s n) state_made
      ∙ (count_made p (body_of c) n c.operation
      ∙ ap₂ (count_read (room_after c.operation (body_of c) p.rooms) n) ((reads_back (lacks_bytes (length m)) p c is_sound accepted).sets n)
      (count_after_lem p (body_of c) n is_sound c.operation (lacks_bytes (length m)) (accepted_passed (lacks_bytes (length m)) (some p) c accepted).checks))

  before_content : (n size : ℕ) → is_about c.operation (body_of c) n ≡ false → set_content (state_of end) size n ≡ set_content (state_of m) size n
  before_content n size e =
      content_is n size ∙ (ap₂ (λ room (o : Option (List ℕ)). content_read room size n o) (other_room p (body_of c) n c.operation e) (other_held p (body_of c) n c.operation e)
      ∙ sym (ap (λ (s : Option Plan). set_content s size n) is))

  before_count : (n : ℕ) → is_about c.operation (body_of c) n ≡ false → names_it n (some (set_given (body_of c))) ≡ 0 → names_it n (old_set p (body_of c)) ≡ 0
      → referrer_count (state_of end) n ≡ referrer_count (state_of m) n
  before_count n e g h =
      let room = other_room p (body_of c) n c.operation e in
      let content = other_held p (body_of c) n c.operation e in
      let number = other_named p (body_of c) n c.operation e g h in
      count_is n ∙ (rw (room, content, number) refl ∙ sym (ap (λ (s : Option Plan). referrer_count s n) is))

  pub reads_after : ReadsAfter c p m end
  reads_after =
      record {
        content = λ n out left r q. subst (λ (x : Read). GivesRead x out left r) (content_is n (length out)) q;
        referrers = λ n r q. q ∙ count_is n;
        other_content = λ n out left r e q. subst (λ (x : Read). GivesRead x out left r) (before_content n (length out) e) q;
        other_referrers = λ n r e g h q. q ∙ before_count n e g h;
      }

  -- the set that a filter's rule names: by the body for the body's filter, and every other filter as before
  pub filters_after : (f : Filter) → set_in (state_of end) f ≡ set_after c.operation (body_of c) f (set_named f p.rules)
  filters_after f = ap (λ (s : Option Plan). set_in s f) state_made ∙ (reads_back (lacks_bytes (length m)) p c is_sound accepted).filters f
