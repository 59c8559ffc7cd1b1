-- Demand 3 over the definitions: soundness is kept by every call, refused or accepted, and carrying a plan through the calls agrees with looking back.
use Prim.Native.Nat.{ℕ}
use mathlib.Core.Path.{◌≡◌, refl, ap, sym, subst, ◌∙◌}
use mathlib.Core.Logic.{◌↔◌, ◌⊎◌, inl, inr}
use mathlib.Core.Bool.{Bool, true, false, not}
use mathlib.Core.List.{List, [], ◌∷◌, map}
use mathlib.Core.Option.{Option, none, some}
use native.Mathlib.Omega.{arith}
use lib.ListN.{length, get_or-eq_default}
use lib.Dec.{T, eqb, leb}
use borrow.Author.Tests.{eqb-true, leb-true}
use Rattle.meaning.specs.Basics.{all, any, count, is_some}
use Rattle.std.specs.Prelude.{if◌then◌else◌}
use Rattle.meaning.specs.Refusals.{CUT, PLAN, IN-USE, Line, first_of}
use Rattle.meaning.specs.Settings.{rooms_of}
use Rattle.meaning.specs.Filters.{Filter}
use Rattle.meaning.specs.Rules.{names, set_named}
use Rattle.meaning.specs.Plan.{Plan, held, referrers, fresh}
use Rattle.meaning.specs.Reads.{over_room, listing, listed}
use Rattle.meaning.specs.Calls.{Operation, open_plan, add_set, replace_set, remove_set, add_rule, change_rule, remove_rule, Call, is_cut, body_of, opened_rooms, opened_settings, set_number, opening_lines, add_set_lines, replace_set_lines, remove_set_lines, add_rule_lines, change_rule_lines, remove_rule_lines, lines_of, refusal, made, is_accepted, after, put_in_from, put_in, refusals_from}
use Rattle.meaning.specs.LookBack.{accepted_from, accepted, opening_after, last_opening, content_after, last_content, set_after, last_set}
use Rattle.meaning.specs.History.{rising, removal, PutIn, EveryList, EveryOpenedList, ListsExactly}
use Rattle.meaning.proofs.Tests.{is_true, is_false, and_left, and_right, and_both, none_counted}
use Rattle.meaning.proofs.CallKinds.{is_opening, Asks, opens, changes, asks, plan_lines}
use Rattle.meaning.proofs.Soundness.{Sound, sound_of_lem, SoundIf, accepted_passed, accepted_sound, names_held}
use Rattle.meaning.proofs.ReadBack.{held_in, set_in, reads_back, empty_slots}
use Rattle.meaning.proofs.Listings.{rising_listed, one_list, lists_named, distinct_filters}

-- NO CALL OVER A PLAN DRAWS PLAN: none of its checks has that number

not_plan : (ls : List Line) → T (all (λ (l : Line). not (eqb l.1 PLAN)) ls) → T (not (eqb (first_of ls) PLAN))
not_plan [] t = tt
not_plan (l ∷ ls) t = go l.0 (not_plan ls (and_right (not (eqb l.1 PLAN)) (all (λ (l : Line). not (eqb l.1 PLAN)) ls) t))
  where
    go : (b : Bool) → T (not (eqb (first_of ls) PLAN)) → T (not (eqb (if b then l.1 else first_of ls) PLAN))
    go true ih = and_left (not (eqb l.1 PLAN)) (all (λ (l : Line). not (eqb l.1 PLAN)) ls) t
    go false ih = ih

numbers : (lacks : List ℕ → Bool) (p : Plan) (o : Operation) (b : List ℕ) → T (all (λ (l : Line). not (eqb l.1 PLAN)) (lines_of o lacks (some p) b))
unfolding opening_lines add_set_lines replace_set_lines remove_set_lines add_rule_lines change_rule_lines remove_rule_lines
numbers lacks p open_plan b = tt
numbers lacks p add_set b = tt
numbers lacks p replace_set b = tt
numbers lacks p remove_set b = tt
numbers lacks p add_rule b = tt
numbers lacks p change_rule b = tt
numbers lacks p remove_rule b = tt

pub never_plan : (lacks : List ℕ → Bool) (p : Plan) (c : Call) → T (not (eqb (refusal lacks (some p) c) PLAN))
unfolding refusal
never_plan lacks p c = not_plan ((is_cut c, CUT) ∷ lines_of c.operation lacks (some p) (body_of c)) (numbers lacks p c.operation (body_of c))

-- ONE CALL

-- what was put in agrees with looking back over the accepted calls, the newest first
record Agrees (p : Plan) (past : List Call) : Type 0 where
  is_sound : Sound p
  opening : List ℕ
  opened : last_opening past ≡ some opening
  rooms : p.rooms ≡ opened_rooms opening
  settings : p.settings ≡ opened_settings opening
  sets : (n : ℕ) → held p n ≡ last_content n past
  filters : (f : Filter) → set_named f p.rules ≡ last_set f past

-- a refused call changes nothing
after_refused : (lacks : List ℕ → Bool) (s : Option Plan) (c : Call) → is_accepted lacks s c ≡ false → after lacks s c ≡ s
unfolding after
after_refused lacks s c e = rw e

-- where nothing is in, no call but an opening is accepted
refused_none : (lacks : List ℕ → Bool) (o : Operation) (b : List ℕ) → is_opening o ≡ false → refusal lacks none (record { operation = o; body = b }) ≡ 0 → ⊥
refused_none lacks o b e q =
    omega (arith, (accepted_passed lacks none (record { operation = o; body = b }) q).checks, plan_lines o lacks (body_of (record { operation = o; body = b })) e)

-- the opening in force after an accepted call
record Opened (p : Plan) (o : Operation) (b : List ℕ) (before : Option (List ℕ)) : Type 0 where
  opening : List ℕ
  opened : opening_after o b before ≡ some opening
  rooms : p.rooms ≡ opened_rooms opening
  settings : p.settings ≡ opened_settings opening

module _ (p : Plan) (b opening : List ℕ) (before : Option (List ℕ)) (e : before ≡ some opening) (r : p.rooms ≡ opened_rooms opening)
    (s : p.settings ≡ opened_settings opening) where
  opened_after_lem : (o : Operation) → (q : Plan) × (made o (some p) b ≡ some q) × Opened q o b before
  unfolding fresh
  opened_after_lem o = go (asks o)
    where
      go : {o : Operation} → Asks o → (q : Plan) × (made o (some p) b ≡ some q) × Opened q o b before
      go opens = (_, refl, record { opening = b; opened = refl; rooms = refl; settings = refl })
      go (changes c) = (
        c.change b p,
        c.made_is (some p) b,
        record { opening = opening; opened = c.opening_stays b before ∙ e; rooms = c.rooms_stay b p ∙ r; settings = c.settings_stay b p ∙ s },
      )

-- an accepted call keeps the agreement
accept : (lacks : List ℕ → Bool) (p : Plan) (past : List Call) (c : Call) → Agrees p past → refusal lacks (some p) c ≡ 0
    → (q : Plan) × (made c.operation (some p) (body_of c) ≡ some q) × Agrees q (c ∷ past)
accept lacks p past c a e =
    let t = opened_after_lem p (body_of c) a.opening (last_opening past) a.opened a.rooms a.settings c.operation in
    let q : Plan = t.0 in
    let is : made c.operation (some p) (body_of c) ≡ some q = t.1 in
    let back = reads_back lacks p c a.is_sound e in (
      q,
      is,
      record {
        is_sound = subst SoundIf is (accepted_sound lacks (some p) c a.is_sound e);
        opening = t.2.opening;
        opened = t.2.opened;
        rooms = t.2.rooms;
        settings = t.2.settings;
        sets = λ n. sym (ap (λ (s : Option Plan). held_in s n) is) ∙ (back.sets n ∙ ap (content_after c.operation (body_of c) n) (a.sets n));
        filters = λ f. sym (ap (λ (s : Option Plan). set_in s f) is) ∙ (back.filters f ∙ ap (set_after c.operation (body_of c) f) (a.filters f));
      },
    )

-- ANY CALLS OVER A SOUND PLAN

record Reached (lacks : List ℕ → Bool) (p : Plan) (past cs : List Call) : Type 0 where
  plan : Plan
  carried : put_in_from lacks (some p) cs ≡ some plan
  agrees : Agrees plan (accepted_from lacks (some p) past cs)
  unplanned : T (all (λ (r : ℕ). not (eqb r PLAN)) (refusals_from lacks (some p) cs))

step : (lacks : List ℕ → Bool) (p : Plan) (past : List Call) (c : Call) → Agrees p past
    → (q : Plan) × (after lacks (some p) c ≡ some q) × Agrees q (if is_accepted lacks (some p) c then c ∷ past else past)
unfolding after
step lacks p past c a = go (is_accepted lacks (some p) c) refl
  where
    go : (t : Bool) → is_accepted lacks (some p) c ≡ t
        → (q : Plan) × ((if t then made c.operation (some p) (body_of c) else some p) ≡ some q) × Agrees q (if t then c ∷ past else past)
    go true e = accept lacks p past c a (eqb-true (refusal lacks (some p) c) 0 e)
    go false e = (p, refl, a)

reach : (lacks : List ℕ → Bool) (p : Plan) (past cs : List Call) → Agrees p past → Reached lacks p past cs
reach lacks p past [] a = record { plan = p; carried = refl; agrees = a; unplanned = tt }
reach lacks p past (c ∷ cs) a =
    let one = step lacks p past c a in
    let rest = reach lacks one.0 (if is_accepted lacks (some p) c then c ∷ past else past) cs one.2 in
    record {
      plan = rest.plan;
      carried = rw one.1 rest.carried;
      agrees = rw one.1 rest.agrees;
      unplanned = and_both (not (eqb (refusal lacks (some p) c) PLAN)) (all (λ (r : ℕ). not (eqb r PLAN)) (refusals_from lacks (after lacks (some p) c) cs))
          (never_plan lacks p c) (rw one.1 rest.unplanned);
    }

-- REMOVING A HELD SET

pub held_below : (p : Plan) (n : ℕ) → Sound p → T (is_some (held p n)) → over_room p n ≡ false
held_below p n s t = rw (← s.room) (go (leb (length p.slots) n) refl)
  where
    go : (b : Bool) → leb (length p.slots) n ≡ b → leb (length p.slots) n ≡ false
    go true e = absurd (rw (get_or-eq_default p.slots none (leb-true (length p.slots) n e)) at t)
    go false e = e

pub removable : (lacks : List ℕ → Bool) (p : Plan) → Sound p → (b : List ℕ) → T (not (is_cut (removal b))) → T (is_some (held p (set_number (body_of (removal b)))))
    → ((refusal lacks (some p) (removal b) ≡ 0) ↔ (referrers p (set_number (body_of (removal b))) ≡ 0))
    × ((refusal lacks (some p) (removal b) ≡ 0) ⊎ (refusal lacks (some p) (removal b) ≡ IN-USE))
unfolding refusal remove_set_lines referrers
removable lacks p s b u t =
    let n : ℕ = set_number (body_of (removal b)) in
    rw (is_false (is_cut (removal b)) u, held_below p n s t, is_true (is_some (held p n)) t)
    (go (any (names n) p.rules) (none_counted (names n) p.rules))
  where
    go : (c : Bool) → (c ≡ false) ↔ (count (names (set_number (body_of (removal b)))) p.rules ≡ 0)
        → ((◌≡◌ {A = ℕ} (if c then IN-USE else 0) 0) ↔ (count (names (set_number (body_of (removal b)))) p.rules ≡ 0))
        × ((◌≡◌ {A = ℕ} (if c then IN-USE else 0) 0) ⊎ (◌≡◌ {A = ℕ} (if c then IN-USE else 0) IN-USE))
    go true ih = ((λ e. absurd (omega (arith, e)), λ e. let z : true ≡ false = ih.1 e in cc), inr refl)
    go false ih = ((λ e. ih.0 refl, λ e. refl), inl refl)

-- EVERY LIST

-- what agrees with the calls looked back on is as the claim says
agreed : (lacks : List ℕ → Bool) (cs : List Call) (p : Plan) → put_in lacks cs ≡ some p → Agrees p (accepted lacks cs) → PutIn lacks cs
unfolding listing
agreed lacks cs p e a =
    let s : Sound p = a.is_sound in
    let exact : ListsExactly (map listed p.rules) (λ f. set_named f p.rules) = lists_named p.rules s.order in
    let listed-rising : T (rising (map listed p.rules)) = rising_listed p.rules s.order in
    record {
      plan = p;
      carried = e;
      opening = a.opening;
      opened = a.opened;
      rooms = a.rooms;
      settings = a.settings;
      sets = a.sets;
      in_order = listed-rising;
      filters = λ f n. (λ m. sym (a.filters f) ∙ (exact f n).0 m, λ q. (exact f n).1 (a.filters f ∙ q));
      one_listing = λ ls t x. one_list ls (map listed p.rules) t listed-rising
          (λ l m. (exact l.filter l.set).1 (a.filters l.filter ∙ (x l.filter l.set).0 m))
          (λ l m. (x l.filter l.set).1 (sym (a.filters l.filter) ∙ (exact l.filter l.set).0 m));
      is_sound = sound_of_lem p s;
      distinct = distinct_filters p.rules s.order;
      names_held = names_held p s;
      removable = removable lacks p s;
    }

-- the first accepted call is an opening
first : (lacks : List ℕ → Bool) (o : Operation) (b : List ℕ) → refusal lacks none (record { operation = o; body = b }) ≡ 0
    → (p : Plan) × (made o none (body_of (record { operation = o; body = b })) ≡ some p) × Agrees p (record { operation = o; body = b } ∷ [])
unfolding fresh refusal
first lacks o b e = go (asks o) e
  where
    go : {o : Operation} → Asks o → refusal lacks none (record { operation = o; body = b }) ≡ 0
        → (p : Plan) × (made o none (body_of (record { operation = o; body = b })) ≡ some p) × Agrees p (record { operation = o; body = b } ∷ [])
    go opens e =
        let c : Call = record { operation = open_plan; body = b } in (
          _,
          refl,
          record {
            is_sound = accepted_sound lacks none c tt e;
            opening = body_of c;
            opened = refl;
            rooms = refl;
            settings = refl;
            sets = λ n. empty_slots (rooms_of (opened_rooms (body_of c))).sets n;
            filters = λ f. refl;
          },
        )
    go {o} (changes c) e = absurd (refused_none lacks o b c.other e)

after_first : (lacks : List ℕ → Bool) (c : Call) → refusal lacks none c ≡ 0 → (p : Plan) × (after lacks none c ≡ some p) × Agrees p (c ∷ [])
unfolding after
after_first lacks c e = let f = first lacks c.operation c.body e in (f.0, rw e f.1, f.2)

from_none : (lacks : List ℕ → Bool) (cs : List Call)
    → ((put_in lacks cs ≡ none) × (accepted lacks cs ≡ [])) ⊎ ((p : Plan) × (put_in lacks cs ≡ some p) × Agrees p (accepted lacks cs))
from_none lacks [] = inl (refl, refl)
from_none lacks (c ∷ cs) = go (is_accepted lacks none c) refl (from_none lacks cs)
  where
    go : (t : Bool) → is_accepted lacks none c ≡ t
        → ((put_in lacks cs ≡ none) × (accepted lacks cs ≡ [])) ⊎ ((p : Plan) × (put_in lacks cs ≡ some p) × Agrees p (accepted lacks cs))
        → ((put_in lacks (c ∷ cs) ≡ none) × (accepted lacks (c ∷ cs) ≡ [])) ⊎ ((p : Plan) × (put_in lacks (c ∷ cs) ≡ some p) × Agrees p (accepted lacks (c ∷ cs)))
    go true e ih =
        let f = after_first lacks c (eqb-true (refusal lacks none c) 0 e) in
        let r = reach lacks f.0 (c ∷ []) cs f.2 in
        inr (r.plan, rw f.1 r.carried, rw (f.1, e) r.agrees)
    go false e ih = rw (stays e, e) ih
      where
        stays : is_accepted lacks none c ≡ false → after lacks none c ≡ none
        stays q = after_refused lacks none c q

pub every_list : EveryList
every_list lacks cs = go (from_none lacks cs)
  where
    go : ((put_in lacks cs ≡ none) × (accepted lacks cs ≡ [])) ⊎ ((p : Plan) × (put_in lacks cs ≡ some p) × Agrees p (accepted lacks cs))
        → ((put_in lacks cs ≡ none) × (accepted lacks cs ≡ [])) ⊎ PutIn lacks cs
    go (inl t) = inl t
    go (inr t) = inr (agreed lacks cs t.0 t.1 t.2)

pub every_opened_list : EveryOpenedList
every_opened_list lacks b cs e =
    let c : Call = record { operation = open_plan; body = b } in
    let f = after_first lacks c e in
    let r = reach lacks f.0 (c ∷ []) cs f.2 in
    record {
      put_in_lem = agreed lacks (c ∷ cs) r.plan (rw f.1 r.carried) (rw (f.1, e) r.agrees);
      never_plan = rw (f.1, e) r.unplanned;
    }
