-- Every accepted call leaves a sound plan sound, and an accepted opening makes one.
use Prim.Native.Nat.{ℕ, zero, suc, ◌≤◌, ◌<◌}
use mathlib.Core.Path.{◌≡◌, refl, subst, ◌∙◌}
use mathlib.Core.Bool.{Bool, true, false, ◌&&◌, ◌||◌, not}
use mathlib.Core.List.{List, [], ◌∷◌, Memᴰ}
use mathlib.Core.Option.{Option, none, some}
use native.Mathlib.Omega.{arith}
use lib.ListN.{length, get_or, set, length-set, length-replicate}
use lib.Seq.{get_or-set_same, get_or-set_other, length-take-le}
use lib.Dec.{T, T_not, not_T, eqb, leb, eqb→eq, eqb_refl, le→leb, leb→le, nleb→lt, nltb→le}
use borrow.Author.Tests.{eqb-true, eqb-false}
use Rattle.meaning.specs.Sizes.{ROOMS-BYTES, SETTINGS-BYTES, OPENING-BYTES, SET-NUMBER-BYTES, CONTENT-BYTES, SET-BODY, FILTER-BYTES, RULE-BODY}
use Rattle.meaning.specs.Basics.{all, is_some}
use Rattle.std.specs.Prelude.{if◌then◌else◌}
use Rattle.meaning.specs.Refusals.{first_of}
use Rattle.meaning.specs.Settings.{rooms_of, rooms_in_range, settings_in_range}
use Rattle.meaning.specs.Filters.{Filter, filter_of, filter_in_range}
use Rattle.meaning.specs.Rules.{Rule, filter_in, names, rules_in_order, insert, rename, without}
use Rattle.meaning.specs.Actions.{actions_of, content_in_range}
use Rattle.meaning.specs.Groups.{groups_hold, fit}
use Rattle.meaning.specs.Plan.{Plan, rooms_in, held, fresh, with_slot, with_rules, sized, content_passes, slot_passes, code_passes, fits_held, rules_fit, codes_pass, sound_rules, sound, NamesHeld}
use Rattle.meaning.specs.Reads.{over_room}
use Rattle.meaning.specs.Calls.{Operation, open_plan, add_set, replace_set, remove_set, add_rule, change_rule, remove_rule, Call, kind_of, body_length, is_cut, body_of, opened_rooms, opened_settings, set_number, content_given, code_given, set_given, rule_given, opening_lines, add_set_lines, replace_set_lines, remove_set_lines, add_rule_lines, change_rule_lines, lines_of, refusal, made, is_accepted, after}
use Rattle.meaning.proofs.Tests.{is_false, and_left, and_right, and_both, or_left_false, or_right_false, or_use, not_not, each_all, all_at, passed_at, passed, all_weaken, all_both, none_any, all_set, all_replicate, all_mem, part_length}
use Rattle.meaning.proofs.RuleLists.{same_filter, all_insert, in_order_insert, length_insert, all_without, in_order_without, length_without, all_rename, in_order_rename, length_rename}

-- WHAT SOUND MEANS, FIELD BY FIELD

pub record Sound (p : Plan) : Type 0 where
  pub rooms_size : length p.rooms ≡ ROOMS-BYTES
  pub rooms_range : T (rooms_in_range p.rooms)
  pub settings_size : length p.settings ≡ SETTINGS-BYTES
  pub settings_range : T (settings_in_range p.settings)
  pub room : length p.slots ≡ (rooms_in p).sets
  pub pass : T (all slot_passes p.slots)
  pub few : length p.rules ≤ (rooms_in p).rules
  pub codes : T (codes_pass p.rules)
  pub order : T (rules_in_order p.rules)
  pub fits : T (rules_fit p.slots p.rules)

pub sound_of_lem : (p : Plan) → Sound p → T (sound p)
unfolding sound
sound_of_lem p s =
    let a : T (sized ROOMS-BYTES p.rooms) = rw s.rooms_size tt in
    let b : T (sized SETTINGS-BYTES p.settings) = rw s.settings_size tt in
    let c : T (eqb (length p.slots) (rooms_in p).sets) = rw s.room (eqb_refl (rooms_in p).sets) in
    let d : T (leb (length p.rules) (rooms_in p).rules) = le→leb _ _ s.few in
    each_all (sound_rules p)
    (a, (s.rooms_range, (b, (s.settings_range, (c, (s.pass, (d, (s.codes, (s.order, (s.fits, tt))))))))))

pub sound_parts : (p : Plan) → T (sound p) → Sound p
unfolding sound
sound_parts p t =
    let at : (k : ℕ) → T (get_or (sound_rules p) k true) = λ k. all_at k (sound_rules p) t in
    record {
      rooms_size = eqb→eq _ _ (at 0);
      rooms_range = at 1;
      settings_size = eqb→eq _ _ (at 2);
      settings_range = at 3;
      room = eqb→eq _ _ (at 4);
      pass = at 5;
      few = leb→le _ _ (at 6);
      codes = at 7;
      order = at 8;
      fits = at 9;
    }

-- WHAT A SLOT'S CHANGE MEANS FOR THE RULES: those that do not name it keep their set

slot_other : (slots : List (Option (List ℕ))) (n m : ℕ) (o : Option (List ℕ)) → T (not (eqb m n)) → get_or (set slots n o) m none ≡ get_or slots m none
slot_other slots n m o t = get_or-set_other slots n m o none (λ q. T_not (eqb m n) t (rw q (eqb_refl n)))

fits_other : (slots : List (Option (List ℕ))) (n : ℕ) (o : Option (List ℕ)) (r : Rule) → T (not (names n r))
    → T (fits_held (filter_in r) (get_or slots r.set none)) → T (fits_held (filter_in r) (get_or (set slots n o) r.set none))
fits_other slots n o r u t = rw (slot_other slots n r.set o u) t

-- no rule names a set that is not held
empty_unnamed : (slots : List (Option (List ℕ))) (n : ℕ) (r : Rule) → T (not (is_some (get_or slots n none)))
    → T (fits_held (filter_in r) (get_or slots r.set none)) → T (not (names n r))
empty_unnamed slots n r u t = not_T (eqb r.set n) (λ q. go (get_or slots n none) u (rw (eqb→eq r.set n q) at t))
  where
    go : (o : Option (List ℕ)) → T (not (is_some o)) → T (fits_held (filter_in r) o) → ⊥
    go none u t = t
    go (some b) u t = u

pub below_room : (p : Plan) (n : ℕ) → Sound p → T (not (over_room p n)) → n < length p.slots
below_room p n s t = rw s.room (nleb→lt (rooms_in p).sets n t)

-- OPENING

pub opening_sound : (lacks : List ℕ → Bool) (b : List ℕ) → length b ≡ OPENING-BYTES → first_of (opening_lines lacks b) ≡ 0 → Sound (fresh (opened_rooms b) (opened_settings b))
unfolding fresh opening_lines codes_pass rules_fit
opening_sound lacks b h e =
    let ranges = not_not (rooms_in_range (opened_rooms b) && settings_in_range (opened_settings b)) (passed_at 0 (opening_lines lacks b) tt e) in
    record {
      rooms_size = length-take-le ROOMS-BYTES b (omega arith);
      rooms_range = and_left (rooms_in_range (opened_rooms b)) (settings_in_range (opened_settings b)) ranges;
      settings_size = part_length b ROOMS-BYTES SETTINGS-BYTES (omega arith);
      settings_range = and_right (rooms_in_range (opened_rooms b)) (settings_in_range (opened_settings b)) ranges;
      room = length-replicate (rooms_of (opened_rooms b)).sets none;
      pass = all_replicate slot_passes (rooms_of (opened_rooms b)).sets none tt;
      few = omega arith;
      codes = tt;
      order = tt;
      fits = tt;
    }

-- SETS: a slot given a content that passes, or emptied, while every rule still fits its slot

slot_sound : (p : Plan) (n : ℕ) (o : Option (List ℕ)) (q : Rule → Bool) → Sound p → T (slot_passes o) → T (all q p.rules)
    → ((r : Rule) → T (q r) → T (fits_held (filter_in r) (get_or p.slots r.set none)) → T (fits_held (filter_in r) (get_or (set p.slots n o) r.set none)))
    → Sound (with_slot n o p)
unfolding with_slot rules_fit
slot_sound p n o q s t u h =
    let old : Rule → Bool = λ r. fits_held (filter_in r) (get_or p.slots r.set none) in
    let new : Rule → Bool = λ r. fits_held (filter_in r) (get_or (set p.slots n o) r.set none) in
    record {
      rooms_size = s.rooms_size;
      rooms_range = s.rooms_range;
      settings_size = s.settings_size;
      settings_range = s.settings_range;
      room = length-set p.slots n o ∙ s.room;
      pass = all_set slot_passes p.slots n o s.pass t;
      few = s.few;
      codes = s.codes;
      order = s.order;
      fits = all_weaken (λ r. q r && old r) new p.rules (λ r v. h r (and_left (q r) (old r) v) (and_right (q r) (old r) v))
          (all_both q old p.rules u s.fits);
    }

content_passes_lem : (b : List ℕ) → length b ≡ SET-BODY → T (not (not (content_in_range (content_given b)))) → T (not (not (groups_hold (actions_of (content_given b)))))
    → T (slot_passes (some (content_given b)))
unfolding content_passes
content_passes_lem b h t u =
    let size : T (sized CONTENT-BYTES (content_given b)) = rw (part_length b SET-NUMBER-BYTES CONTENT-BYTES (omega arith)) tt in
    and_both (sized CONTENT-BYTES (content_given b)) _ size
    (and_both (content_in_range (content_given b)) _ (not_not (content_in_range (content_given b)) t)
    (and_both (groups_hold (actions_of (content_given b))) true (not_not (groups_hold (actions_of (content_given b))) u) tt))

module _ (p : Plan) (b : List ℕ) (s : Sound p) where
  add_set_sound : length b ≡ SET-BODY → first_of (add_set_lines p b) ≡ 0 → Sound (with_slot (set_number b) (some (content_given b)) p)
  unfolding add_set_lines rules_fit
  add_set_sound h e =
      let n : ℕ = set_number b in
      let l5 = passed_at 0 (add_set_lines p b) tt e in
      let l6 = passed_at 1 (add_set_lines p b) tt e in
      let l7 = passed_at 2 (add_set_lines p b) tt e in
      slot_sound p n (some (content_given b)) (λ r. fits_held (filter_in r) (get_or p.slots r.set none)) s
      (content_passes_lem b h (or_right_false (over_room p n) (not (content_in_range (content_given b))) l5) l6) s.fits
      (λ r u t. fits_other p.slots n (some (content_given b)) r (empty_unnamed p.slots n r l7 t) t)

  remove_set_sound : first_of (remove_set_lines p b) ≡ 0 → Sound (with_slot (set_number b) none p)
  unfolding remove_set_lines
  remove_set_sound e =
      let n : ℕ = set_number b in
      let l5 = passed_at 0 (remove_set_lines p b) tt e in
      let l8 = passed_at 1 (remove_set_lines p b) tt e in
      let l11 = passed_at 2 (remove_set_lines p b) tt e in
      slot_sound p n none (λ r. not (names n r)) s tt (none_any (names n) p.rules l11) (λ r u t. fits_other p.slots n none r u t)

  replace_set_sound : length b ≡ SET-BODY → first_of (replace_set_lines p b) ≡ 0 → Sound (with_slot (set_number b) (some (content_given b)) p)
  unfolding replace_set_lines
  replace_set_sound h e =
      let n : ℕ = set_number b in
      let fitsNew : Rule → Bool = λ r. not (names n r) || fit (filter_in r) (actions_of (content_given b)) in
      let l5 = passed_at 0 (replace_set_lines p b) tt e in
      let l6 = passed_at 1 (replace_set_lines p b) tt e in
      let l8 = passed_at 2 (replace_set_lines p b) tt e in
      let l9 = passed_at 3 (replace_set_lines p b) tt e in
      slot_sound p n (some (content_given b)) fitsNew s (content_passes_lem b h (or_right_false (over_room p n) (not (content_in_range (content_given b))) l5) l6)
      (not_not (all fitsNew p.rules) l9)
      (λ r u t. either r (below_room p n s (or_left_false (over_room p n) (not (content_in_range (content_given b))) l5)) u t (names n r) refl)
    where
      either : (r : Rule) → set_number b < length p.slots → T (not (names (set_number b) r) || fit (filter_in r) (actions_of (content_given b)))
          → T (fits_held (filter_in r) (get_or p.slots r.set none)) → (c : Bool) → names (set_number b) r ≡ c
          → T (fits_held (filter_in r) (get_or (set p.slots (set_number b) (some (content_given b))) r.set none))
      either r h u t true q =
          rw (eqb-true r.set (set_number b) q, get_or-set_same p.slots (set_number b) (some (content_given b)) none h)
          (or_use (names (set_number b) r) (fit (filter_in r) (actions_of (content_given b))) u (rw q tt))
      either r h u t false q = fits_other p.slots (set_number b) (some (content_given b)) r (rw q tt) t

  -- RULES

  code_passes_lem : length b ≡ RULE-BODY → T (not (not (filter_in_range (code_given b)))) → T (code_passes (code_given b))
  unfolding code_passes
  code_passes_lem h t =
      let size : T (sized FILTER-BYTES (code_given b)) = rw (length-take-le FILTER-BYTES b (omega arith)) tt in
      and_both (sized FILTER-BYTES (code_given b)) (filter_in_range (code_given b)) size (not_not (filter_in_range (code_given b)) t)

  add_rule_sound : length b ≡ RULE-BODY → first_of (add_rule_lines p b) ≡ 0 → Sound (with_rules (insert (rule_given b) p.rules) p)
  unfolding add_rule_lines with_rules rules_fit codes_pass
  add_rule_sound h e =
      let n : ℕ = set_given b in
      let r : Rule = rule_given b in
      let l5 = passed_at 0 (add_rule_lines p b) tt e in
      let l7 = passed_at 1 (add_rule_lines p b) tt e in
      let l8 = passed_at 2 (add_rule_lines p b) tt e in
      let l9 = passed_at 3 (add_rule_lines p b) tt e in
      let l10 = passed_at 4 (add_rule_lines p b) tt e in
      let full = eqb-false (length p.rules) (rooms_in p).rules (is_false (eqb (length p.rules) (rooms_in p).rules) l10) in
      let few : length p.rules ≤ (rooms_in p).rules = s.few in
      record {
        rooms_size = s.rooms_size;
        rooms_range = s.rooms_range;
        settings_size = s.settings_size;
        settings_range = s.settings_range;
        room = s.room;
        pass = s.pass;
        few = rw (length_insert r p.rules) (omega (arith, full));
        codes = all_insert (λ (x : Rule). code_passes x.code) r p.rules (code_passes_lem h (or_right_false (over_room p n) (not (filter_in_range (code_given b))) l5)) s.codes;
        order = in_order_insert r p.rules s.order l7;
        fits = all_insert (λ (x : Rule). fits_held (filter_in x) (get_or p.slots x.set none)) r p.rules (not_not (fits_held (filter_of (code_given b)) (held p n)) l9) s.fits;
      }

  change_rule_sound : first_of (change_rule_lines p b) ≡ 0 → Sound (with_rules (rename (filter_of (code_given b)) (set_given b) p.rules) p)
  unfolding change_rule_lines with_rules rules_fit codes_pass
  change_rule_sound e =
      let n : ℕ = set_given b in
      let f : Filter = filter_of (code_given b) in
      let l5 = passed_at 0 (change_rule_lines p b) tt e in
      let l8 = passed_at 1 (change_rule_lines p b) tt e in
      let l9 = passed_at 2 (change_rule_lines p b) tt e in
      record {
        rooms_size = s.rooms_size;
        rooms_range = s.rooms_range;
        settings_size = s.settings_size;
        settings_range = s.settings_range;
        room = s.room;
        pass = s.pass;
        few = rw (length_rename f n p.rules) s.few;
        codes = all_rename (λ (x : Rule). code_passes x.code) f n p.rules (λ r u t. t) s.codes;
        order = in_order_rename f n p.rules s.order;
        fits = all_rename (λ (x : Rule). fits_held (filter_in x) (get_or p.slots x.set none)) f n p.rules
            (λ r u t. rw (← same_filter f (filter_in r) u) (not_not (fits_held f (held p n)) l9)) s.fits;
      }

  remove_rule_sound : Sound (with_rules (without (filter_of (code_given b)) p.rules) p)
  unfolding with_rules rules_fit codes_pass
  remove_rule_sound =
      let f : Filter = filter_of (code_given b) in
      let few : length p.rules ≤ (rooms_in p).rules = s.few in
      record {
        rooms_size = s.rooms_size;
        rooms_range = s.rooms_range;
        settings_size = s.settings_size;
        settings_range = s.settings_range;
        room = s.room;
        pass = s.pass;
        few = omega (arith, length_without f p.rules);
        codes = all_without (λ (x : Rule). code_passes x.code) f p.rules s.codes;
        order = in_order_without f p.rules s.order;
        fits = all_without (λ (x : Rule). fits_held (filter_in x) (get_or p.slots x.set none)) f p.rules s.fits;
      }

-- EVERY ACCEPTED CALL

abbrev pub SoundIf : Option Plan → Type 0
SoundIf none = Unit {0}
SoundIf (some p) = Sound p

-- what a call that is not cut has in its body
pub body_size : (c : Call) → T (not (is_cut c)) → length (body_of c) ≡ body_length (kind_of c.operation)
body_size c t = length-take-le (body_length (kind_of c.operation)) c.body (nltb→le (length c.body) (body_length (kind_of c.operation)) t)

made_sound : (o : Operation) (lacks : List ℕ → Bool) (s : Option Plan) (b : List ℕ) → length b ≡ body_length (kind_of o) → SoundIf s
    → first_of (lines_of o lacks s b) ≡ 0 → SoundIf (made o s b)
unfolding body_length
made_sound open_plan lacks s b h k e = opening_sound lacks b h e
made_sound add_set lacks none b h k e = tt
made_sound add_set lacks (some p) b h k e = add_set_sound p b k h e
made_sound replace_set lacks none b h k e = tt
made_sound replace_set lacks (some p) b h k e = replace_set_sound p b k h e
made_sound remove_set lacks none b h k e = tt
made_sound remove_set lacks (some p) b h k e = remove_set_sound p b k e
made_sound add_rule lacks none b h k e = tt
made_sound add_rule lacks (some p) b h k e = add_rule_sound p b k h e
made_sound change_rule lacks none b h k e = tt
made_sound change_rule lacks (some p) b h k e = change_rule_sound p b k e
made_sound remove_rule lacks none b h k e = tt
made_sound remove_rule lacks (some p) b h k e = remove_rule_sound p b k

-- an accepted call: it is not cut, and none of its checks refuses
pub record Passed (lacks : List ℕ → Bool) (s : Option Plan) (c : Call) : Type 0 where
  pub whole : length (body_of c) ≡ body_length (kind_of c.operation)
  pub checks : first_of (lines_of c.operation lacks s (body_of c)) ≡ 0

pub accepted_passed : (lacks : List ℕ → Bool) (s : Option Plan) (c : Call) → refusal lacks s c ≡ 0 → Passed lacks s c
unfolding refusal
accepted_passed lacks s c e =
    let l = passed (is_cut c) 0 (lines_of c.operation lacks s (body_of c)) e in
    record { whole = body_size c l.0; checks = l.1 }

pub accepted_sound : (lacks : List ℕ → Bool) (s : Option Plan) (c : Call) → SoundIf s → refusal lacks s c ≡ 0 → SoundIf (made c.operation s (body_of c))
accepted_sound lacks s c k e =
    let t = accepted_passed lacks s c e in made_sound c.operation lacks s (body_of c) t.whole k t.checks

-- any call, refused or accepted
pub after_sound : (lacks : List ℕ → Bool) (s : Option Plan) (c : Call) → SoundIf s → SoundIf (after lacks s c)
unfolding after
after_sound lacks s c k = go (is_accepted lacks s c) refl
  where
    go : (t : Bool) → is_accepted lacks s c ≡ t → SoundIf (if t then made c.operation s (body_of c) else s)
    go true e = accepted_sound lacks s c k (eqb-true (refusal lacks s c) 0 e)
    go false e = k

-- THE SET THAT A RULE NAMES

-- a held content passes
pub held_passes : (slots : List (Option (List ℕ))) (n : ℕ) (c : List ℕ) → T (all slot_passes slots) → get_or slots n none ≡ some c → T (content_passes c)
held_passes [] n c t e = absurd (let z : ◌≡◌ {A = ℕ} 0 1 = cc in omega arith)
held_passes (o ∷ os) zero c t e = subst (λ (x : Option (List ℕ)). T (slot_passes x)) e (and_left (slot_passes o) (all slot_passes os) t)
held_passes (o ∷ os) (suc n) c t e = held_passes os n c (and_right (slot_passes o) (all slot_passes os) t) e

-- a rule of a sound plan "names a set that exists and fits it"
pub names_held : (p : Plan) → Sound p → (r : Rule) → Memᴰ r p.rules → NamesHeld p r
unfolding rules_fit
names_held p s r m =
    go (held p r.set) refl (all_mem (λ (x : Rule). fits_held (filter_in x) (get_or p.slots x.set none)) p.rules s.fits m)
  where
    go : (o : Option (List ℕ)) → held p r.set ≡ o → T (fits_held (filter_in r) o) → NamesHeld p r
    go none e t = absurd t
    go (some c) e t = record { content = c; is_held = e; fits = t; passes = held_passes p.slots r.set c s.pass e }
