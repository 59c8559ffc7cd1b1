-- After each accepted call over any sound plan, the set and the filter that it is about read back as its body says, every other as before.
use Prim.Native.Nat.{ℕ, zero, suc, ◌<◌}
use mathlib.Core.Path.{◌≡◌, refl, ap, sym, ◌∙◌}
use mathlib.Core.Bool.{Bool, true, false, ◌&&◌, ◌||◌, not}
use mathlib.Core.List.{List, [], ◌∷◌, ◌++◌}
use mathlib.Core.Option.{Option, none, some}
use native.Mathlib.Omega.{arith}
use lib.ListN.{length, take, drop, get_or, set, replicate, length-drop, take-append-drop}
use lib.Seq.{get_or-set_same, get_or-set_other, take_all}
use lib.Dec.{T, T_not, eqb}
use borrow.Author.Tests.{eqb-true, eqb-false}
use Rattle.meaning.specs.Sizes.{ROOMS-BYTES, SETTINGS-BYTES, OPENING-BYTES}
use Rattle.meaning.specs.Basics.{any, is_some}
use Rattle.std.specs.Prelude.{if◌then◌else◌}
use Rattle.meaning.specs.Refusals.{first_of}
use Rattle.meaning.specs.Settings.{rooms_of}
use Rattle.meaning.specs.Filters.{Filter, filter_of, is_same}
use Rattle.meaning.specs.Rules.{Rule, filter_in, has_filter, set_named, insert, rename, without}
use Rattle.meaning.specs.Actions.{content_in_range}
use Rattle.meaning.specs.Plan.{Plan, held, fresh, with_slot, with_rules}
use Rattle.meaning.specs.Reads.{over_room}
use Rattle.meaning.specs.Calls.{Operation, open_plan, add_set, replace_set, remove_set, add_rule, change_rule, remove_rule, Call, kind_of, body_length, body_of, opened_rooms, opened_settings, set_number, content_given, code_given, set_given, rule_given, holds_filter, add_set_lines, replace_set_lines, remove_set_lines, add_rule_lines, change_rule_lines, lines_of, refusal, made}
use Rattle.meaning.specs.LookBack.{opening_after, content_after, set_after}
use Rattle.meaning.proofs.Tests.{true_is, is_true, and_left, or_left_false, or_right_false, not_not, passed_at}
use Rattle.meaning.proofs.RuleLists.{before, same_filter, filter_same, moved}
use Rattle.meaning.proofs.CallKinds.{Asks, opens, changes, asks}
use Rattle.meaning.proofs.Soundness.{Sound, below_room, accepted_passed}

-- SETS

slot_set : (slots : List (Option (List ℕ))) (m n : ℕ) (o : Option (List ℕ)) → m < length slots
    → get_or (set slots m o) n none ≡ (if eqb n m then o else get_or slots n none)
slot_set slots m n o h = go (eqb n m) refl
  where
    go : (b : Bool) → eqb n m ≡ b → get_or (set slots m o) n none ≡ (if b then o else get_or slots n none)
    go true e = rw (eqb-true n m e) (get_or-set_same slots m o none h)
    go false e = get_or-set_other slots m n o none (eqb-false n m e)

pub empty_slots : (k n : ℕ) → ◌≡◌ {A = Option (List ℕ)} (get_or (replicate k none) n none) none
empty_slots zero n = refl
empty_slots (suc k) zero = refl
empty_slots (suc k) (suc n) = empty_slots k n

-- the content of set n in what was put in; none where nothing is
abbrev pub held_in : Option Plan → ℕ → Option (List ℕ)
held_in none n = none
held_in (some p) n = held p n

module _ (p : Plan) (b : List ℕ) (n : ℕ) (s : Sound p) where
  content_after_lem : (o : Operation) (lacks : List ℕ → Bool) → first_of (lines_of o lacks (some p) b) ≡ 0
      → held_in (made o (some p) b) n ≡ content_after o b n (held p n)
  unfolding fresh with_slot with_rules add_set_lines replace_set_lines remove_set_lines
  content_after_lem open_plan lacks e = empty_slots (rooms_of (opened_rooms b)).sets n
  content_after_lem add_set lacks e =
      slot_set p.slots (set_number b) n (some (content_given b))
      (below_room p (set_number b) s (or_left_false (over_room p (set_number b)) (not (content_in_range (content_given b))) (passed_at 0 (add_set_lines p b) tt e)))
  content_after_lem replace_set lacks e =
      slot_set p.slots (set_number b) n (some (content_given b))
      (below_room p (set_number b) s (or_left_false (over_room p (set_number b)) (not (content_in_range (content_given b))) (passed_at 0 (replace_set_lines p b) tt e)))
  content_after_lem remove_set lacks e =
      slot_set p.slots (set_number b) n none (below_room p (set_number b) s (passed_at 0 (remove_set_lines p b) tt e))
  content_after_lem add_rule lacks e = refl
  content_after_lem change_rule lacks e = refl
  content_after_lem remove_rule lacks e = refl

-- RULES

same_as : (f g : Filter) → is_same f g ≡ true → f ≡ g
same_as f g e = same_filter f g (true_is _ e)

-- two filters that are the same as a third are the same
both_same : (f g h : Filter) → is_same f h ≡ true → is_same g h ≡ true → is_same f g ≡ true
both_same f g h p q = is_true _ (filter_same f g (same_as f h p ∙ sym (same_as g h q)))

named_insert : (f : Filter) (r : Rule) (rs : List Rule) → T (not (any (has_filter (filter_in r)) rs))
    → set_named f (insert r rs) ≡ (if has_filter f r then some r.set else set_named f rs)
named_insert f r [] t = refl
named_insert f r (x ∷ rs) t =
    go (before (filter_in r) x) (named_insert f r rs (or_right_false (has_filter (filter_in r) x) (any (has_filter (filter_in r)) rs) t))
  where
    swap : (a b : Bool) → has_filter f r ≡ a → has_filter f x ≡ b
        → (if b then some x.set else if a then some r.set else set_named f rs) ≡ (if a then some r.set else if b then some x.set else set_named f rs)
    swap true true p q =
        let again : T (has_filter (filter_in r) x) = rw (← same_as f (filter_in r) p, q) tt in
        absurd (T_not (has_filter (filter_in r) x) (or_left_false (has_filter (filter_in r) x) (any (has_filter (filter_in r)) rs) t) again)
    swap true false p q = refl
    swap false true p q = refl
    swap false false p q = refl

    go : (b : Bool) → set_named f (insert r rs) ≡ (if has_filter f r then some r.set else set_named f rs)
        → set_named f (if b then r ∷ x ∷ rs else x ∷ insert r rs) ≡ (if has_filter f r then some r.set else if has_filter f x then some x.set else set_named f rs)
    go true ih = refl
    go false ih = rw ih (swap (has_filter f r) (has_filter f x) refl refl)

named_without : (f g : Filter) (rs : List Rule) → set_named f (without g rs) ≡ (if is_same f g then none else set_named f rs)
named_without f g [] = either (is_same f g)
  where
    either : (b : Bool) → ◌≡◌ {A = Option ℕ} none (if b then none else none)
    either true = refl
    either false = refl
named_without f g (x ∷ rs) = go (is_same f g) (has_filter g x) (has_filter f x) refl refl refl (named_without f g rs)
  where
    go : (a b c : Bool) → is_same f g ≡ a → has_filter g x ≡ b → has_filter f x ≡ c → set_named f (without g rs) ≡ (if a then none else set_named f rs)
        → set_named f (if b then without g rs else x ∷ without g rs) ≡ (if a then none else if c then some x.set else set_named f rs)
    go true true c p q r ih = ih
    go true false c p q r ih = let miss : has_filter f x ≡ false = rw (same_as f g p) q in rw miss ih
    go false true true p q r ih = let hit : is_same f g ≡ true = both_same f g (filter_in x) r q in cc
    go false true false p q r ih = ih
    go false false c p q r ih = rw (r, ih)

named_rename_other : (f g : Filter) (n : ℕ) (rs : List Rule) → is_same f g ≡ false → set_named f (rename g n rs) ≡ set_named f rs
named_rename_other f g n [] e = refl
named_rename_other f g n (x ∷ rs) e = go (has_filter g x) (has_filter f x) refl refl (named_rename_other f g n rs e)
  where
    go : (b c : Bool) → has_filter g x ≡ b → has_filter f x ≡ c → set_named f (rename g n rs) ≡ set_named f rs
        → set_named f ((if b then moved n x else x) ∷ rename g n rs) ≡ (if c then some x.set else set_named f rs)
    go true true q r ih = let hit : is_same f g ≡ true = both_same f g (filter_in x) r q in cc
    go true false q r ih = rw (r, ih)
    go false c q r ih = rw (r, ih)

named_rename : (f : Filter) (n : ℕ) (rs : List Rule) → T (any (has_filter f) rs) → set_named f (rename f n rs) ≡ some n
named_rename f n [] t = absurd t
named_rename f n (x ∷ rs) t = go (has_filter f x) refl t (named_rename f n rs)
  where
    go : (b : Bool) → has_filter f x ≡ b → T (b || any (has_filter f) rs) → (T (any (has_filter f) rs) → set_named f (rename f n rs) ≡ some n)
        → set_named f ((if b then moved n x else x) ∷ rename f n rs) ≡ some n
    go true q u ih = rw q
    go false q u ih = rw q (ih u)

-- the set that the rule of filter f names in what was put in
abbrev pub set_in : Option Plan → Filter → Option ℕ
set_in none f = none
set_in (some p) f = set_named f p.rules

module _ (p : Plan) (b : List ℕ) (f : Filter) where
  set_after_lem : (o : Operation) (lacks : List ℕ → Bool) → first_of (lines_of o lacks (some p) b) ≡ 0
      → set_in (made o (some p) b) f ≡ set_after o b f (set_named f p.rules)
  unfolding fresh with_slot with_rules add_rule_lines change_rule_lines
  set_after_lem open_plan lacks e = refl
  set_after_lem add_set lacks e = refl
  set_after_lem replace_set lacks e = refl
  set_after_lem remove_set lacks e = refl
  set_after_lem add_rule lacks e = named_insert f (rule_given b) p.rules (passed_at 1 (add_rule_lines p b) tt e)
  set_after_lem change_rule lacks e = go (is_same f (filter_of (code_given b))) refl
    where
      there : T (holds_filter p (code_given b))
      there =
          and_left (holds_filter p (code_given b)) (is_some (held p (set_given b)))
          (not_not (holds_filter p (code_given b) && is_some (held p (set_given b))) (passed_at 1 (change_rule_lines p b) tt e))

      go : (c : Bool) → is_same f (filter_of (code_given b)) ≡ c
          → set_named f (rename (filter_of (code_given b)) (set_given b) p.rules) ≡ (if c then some (set_given b) else set_named f p.rules)
      go true q = rw (same_as f (filter_of (code_given b)) q) (named_rename (filter_of (code_given b)) (set_given b) p.rules there)
      go false q = named_rename_other f (filter_of (code_given b)) (set_given b) p.rules q
  set_after_lem remove_rule lacks e = named_without f (filter_of (code_given b)) p.rules

-- THE OPENING IN FORCE

-- the body of the opening of what was put in
abbrev pub opening_in : Option Plan → Option (List ℕ)
opening_in none = none
opening_in (some p) = some (p.rooms ++ p.settings)

parts_whole : (b : List ℕ) → length b ≡ OPENING-BYTES → opened_rooms b ++ opened_settings b ≡ b
parts_whole b h =
    let all : take SETTINGS-BYTES (drop ROOMS-BYTES b) ≡ drop ROOMS-BYTES b = take_all SETTINGS-BYTES (drop ROOMS-BYTES b) (rw (length-drop ROOMS-BYTES b) (omega arith)) in
    rw all (take-append-drop ROOMS-BYTES b)

opening_after_lem : (p : Plan) (o : Operation) (b : List ℕ) → length b ≡ body_length (kind_of o)
    → opening_in (made o (some p) b) ≡ opening_after o b (some (p.rooms ++ p.settings))
unfolding fresh body_length
opening_after_lem p o b h = go (asks o) h
  where
    go : {o : Operation} → Asks o → length b ≡ body_length (kind_of o) → opening_in (made o (some p) b) ≡ opening_after o b (some (p.rooms ++ p.settings))
    go opens h = ap some (parts_whole b h)
    go (changes c) h = rw (c.made_is (some p) b, c.rooms_stay b p, c.settings_stay b p, c.opening_stays b (some (p.rooms ++ p.settings)))

-- AFTER AN ACCEPTED CALL OVER A SOUND PLAN

pub record ReadsBack (lacks : List ℕ → Bool) (p : Plan) (c : Call) : Type 0 where
  pub opening : opening_in (made c.operation (some p) (body_of c)) ≡ opening_after c.operation (body_of c) (opening_in (some p))
  pub sets : (n : ℕ) → held_in (made c.operation (some p) (body_of c)) n ≡ content_after c.operation (body_of c) n (held p n)
  pub filters : (f : Filter) → set_in (made c.operation (some p) (body_of c)) f ≡ set_after c.operation (body_of c) f (set_named f p.rules)

pub reads_back : (lacks : List ℕ → Bool) (p : Plan) (c : Call) → Sound p → refusal lacks (some p) c ≡ 0 → ReadsBack lacks p c
reads_back lacks p c s e =
    let t = accepted_passed lacks (some p) c e in
    record {
      opening = opening_after_lem p c.operation (body_of c) t.whole;
      sets = λ n. content_after_lem p (body_of c) n s c.operation lacks t.checks;
      filters = λ f. set_after_lem p (body_of c) f c.operation lacks t.checks;
    }
