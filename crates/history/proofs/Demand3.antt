-- Demand 3: the claim holds of every list of calls that begins with an accepted opening.
use Prim.Native.Nat.{ℕ, zero, suc, ◌+◌, ◌≤◌, ◌/◌, ◌%◌}
use mathlib.Core.Path.{◌≡◌, refl, ap, ap₂, sym, subst, ◌∙◌}
use mathlib.Core.Logic.{◌↔◌, ◌≢◌}
use mathlib.Core.Bool.{Bool, true, false, not}
use mathlib.Core.List.{List, [], ◌∷◌, ◌++◌, map, Memᴰ}
use mathlib.Core.Option.{Option, none, some}
use native.Mathlib.Omega.{arith}
use lib.ListN.{length, take, get_or, get_elem?, length-map}
use lib.Dec.{T, eqb, leb, ltb, eqb_refl}
use borrow.Author.Tests.{eqb-true, leb-true, le-ltb}
use Rattle.meaning.specs.Sizes.{SET-BODY, DIGIT-ROOM}
use Rattle.meaning.specs.Basics.{within, all, any, count, part, is_some, word}
use Rattle.std.specs.Prelude.{if◌then◌else◌}
use Rattle.meaning.specs.Refusals.{PLAN, IN-USE}
use Rattle.meaning.specs.Settings.{rooms_of, rooms_in_range}
use Rattle.meaning.specs.Rules.{Rule, filter_in, names, chosen}
use Rattle.meaning.specs.Choice.{IsChoice, NoneFits}
use Rattle.meaning.specs.Actions.{CA, is_ign, is_ccdef, value_of, actions_of}
use Rattle.meaning.specs.Conditioning.{Stretch, digits_at, adds, joined}
use Rattle.meaning.specs.Stretches.{Covers, covered, fixed, ignored, matched, all_left, takes_none}
use Rattle.meaning.specs.Plan.{Plan, held, referrers, with_slot}
use Rattle.meaning.specs.Numbers.{Conditions, NumberHolds}
use Rattle.meaning.specs.Answer.{answer}
use Rattle.meaning.specs.Reads.{Read, read, Count, Listed, listed, listing, rule_count, rule_at_place, conditioned, stretch, set_content, referrer_count}
use Rattle.meaning.specs.Calls.{Call, open_plan, remove_set, body_length, is_cut, opened_rooms, set_number, lacks_bytes, refusal, after, put_in_from, refusals_from}
use Rattle.meaning.specs.LookBack.{accepted, last_content}
use Rattle.meaning.specs.History.{no_rule, removal, PutIn}
use Rattle.meaning.specs.Answers.{refusal_of_written, bytes_written, count_of, place_chosen, rule_given, rule_wanted, span_of}
use Rattle.std.specs.Prelude.{Result, Option as Optional}
use Rattle.meaning.specs.declared.Refusal.{Refusal}
use Rattle.meaning.specs.declared.RulePlace.{RulePlace}
use Rattle.meaning.proofs.Stretches.{value_small}
use Rattle.meaning.proofs.Tests.{is_true, false_is, and_right, any_mem, none_counted}
use Rattle.meaning.proofs.Soundness.{Sound, sound_of_lem, sound_parts, held_passes}
use Rattle.meaning.proofs.Choice.{Choice, no_rule as noneFits, the_rule, choice}
use Rattle.meaning.proofs.Numbers.{every_number}
use Rattle.meaning.proofs.History.{held_below, removable, every_opened_list}
use Rattle.plan.specs.Layout.{plan_of}
use Rattle.plan.specs.State.{sound_of, state_of}
use Rattle.plan.proofs.ImageLaws.{state_some, state_none}
use Rattle.plan.proofs.ReadLaws.{sound_is, rule_count_is}
use Rattle.buffer.proofs.ListLaws.{element_at}
use Rattle.choice.specs.Chosen.{ChoicePromise}
use Rattle.choice.proofs.Chosen.{chosen_at, none_chosen as nothing-chosen}
use Rattle.changes.specs.Promise.{memory_after, Provides, calls, Chain, next}
use Rattle.changes.proofs.Chains.{after_call, from_opening, same_refusal}
use Rattle.number.specs.Promises.{GivesAnswer}
use Rattle.reads.specs.Promises.{GivesRead, GivesStretch, ConditionedPromise, ContentPromise, ReferrersPromise}
use Rattle.reads.specs.AfterCalls.{content_read, count_read}
use Rattle.history.specs.Claim.{naming, ReadsAs, ChoosesAs, Removes, stretch_given, ConditionsAs, Demand3}

-- THE PLAN THAT A MEMORY HOLDS

memory_sound : (m : List ℕ) (p : Plan) → state_of m ≡ some p → sound_of m ≡ true
memory_sound m p e = go (sound_of m) refl
  where
    go : (b : Bool) → sound_of m ≡ b → sound_of m ≡ true
    go true s = s
    go false s = absurd (let both : none ≡ some p = sym (state_none m s) ∙ e in let z : ◌≡◌ {A = ℕ} 0 1 = cc in omega arith)

plan_held : (m : List ℕ) (p : Plan) → state_of m ≡ some p → plan_of m ≡ p
plan_held m p e = let both : some (plan_of m) ≡ some p = sym (state_some m (memory_sound m p e)) ∙ e in cc

-- counted over the listing, as over the rules
naming_is : (n : ℕ) (rs : List Rule) → naming n (map listed rs) ≡ count (names n) rs
naming_is n [] = refl
naming_is n (r ∷ rs) = ap (λ (k : ℕ). (if names n r then 1 else 0) + k) (naming_is n rs)

same_count : (p : Plan) (n : ℕ) → naming n (listing p) ≡ referrers p n
unfolding listing referrers
same_count p n = naming_is n p.rules

-- THE CHOICE

listed_at : (rs : List Rule) (k : ℕ) (r : Rule) → get_elem? rs k ≡ some r → get_elem? (map listed rs) k ≡ some (listed r)
listed_at [] k r e = absurd (let z : ◌≡◌ {A = ℕ} 0 1 = cc in omega arith)
listed_at (x ∷ rs) zero r e = let same : x ≡ r = cc in ap (λ (y : Rule). some (listed y)) same
listed_at (x ∷ rs) (suc k) r e = listed_at rs k r e

module _ (class : ℕ) (ds : List ℕ) (rs : List Rule) where
  is_choice : (r : Rule) {o : Option Rule} → Choice class ds rs o → o ≡ some r → IsChoice class ds rs r
  is_choice r (noneFits n) e = absurd (let z : ◌≡◌ {A = ℕ} 0 1 = cc in omega arith)
  is_choice r (the_rule s b) e = let same : s ≡ r = cc in rw (← same) b

  none_fits : {o : Option Rule} → Choice class ds rs o → o ≡ none → NoneFits class ds rs
  none_fits (noneFits n) e = n
  none_fits (the_rule s b) e = absurd (let z : ◌≡◌ {A = ℕ} 0 1 = cc in omega arith)

module _ (m : List ℕ) (sound-m : sound_of m ≡ true) (class : ℕ) (ds : List ℕ) (c : Optional RulePlace) (promised : ChoicePromise m class ds c) where
  of_rules : Choice class ds (plan_of m).rules (chosen class ds (plan_of m).rules)
  of_rules = choice class ds (plan_of m).rules (sound_is m sound-m).plan.order

  found_at : (k : ℕ) → place_chosen c ≡ some k
      → (r : Rule) × (get_elem? (plan_of m).rules k ≡ some r) × (get_elem? (listing (plan_of m)) k ≡ some (listed r)) × IsChoice class ds (plan_of m).rules r
  unfolding listing
  found_at k e =
      let at = chosen_at m class ds k sound-m (sym promised ∙ e) in
      let r : Rule = get_or (plan_of m).rules k no_rule in
      let there : get_elem? (plan_of m).rules k ≡ some r = element_at (plan_of m).rules k no_rule (rw (rule_count_is m) at at.below) in
      (r, there, listed_at (plan_of m).rules k r there, is_choice class ds (plan_of m).rules r of_rules at.is)

  chooses_as : ChoosesAs class ds (plan_of m) c
  chooses_as =
      record {
        found = found_at;
        not_found = (λ e. none_fits class ds (plan_of m).rules of_rules (nothing-chosen m class ds (sym promised ∙ e)), λ n. go n (place_chosen c) refl);
      }
    where
      go : NoneFits class ds (plan_of m).rules → (o : Option ℕ) → place_chosen c ≡ o → place_chosen c ≡ none
      go n none e = e
      go n (some k) e =
          let f = found_at k e in
          absurd (let both : true ≡ false = sym (is_true _ f.3.fits) ∙ n f.0 f.3.held in let z : ◌≡◌ {A = ℕ} 0 1 = cc in omega arith)

-- WHAT IS LISTED AND READ

-- a set that is held reads back
read_back : (p : Plan) → Sound p → (n : ℕ) (content : List ℕ) (size : ℕ) → held p n ≡ some content → SET-BODY ≤ size
    → set_content (some p) size n ≡ read (n / 256 ∷ n % 256 ∷ content)
read_back p s n content size e h =
    let is : T (is_some (held p n)) = rw e tt in
    rw (le-ltb size SET-BODY h, held_below p n s is, e)

few_listed : (p : Plan) → Sound p → length (listing p) ≤ 4096
unfolding listing rooms_in_range rooms_of
few_listed p s =
    let r : ℕ = word p.rooms 2 in
    let most : r ≤ 4096 =
    leb-true r 4096 (is_true _ (and_right (leb 1 r) (leb r 4096) (and_right (within 1 1024 (word p.rooms 0)) (within 1 4096 r) s.rooms_range))) in
    rw (length-map p.rules listed) (omega (arith, s.few))

module _ (m : List ℕ) (p : Plan) (state : state_of m ≡ some p) (s : Sound p) where
  reads_as : (opening : List ℕ) (past : List Call) → p.rooms ≡ opened_rooms opening → ((n : ℕ) → held p n ≡ last_content n past) → ReadsAs m opening past p
  unfolding referrers listing
  reads_as opening past rooms sets =
      record {
        count_is = λ r e. e ∙ ap rule_count state;
        few_rules = few_listed p s;
        rule_is = λ k r e. e ∙ ap (λ (o : Option Plan). rule_wanted (rule_at_place o k)) state;
        content_is = λ n out left r g.
            subst (λ (c : Option (List ℕ)). GivesRead (content_read (rooms_of (opened_rooms opening)).sets (length out) n c) out left r) (sets n)
            (subst (λ (b : List ℕ). GivesRead (content_read (rooms_of b).sets (length out) n (held p n)) out left r) rooms (given n out left r g));
        reads_back = λ n content out left r e h g.
            subst (λ (x : Read). GivesRead x out left r) (read_back p s n content (length out) (sets n ∙ e) h) (given n out left r g);
        referrers_are = λ n r e.
            e ∙ (ap (λ (o : Option Plan). referrer_count o n) state
            ∙ (ap₂ (λ (b : List ℕ) (c : Option (List ℕ)). count_read (rooms_of b).sets n c (referrers p n)) rooms (sets n)
            ∙ ap (count_read (rooms_of (opened_rooms opening)).sets n (last_content n past)) (sym (naming_is n p.rules))));
        conditioned_is = λ class ds out left r g. subst (λ (o : Option Plan). GivesRead (conditioned o (length out) class ds) out left r) state g;
        span_is = λ class ds v r e. e ∙ ap (λ (o : Option Plan). span_of (stretch o class ds v)) state;
        stretch_is = λ class ds at v part part_at g. subst (λ (o : Option Plan). GivesStretch (stretch o class ds v) ds at part part_at) state g;
        choice_is = λ class ds c e.
            subst (λ (q : Plan). ChoosesAs class ds q c) (plan_held m p state) (chooses_as m (memory_sound m p state) class ds c e);
        answer_is = λ body out left r g. subst (λ (o : Option Plan). GivesAnswer (answer o (length out) body) out left r) state g;
      }
    where
      given : (n : ℕ) (out left : List ℕ) (r : Result ℕ Refusal) → ContentPromise m n out left r → GivesRead (set_content (some p) (length out) n) out left r
      given n out left r g = subst (λ (o : Option Plan). GivesRead (set_content o (length out) n) out left r) state g

-- REMOVING A HELD SET

-- the number of a set stands in the first two bytes
number_front : (b : List ℕ) → 2 ≤ length b → set_number (take 2 b) ≡ set_number b
number_front [] h = absurd (omega (arith, h))
number_front (x ∷ []) h = absurd (omega (arith, h))
number_front (x ∷ y ∷ b) h = refl

-- none of a listing names set n
abbrev names_set : ℕ → Listed → Bool
names_set n l = eqb l.set n

none_counts : (n : ℕ) (ls : List Listed) → ((l : Listed) → Memᴰ l ls → l.set ≢ n) → naming n ls ≡ 0
none_counts n [] f = refl
none_counts n (l ∷ ls) f = go (names_set n l) refl (none_counts n ls (λ k i. f k (Memᴰ.tail i)))
  where
    go : (b : Bool) → names_set n l ≡ b → naming n ls ≡ 0 → naming n (l ∷ ls) ≡ 0
    go true e ih = absurd (f l (Memᴰ.head refl) (eqb-true l.set n e))
    go false e ih = rw e (omega (arith, ih))

none_named : (n : ℕ) (ls : List Listed) → (naming n ls ≡ 0) ↔ ((l : Listed) → Memᴰ l ls → l.set ≢ n)
none_named n ls = (each, none_counts n ls)
  where
    each : naming n ls ≡ 0 → (l : Listed) → Memᴰ l ls → l.set ≢ n
    each e l i same =
        let named : any (names_set n) ls ≡ true = is_true _ (any_mem (names_set n) ls i (rw same (eqb_refl n))) in
        let both : true ≡ false = sym named ∙ (none_counted (names_set n) ls).1 e in
        let z : ◌≡◌ {A = ℕ} 0 1 = cc in omega arith

module _ (m : List ℕ) (p : Plan) (state : state_of m ≡ some p) (s : Sound p) where
  -- the count of rules naming a held set
  counted : (n : ℕ) (c : Result ℕ Refusal) → T (is_some (held p n)) → ReferrersPromise m n c → count_of c ≡ record { refusal = 0; number = referrers p n }
  counted n c t e = e ∙ (ap (λ (o : Option Plan). referrer_count o n) state ∙ rw (held_below p n s t, is_true (is_some (held p n)) t))

  -- an accepted removal takes the set out
  taken_out : (b : List ℕ) → refusal (lacks_bytes (length m)) (some p) (removal b) ≡ 0 → set_number (take 2 b) ≡ set_number b
      → after (lacks_bytes (length m)) (state_of m) (removal b) ≡ some (with_slot (set_number b) none p)
  unfolding after body_length
  taken_out b e front = rw (state, e, front)

  -- a refused one leaves the memory
  refused_keeps : (b : List ℕ) → refusal (lacks_bytes (length m)) (state_of m) (removal b) ≡ IN-USE → memory_after (removal b) m ≡ m
  unfolding memory_after
  refused_keeps b e = rw e

  removes : (b left : List ℕ) (r : ℕ) → 2 ≤ length b → T (is_some (held p (set_number b))) → Provides (calls remove_set b) m left r → Removes m left p (set_number b) r
  unfolding body_length
  removes b left r h t g =
      let whole : T (not (is_cut (removal b))) = false_is (ltb (length b) 2) (le-ltb (length b) 2 h) in
      let front : set_number (take 2 b) ≡ set_number b = number_front b h in
      let both = removable (lacks_bytes (length m)) p s b whole (rw front t) in
      let number : r ≡ refusal (lacks_bytes (length m)) (some p) (removal b) =
      g.number_is ∙ ap (λ (o : Option Plan). refusal (lacks_bytes (length m)) o (removal b)) state in
      let exact : (r ≡ 0) ↔ (referrers p (set_number b) ≡ 0) = rw (number, ← front) both.0 in
      record {
        no_rule_lem = (λ e. (none_named (set_number b) (listing p)).0 (same_count p (set_number b) ∙ exact.0 e), λ f. exact.1 (sym (same_count p (set_number b)) ∙ (none_named (set_number b) (listing p)).1 f));
        none_counted = λ c e.
            let is = counted (set_number b) c t e in
            (λ z. is ∙ ap (λ (k : ℕ). record { refusal = 0; number = k }) (exact.0 z), λ z. exact.1 (ap (λ (k : Count). k.number) (sym is ∙ z)));
        in_use = rw number both.1;
        gone = λ e. ap state_of g.memory_is ∙ ((after_call (removal b) m).state ∙ taken_out b (sym number ∙ e) front);
        kept = λ e. g.memory_is ∙ refused_keeps b (sym g.number_is ∙ e);
      }

-- CONDITIONING

-- a value that a code sets is a byte
value_byte : (c : ℕ) → value_of c ≤ 255
value_byte c = omega (arith, value_small c)

-- what covers the digits depends on what is read of bytes alone
covers_same : (read other : ℕ → Stretch) (prefix ds : List ℕ) → ((v : ℕ) → v ≤ 255 → other v ≡ read v) → {at : ℕ} {xs : List CA}
    → Covers read prefix ds at xs → Covers other prefix ds at xs
covers_same read other prefix ds e covered = covered
covers_same read other prefix ds e (fixed {a = a} c is h rest) = fixed c (e (value_of a.code) (value_byte a.code) ∙ is) h (covers_same read other prefix ds e rest)
covers_same read other prefix ds e (ignored c h rest) = ignored c h (covers_same read other prefix ds e rest)
covers_same read other prefix ds e (matched {a = a} c is q h rest) = matched c (e (value_of a.code) (value_byte a.code) ∙ is) q h (covers_same read other prefix ds e rest)
covers_same read other prefix ds e (all_left {a = a} c is h rest) = all_left c (e (value_of a.code) (value_byte a.code) ∙ is) h (covers_same read other prefix ds e rest)
covers_same read other prefix ds e (takes_none c rest) = takes_none c (covers_same read other prefix ds e rest)

adds_same : (read other : ℕ → List ℕ) (ds : List ℕ) → ((v : ℕ) → v ≤ 255 → other v ≡ read v) → (at : ℕ) (a : CA) → adds other ds at a ≡ adds read ds at a
adds_same read other ds e at a =
    ap (λ (d : List ℕ). if is_ign a then part at a.count ds else if is_ccdef a then [] else d) (e (value_of a.code) (value_byte a.code))

joined_same : (read other : ℕ → List ℕ) (ds : List ℕ) → ((v : ℕ) → v ≤ 255 → other v ≡ read v) → (at : ℕ) (xs : List CA) → joined other ds at xs ≡ joined read ds at xs
joined_same read other ds e at [] = refl
joined_same read other ds e at (a ∷ xs) =
    ap (λ (d : List ℕ). d ++ joined other ds (at + length d) xs) (adds_same read other ds e at a)
    ∙ ap (λ (d : List ℕ). adds read ds at a ++ d) (joined_same read other ds e (at + length (adds read ds at a)) xs)

module _ (m : List ℕ) (p : Plan) (state : state_of m ≡ some p) (s : Sound p) where
  conditions_as : (class : ℕ) (ds : List ℕ) (r : Rule) (content : List ℕ) → Conditions p class ds r content
      → (out left : List ℕ) (w : Result ℕ Refusal) → DIGIT-ROOM ≤ length out → ConditionedPromise m class ds out left w → ConditionsAs m class ds r content w
  conditions_as class ds r content given out left w room g =
      let holds : NumberHolds p class ds r content (length out) = every_number p (sound_of_lem p s) class ds r content given (length out) room in
      let same : refusal_of_written w ≡ (conditioned (some p) (length out) class ds).refusal =
      g.result.refusal ∙ ap (λ (o : Option Plan). (conditioned o (length out) class ds).refusal) state in
      record {
        only_short = rw same holds.only_short;
        short_exactly = rw same holds.short_exactly;
        covers = λ z spans promised.
            covers_same (stretch (some p) class ds) (λ v. stretch_given (spans v)) (filter_in r).prefix ds
            (λ v h. ap stretch_given (promised v h ∙ ap (λ (o : Option Plan). span_of (stretch o class ds v)) state)) (holds.accounted (sym same ∙ z)).covers;
        joins = λ z at parts places promised.
            joined_same (λ v. digits_at (stretch (some p) class ds v) ds) parts ds
            (λ v h. (promised v h).digits ∙ ap (λ (o : Option Plan). digits_at (stretch o class ds v) ds) state) 0 (actions_of content).cas
            ∙ (holds.accounted (sym same ∙ z)).joins;
        length_is = λ z.
            let long : bytes_written w ≡ length (conditioned (some p) (length out) class ds).bytes =
            g.result.bytes ∙ ap (λ (o : Option Plan). length (conditioned o (length out) class ds).bytes) state in
            rw long (holds.length_is (sym same ∙ z));
      }

-- EVERY LIST THAT BEGINS WITH AN ACCEPTED OPENING

-- the number of a call in the list, over what the calls before it put in
number_at_lem : (lacks : List ℕ → Bool) (s : Option Plan) (front back : List Call) (c : Call)
    → get_or (refusals_from lacks s (front ++ (c ∷ back))) (length front) 0 ≡ refusal lacks (put_in_from lacks s front) c
number_at_lem lacks s [] back c = refl
number_at_lem lacks s (x ∷ front) back c = number_at_lem lacks (after lacks s x) front back c

-- each beginning of a list with an accepted opening is such a list
before_call : (lacks : List ℕ → Bool) (b c : List ℕ) (cs front back : List Call) (x : Call) (numbers : List ℕ) → refusal lacks none (calls open_plan b) ≡ 0
    → numbers ≡ refusals_from lacks none (calls open_plan b ∷ cs) → calls open_plan b ∷ cs ≡ calls open_plan c ∷ (front ++ (x ∷ back))
    → (q : PutIn lacks (calls open_plan c ∷ front)) × (get_or numbers (length (calls open_plan c ∷ front)) 0 ≡ refusal lacks (some q.plan) x)
before_call lacks b c cs front back x numbers accept are e =
    let same : calls open_plan b ≡ calls open_plan c = cc in
    let q : PutIn lacks (calls open_plan c ∷ front) = (every_opened_list lacks c front (ap (refusal lacks none) (sym same) ∙ accept)).put_in_lem in
    let all_of : numbers ≡ refusals_from lacks none ((calls open_plan c ∷ front) ++ (x ∷ back)) = are ∙ ap (refusals_from lacks none) e in (
      q,
      ap (λ (ns : List ℕ). get_or ns (length (calls open_plan c ∷ front)) 0) all_of
          ∙ (number_at_lem lacks none (calls open_plan c ∷ front) back x ∙ ap (λ (s : Option Plan). refusal lacks s x) q.carried),
    )

-- the number of the first call
first_number : {before m b : List ℕ} {cs : List Call} {n : ℕ} {numbers : List ℕ} → Chain before (calls open_plan b ∷ cs) (n ∷ numbers) m
    → n ≡ refusal (lacks_bytes (length before)) none (calls open_plan b)
first_number {before} {b = b} (next g t) = g.number_is ∙ same_refusal (lacks_bytes (length before)) (state_of before) b

pub demand3 : Demand3
demand3 before m b cs numbers t =
    let size : ℕ = length before in
    let lacks : List ℕ → Bool = lacks_bytes size in
    let accept : refusal lacks none (calls open_plan b) ≡ 0 = sym (first_number t) in
    let o = from_opening t accept in
    let d = every_opened_list lacks b cs accept in
    let i : PutIn lacks (calls open_plan b ∷ cs) = d.put_in_lem in
    let p : Plan = i.plan in
    let state : state_of m ≡ some p = o.state ∙ i.carried in
    let s : Sound p = sound_parts p i.is_sound in
    record {
      numbers_are = o.numbers;
      before_each = λ c front back x e. before_call lacks b c cs front back x (0 ∷ numbers) accept o.numbers e;
      never_plan = subst (λ (ns : List ℕ). T (all (λ (r : ℕ). not (eqb r PLAN)) ns)) (sym o.numbers) d.never_plan;
      put_in_lem = i;
      size_is = o.size;
      state = state;
      sound_memory = memory_sound m p state;
      sets_pass = λ n c e. held_passes p.slots n c s.pass (i.sets n ∙ e);
      reads = reads_as m p state s i.opening (accepted lacks (calls open_plan b ∷ cs)) i.rooms i.sets;
      removable = λ c left r h held g. removes m p state s c left r h (subst (λ (x : Option (List ℕ)). T (is_some x)) (sym (i.sets (set_number c))) held) g;
      conditions = conditions_as m p state s;
    }
