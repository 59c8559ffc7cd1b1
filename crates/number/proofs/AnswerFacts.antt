-- Every answer over a sound plan to a number in range can be written down: one decimal digit each for its outcome, class, response and count, and
-- at most 32 outgoing digits, none where it is refused.
use Prim.Native.Nat.{ℕ, zero, suc, ◌+◌, ◌-◌, ◌≤◌, ◌<◌}
use mathlib.Core.Path.{◌≡◌, refl}
use mathlib.Core.Logic.{◌≢◌}
use mathlib.Core.Bool.{Bool, true, false, ◌&&◌, ◌||◌, not}
use mathlib.Core.List.{List, [], ◌∷◌, ◌++◌}
use mathlib.Core.Option.{Option}
use native.Mathlib.Omega.{arith}
use lib.ListN.{length, take, drop, get_or, length-take, length-append}
use lib.Dec.{T, leb, eqb, leb→le}
use borrow.Author.Tests.{leb-true}
use Rattle.meaning.specs.Basics.{all, any, is_empty, is_zero, is_digit, within, contains, part, digits_of, digits_in_range}
use Rattle.std.specs.Prelude.{if◌then◌else◌}
use Rattle.meaning.specs.Refusals.{SHORT, LONG}
use Rattle.meaning.specs.Settings.{AS-INCOMING, is_class, is_outgoing_class, Settings, settings_of, settings_ranges, settings_in_range, Lookup, lookup_of, entity_in_range, asd_or_grn_in_range, lookup_ranges, lookup_in_range, Number, number_of, number_ranges, number_in_range}
use Rattle.meaning.specs.Filters.{Filter}
use Rattle.meaning.specs.Rules.{Rule, filter_in}
use Rattle.meaning.specs.Actions.{LAST-CONDITIONED, CC, RN, INPRTG, CDPNNP, ASDLKUP, GRNLKUP, CDIAL, CA, is_ccdef, ActionSet, codes_of, sa_bytes, actions_of, content_ranges, content_in_range}
use Rattle.meaning.specs.Conditioning.{short, stretch_of, digits_at, value_from}
use Rattle.meaning.specs.Services.{Stage, at_start, responded, inprtg, rn_set, cdpnnp, asdlkup, grnlkup, cdial, carry_out, serve, value_to_send, join}
use Rattle.meaning.specs.Plan.{Plan, settings_in, content_rules, content_passes}
use Rattle.meaning.specs.Answer.{NO-RULE, ESCAPED, RESPONDED, UNCHANGED, FORMATTED, Answer, refused, unserved, served, outgoing_class, formatted, after_services, answer_by, answer_with, answer_under, answer_of}
use Rattle.meaning.proofs.Tests.{and_left, and_right, and_both, either, each_all, all_at, all_take, all_drop}
use Rattle.meaning.proofs.Serving.{by_code}
use Rattle.meaning.proofs.Choice.{Choice, no_rule, the_rule, choice}
use Rattle.meaning.proofs.Soundness.{Sound, names_held}

pub record Printable (a : Answer) : Type 0 where
  pub outcome : a.outcome < 10
  pub class : a.class < 10
  pub response : a.response < 10
  pub count : a.count < 10
  pub digits : T (all is_digit a.digits)
  pub few : length a.digits ≤ 32
  pub refused : a.refusal ≢ 0 → a.digits ≡ []

-- TESTS AND LISTS

module _ {A : Type 0} (p : A → Bool) where
  all_append : (xs ys : List A) → T (all p xs) → T (all p ys) → T (all p (xs ++ ys))
  all_append [] ys s t = t
  all_append (x ∷ xs) ys s t =
      and_both (p x) (all p (xs ++ ys)) (and_left (p x) (all p xs) s) (all_append xs ys (and_right (p x) (all p xs) s) t)

-- at any place, with 0 behind the end
four_at : (xs : List ℕ) (k : ℕ) → T (all (within 1 4) xs) → get_or xs k 0 ≤ 4
four_at [] k t = omega arith
four_at (x ∷ xs) zero t =
    leb→le x 4 (and_right (leb 1 x) (leb x 4) (and_left (within 1 4 x) (all (within 1 4) xs) t))
four_at (x ∷ xs) (suc k) t = four_at xs k (and_right (within 1 4 x) (all (within 1 4) xs) t)

-- DIGITS

-- each of them is a digit
abbrev pub Digits : List ℕ → Type 0
Digits ds = T (all is_digit ds)

pub digits_of_lem : (lo hi : ℕ) (b : List ℕ) → T (digits_in_range lo hi b) → Digits (digits_of b)
digits_of_lem lo hi [] t = absurd t
digits_of_lem lo hi (n ∷ ds) t =
    and_left (all is_digit (take n ds)) (all is_zero (drop n ds)) (and_right (within lo hi n) (all is_digit (take n ds) && all is_zero (drop n ds)) t)

join_digits : (value : ℕ → List ℕ) → ((f : ℕ) → Digits (value f)) → (fs : List ℕ) → Digits (join value fs)
join_digits value h [] = tt
join_digits value h (f ∷ fs) = all_append is_digit (value f) (join value fs) (h f) (join_digits value h fs)

-- WHAT THE SETTINGS, THE NUMBER AND THE SET ARE

record SettingsFine (s : Settings) : Type 0 where
  country : Digits s.country
  dfltrn : Digits s.dfltrn
  delimiter_a : Digits s.delimiter_a
  delimiter_b : Digits s.delimiter_b
  answers : T (all (within 1 4) s.answers)

settings_fine : (b : List ℕ) → T (settings_in_range b) → SettingsFine (settings_of b)
unfolding settings_in_range settings_of
settings_fine b t =
    let at : (k : ℕ) → T (get_or (settings_ranges b) k true) = λ k. all_at k (settings_ranges b) t in
    record {
      country = digits_of_lem 1 3 (part 0 4 b) (at 0);
      dfltrn = digits_of_lem 0 15 (part 4 16 b) (at 1);
      delimiter_a = digits_of_lem 0 5 (part 20 6 b) (at 2);
      delimiter_b = digits_of_lem 0 5 (part 26 6 b) (at 3);
      answers = at 4;
    }

record LookupFine (l : Lookup) : Type 0 where
  entity : Digits l.entity
  asd : Digits l.asd
  grn : Digits l.grn

entity_digits : (kind : ℕ) (b : List ℕ) → T (entity_in_range kind b) → Digits (digits_of b)
unfolding entity_in_range
entity_digits kind b t = go (leb 2 kind) t
  where
    go : (c : Bool) → T (if c then digits_in_range 1 15 b else digits_in_range 0 0 b) → Digits (digits_of b)
    go true u = digits_of_lem 1 15 b u
    go false u = digits_of_lem 0 0 b u

asd_or_grn_digits : (kind : ℕ) (b : List ℕ) → T (asd_or_grn_in_range kind b) → Digits (digits_of b)
unfolding asd_or_grn_in_range
asd_or_grn_digits kind b t = go (is_zero kind) t
  where
    go : (c : Bool) → T (if c then digits_in_range 0 0 b else digits_in_range 0 10 b) → Digits (digits_of b)
    go true u = digits_of_lem 0 0 b u
    go false u = digits_of_lem 0 10 b u

lookup_fine : (b : List ℕ) → T (lookup_in_range b) → LookupFine (lookup_of b)
unfolding lookup_in_range lookup_of
lookup_fine b t =
    let at : (k : ℕ) → T (get_or (lookup_ranges b) k true) = λ k. all_at k (lookup_ranges b) t in
    record {
      entity = entity_digits (get_or b 0 0) (part 1 16 b) (at 1);
      asd = asd_or_grn_digits (get_or b 0 0) (part 17 11 b) (at 2);
      grn = asd_or_grn_digits (get_or b 0 0) (part 28 11 b) (at 3);
    }

record NumberFine (n : Number) : Type 0 where
  class : n.class < 10
  digits : Digits n.digits
  lookup : LookupFine n.lookup

number_fine : (b : List ℕ) → T (number_in_range b) → NumberFine (number_of b)
unfolding number_in_range number_of
number_fine b t =
    let at : (k : ℕ) → T (get_or (number_ranges b) k true) = λ k. all_at k (number_ranges b) t in
    let low : get_or b 0 0 ≤ 5 = leb→le (get_or b 0 0) 5 (at 0) in
    record { class = omega arith; digits = digits_of_lem 0 32 (part 1 33 b) (at 1); lookup = lookup_fine (part 34 39 b) (at 2) }

record SetFine (s : ActionSet) : Type 0 where
  class : T (is_outgoing_class s.class)
  sas : length s.sas ≤ 8

codes_few : (b : List ℕ) → length (codes_of b) ≤ length b
codes_few [] = omega arith
codes_few (c ∷ b) =
    either (λ (xs : List ℕ). length xs ≤ suc (length b)) (is_zero c) [] (c ∷ codes_of b) (omega arith) (omega (arith, codes_few b))

set_fine : (c : List ℕ) → T (content_passes c) → SetFine (actions_of c)
unfolding content_passes content_in_range actions_of
set_fine c t =
    let bytes : length (sa_bytes c) ≤ 8 = rw (length-take 8 (drop 25 c)) (omega arith) in
    record {
      class = all_at 0 (content_ranges c) (all_at 1 (content_rules c) t);
      sas = omega (arith, codes_few (sa_bytes c));
    }

-- THE CLASS ANSWERED

class_below : (set incoming : ℕ) → T (is_outgoing_class set) → incoming < 10 → outgoing_class set incoming < 10
unfolding outgoing_class
class_below set incoming t h = go (eqb set AS-INCOMING) t
  where
    or_no : (b : Bool) → T (b || false) → T b
    or_no true u = tt
    or_no false u = u

    go : (b : Bool) → T (is_class set || b) → (if b then incoming else set) < 10
    go true u = h
    go false u = omega (arith, leb→le set 5 (or_no (is_class set) u))

-- THE SERVICE ACTIONS

-- at most n are done
record StageFine (n : ℕ) (s : Stage) : Type 0 where
  response : s.response ≤ 4
  done : length s.done ≤ n
  rn : Digits s.rn
  sp : Digits s.sp
  asd : Digits s.asd
  grn : Digits s.grn

start_fine : StageFine 0 at_start
unfolding at_start
start_fine = record { response = omega arith; done = omega arith; rn = tt; sp = tt; asd = tt; grn = tt }

stage_more : (n m : ℕ) (s : Stage) → n ≤ m → StageFine n s → StageFine m s
stage_more n m s h k =
    record { response = k.response; done = omega (arith, k.done); rn = k.rn; sp = k.sp; asd = k.asd; grn = k.grn }

-- one more is done
one_more : (xs : List ℕ) (c n : ℕ) → length xs ≤ n → length (xs ++ (c ∷ [])) ≤ n + 1
one_more xs c n h = rw (length-append xs (c ∷ [])) (omega arith)

module _ (settings : Settings) (lookup : Lookup) (fas : List ℕ) (sf : SettingsFine settings) (lf : LookupFine lookup) where
  module _ (n : ℕ) (s : Stage) (k : StageFine n s) where
    -- with these values
    with_values : (code response : ℕ) (rn sp asd grn : List ℕ) (withheld : Bool) → response ≤ 4 → Digits rn → Digits sp → Digits asd → Digits grn
        → StageFine (n + 1) (record { response = response; done = s.done ++ (code ∷ []); rn = rn; sp = sp; asd = asd; grn = grn; withheld = withheld })
    with_values code response rn sp asd grn withheld a b c d e = record { response = a; done = one_more s.done code n k.done; rn = b; sp = c; asd = d; grn = e }

    rn_digits : Digits (rn_set settings lookup fas s)
    unfolding rn_set
    rn_digits =
        let other : List ℕ = if eqb lookup.kind 3 && (not (is_empty settings.dfltrn) && contains RN fas) then settings.dfltrn else s.rn in
        either Digits (eqb lookup.kind 2) lookup.entity other lf.entity
        (either Digits (eqb lookup.kind 3 && (not (is_empty settings.dfltrn) && contains RN fas)) settings.dfltrn s.rn sf.dfltrn k.rn)

    carried_fine : (c : ℕ) → StageFine (n + 1) (carry_out settings lookup fas c s)
    unfolding inprtg cdpnnp asdlkup grnlkup cdial
    carried_fine c =
        by_code settings lookup fas (StageFine (n + 1)) c s
        (with_values INPRTG _ _ _ _ _ _ (four_at settings.answers lookup.kind sf.answers) k.rn k.sp k.asd k.grn)
        (with_values CDPNNP _ _ _ _ _ _ k.response rn_digits (either Digits (eqb lookup.kind 3) lookup.entity s.sp lf.entity k.sp) k.asd k.grn)
        (with_values ASDLKUP _ _ _ _ _ _ k.response k.rn k.sp (either Digits (is_empty lookup.asd) s.asd lookup.asd k.asd lf.asd) k.grn)
        (with_values GRNLKUP _ _ _ _ _ _ k.response k.rn k.sp k.asd (either Digits (is_empty lookup.grn) s.grn lookup.grn k.grn lf.grn))
        (with_values CDIAL _ _ _ _ _ _ k.response k.rn k.sp k.asd k.grn)

  serve_fine : (cs : List ℕ) (n : ℕ) (s : Stage) → StageFine n s → StageFine (n + length cs) (serve settings lookup fas cs s)
  serve_fine [] n s k = stage_more n (n + 0) s (omega arith) k
  serve_fine (c ∷ cs) n s k =
      let next : Stage = serve settings lookup fas cs (carry_out settings lookup fas c s) in
      either (StageFine (n + suc (length cs))) (responded s) s next (stage_more n (n + suc (length cs)) s (omega arith) k)
      (stage_more (n + 1 + length cs) (n + suc (length cs)) next (omega arith)
      (serve_fine cs (n + 1) (carry_out settings lookup fas c s) (carried_fine n s k c)))

-- FORMATTING

value_digits : (country : List ℕ) (prefix : ℕ) (ds : List ℕ) (xs : List CA) (v : ℕ) → Digits country → Digits ds → Digits (value_from country prefix ds xs v)
unfolding value_from
value_digits country prefix ds xs v c d =
    let s = stretch_of v prefix (length ds) xs in
    either Digits (eqb v CC && any is_ccdef xs) country (digits_at s ds) c (all_take is_digit s.count (drop s.start ds) (all_drop is_digit s.start ds d))

-- one of some strings of digits, none behind the last
one_of : (xs : List (List ℕ)) (k : ℕ) → T (all (all is_digit) xs) → Digits (get_or xs k [])
one_of [] k t = tt
one_of (x ∷ xs) zero t = and_left (all is_digit x) (all (all is_digit) xs) t
one_of (x ∷ xs) (suc k) t = one_of xs k (and_right (all is_digit x) (all (all is_digit) xs) t)

sent_digits : (settings : Settings) (value : ℕ → List ℕ) (n : ℕ) (s : Stage) → SettingsFine settings → ((v : ℕ) → Digits (value v)) → StageFine n s
    → (f : ℕ) → Digits (value_to_send settings value s f)
unfolding value_to_send
sent_digits settings value n s sf h k f =
    let sent : List (List ℕ) = s.rn ∷ s.sp ∷ s.asd ∷ s.grn ∷ settings.delimiter_a ∷ settings.delimiter_b ∷ [] in
    let each : T (all (all is_digit) sent) =
    each_all
    (all is_digit s.rn ∷ all is_digit s.sp ∷ all is_digit s.asd ∷ all is_digit s.grn ∷ all is_digit settings.delimiter_a ∷ all is_digit settings.delimiter_b ∷ [])
    (k.rn, (k.sp, (k.asd, (k.grn, (sf.delimiter_a, (sf.delimiter_b, tt)))))) in
    either Digits (leb f LAST-CONDITIONED) (value f) (get_or sent (f - 11) []) (h f) (one_of sent (f - 11) each)

-- THE ANSWERS

unserved_printable : (outcome class : ℕ) → outcome < 10 → class < 10 → Printable (unserved outcome class)
unfolding unserved
unserved_printable outcome class o c =
    record { outcome = o; class = c; response = omega arith; count = omega arith; digits = tt; few = omega arith; refused = λ n. refl }

pub refused_printable : (r : ℕ) → Printable (refused r)
unfolding refused
refused_printable r =
    record { outcome = omega arith; class = omega arith; response = omega arith; count = omega arith; digits = tt; few = omega arith; refused = λ n. refl }

module _ (s : Stage) (k : StageFine 8 s) where
  served_printable : (outcome class : ℕ) (ds : List ℕ) → outcome < 10 → class < 10 → Digits ds → length ds ≤ 32 → Printable (served outcome class s ds)
  unfolding served
  served_printable outcome class ds o c d f =
      record {
        outcome = o;
        class = c;
        response = omega (arith, k.response);
        count = omega (arith, k.done);
        digits = d;
        few = f;
        refused = λ n. absurd (n refl);
      }

  formatted_printable : (class : ℕ) (out : List ℕ) → class < 10 → Digits out → Printable (formatted class s out)
  unfolding formatted
  formatted_printable class out c d = go (leb (length out) 32) refl
    where
      go : (b : Bool) → leb (length out) 32 ≡ b → Printable (if b then served FORMATTED class s out else refused LONG)
      go true e = served_printable FORMATTED class out (omega arith) c d (leb-true (length out) 32 e)
      go false e = refused_printable LONG

  after_printable : (incoming outgoing : ℕ) (out : List ℕ) → incoming < 10 → outgoing < 10 → Digits out → Printable (after_services incoming outgoing s out)
  unfolding after_services
  after_printable incoming outgoing out i o d =
      let later : Answer = if s.withheld then served UNCHANGED incoming s [] else formatted outgoing s out in
      either Printable (responded s) (served RESPONDED incoming s []) later (served_printable RESPONDED incoming [] (omega arith) i tt (omega arith))
      (either Printable s.withheld (served UNCHANGED incoming s []) (formatted outgoing s out)
      (served_printable UNCHANGED incoming [] (omega arith) i tt (omega arith)) (formatted_printable outgoing out o d))

by_set : (settings : Settings) (n : Number) (f : Filter) (s : ActionSet) → SettingsFine settings → NumberFine n → SetFine s → Printable (answer_by settings n f s)
unfolding answer_by answer_with
by_set settings n f s sf nf af =
    let prefix : ℕ = length f.prefix in
    let stage : Stage = serve settings n.lookup s.fas s.sas at_start in
    let value : ℕ → List ℕ = value_from settings.country prefix n.digits s.cas in
    let class : ℕ = outgoing_class s.class n.class in
    let below : class < 10 = class_below s.class n.class af.class nf.class in
    let stage-fine : StageFine 8 stage =
    stage_more (0 + length s.sas) 8 stage (omega (arith, af.sas)) (serve_fine settings n.lookup s.fas sf nf.lookup s.sas 0 at_start start_fine) in
    let out : List ℕ = join (value_to_send settings value stage) s.fas in
    let out-digits : Digits out =
    join_digits (value_to_send settings value stage)
    (sent_digits settings value 8 stage sf (λ v. value_digits settings.country prefix n.digits s.cas v sf.country nf.digits) stage-fine) s.fas in
    let rest : Answer = after_services n.class class stage out in
    let later : Answer = if short prefix (length n.digits) s.cas then refused SHORT else rest in
    either Printable (is_empty s.cas) (unserved ESCAPED class) later (unserved_printable ESCAPED class (omega arith) below)
    (either Printable (short prefix (length n.digits) s.cas) (refused SHORT) rest (refused_printable SHORT)
    (after_printable stage stage-fine n.class class out nf.class below out-digits))

-- THE THEOREM

pub printable : (p : Plan) → Sound p → (body : List ℕ) → T (number_in_range body) → Printable (answer_of p (number_of body))
unfolding answer_of
printable p s body t = go (choice (number_of body).class (number_of body).digits p.rules s.order)
  where
    go : {o : Option Rule} → Choice (number_of body).class (number_of body).digits p.rules o → Printable (answer_under p (number_of body) o)
    go (no_rule none_fits) = unserved_printable NO-RULE (number_of body).class (omega arith) (number_fine body t).class
    go (the_rule r c) =
        let h = names_held p s r c.held in
        rw h.is_held
        (by_set (settings_in p) (number_of body) (filter_in r) (actions_of h.content) (settings_fine p.settings s.settings_range) (number_fine body t) (set_fine h.content h.passes))
