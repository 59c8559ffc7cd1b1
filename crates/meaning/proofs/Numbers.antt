-- Over every sound plan, a number whose chosen rule has conditioning actions is conditioned as demand 3 says.
use Prim.Native.Nat.{ℕ, ◌≤◌, ◌<◌}
use mathlib.Core.Path.{◌≡◌, refl, ap, sym, subst, ◌∙◌}
use mathlib.Core.Logic.{◌≢◌, inl, inr}
use mathlib.Core.Bool.{Bool, true, false, ◌&&◌}
use mathlib.Core.List.{List, [], ◌∷◌, Memᴰ}
use mathlib.Core.Option.{Option, none, some}
use native.Mathlib.Omega.{arith}
use lib.ListN.{length, take, drop, get_or, length-take}
use lib.Dec.{T, leb, leb→le}
use borrow.Author.Tests.{le-ltb, le-leb}
use Rattle.meaning.specs.Sizes.{DIGIT-ROOM}
use Rattle.meaning.specs.Basics.{all, is_digit, is_zero, within, part, digits_of, digits_in_range}
use Rattle.std.specs.Prelude.{if◌then◌else◌}
use Rattle.meaning.specs.Refusals.{SHORT}
use Rattle.meaning.specs.Settings.{settings_of, settings_ranges, settings_in_range, dialled_ranges, dialled_in_range}
use Rattle.meaning.specs.Filters.{fits_number}
use Rattle.meaning.specs.Rules.{Rule, filter_in}
use Rattle.meaning.specs.Actions.{actions_of, content_ranges, content_in_range, ca_bytes}
use Rattle.meaning.specs.Groups.{group_rules, groups_hold, fit}
use Rattle.meaning.specs.Conditioning.{short, stretch_of, value_from, conditioned_from}
use Rattle.meaning.specs.Plan.{Plan, settings_in, content_rules, content_passes, fits_held, rules_fit, sound}
use Rattle.meaning.specs.Reads.{Read, unread, read, conditioned_by, conditioned, stretch_by, stretch}
use Rattle.meaning.specs.Numbers.{Conditions, NumberHolds, EveryNumber}
use Rattle.meaning.proofs.Tests.{is_true, and_left, and_right, all_at, all_mem, digits_few}
use Rattle.meaning.proofs.Choice.{Choice, no_rule, the_rule, choice}
use Rattle.meaning.proofs.Stretches.{all_ranged, Ready, short_exactly, accounted}
use Rattle.meaning.proofs.ConditionedNumber.{conditioned_length}
use Rattle.meaning.proofs.Soundness.{Sound, sound_parts, held_passes}

-- WHAT SOUNDNESS GIVES OF THE CHOSEN RULE AND ITS SET

module _ (p : Plan) (s : Sound p) (class : ℕ) (ds : List ℕ) (r : Rule) (content : List ℕ) (given : Conditions p class ds r content) where
  passes : T (content_passes content)
  passes = held_passes p.slots r.set content s.pass given.set

  groups : (k : ℕ) → T (get_or (group_rules (actions_of content)) k true)
  unfolding content_passes groups_hold
  groups k = all_at k (group_rules (actions_of content)) (all_at 2 (content_rules content) passes)

  is_held : Memᴰ r p.rules × T (fits_number (filter_in r) class ds)
  is_held = go (choice class ds p.rules s.order) given.rule
    where
      go : {o : Option Rule} → Choice class ds p.rules o → o ≡ some r → Memᴰ r p.rules × T (fits_number (filter_in r) class ds)
      go (no_rule n) e = absurd (let z : ◌≡◌ {A = ℕ} 0 1 = cc in omega arith)
      go (the_rule x c) e = let q : x ≡ r = cc in rw (← q) (c.held, c.fits)

  fits_set : T (fit (filter_in r) (actions_of content))
  unfolding rules_fit
  fits_set =
      subst (λ (o : Option (List ℕ)). T (fits_held (filter_in r) o)) given.set
      (all_mem (λ (x : Rule). fits_held (filter_in x) (get_or p.slots x.set none)) p.rules s.fits is_held.0)

  ready : Ready (filter_in r) (actions_of content) class ds
  unfolding content_passes content_in_range actions_of fit
  ready =
      record {
        in_range = all_ranged (ca_bytes content) (all_at 1 (content_ranges content) (all_at 1 (content_rules content) passes));
        once = groups 2;
        first = groups 3;
        behind_x = groups 5;
        some = given.actions;
        fits = fits_set;
        number = is_held.1;
      }

-- THE COUNTRY CODE HAS 1 TO 3 DIGITS, THE NUMBER AT MOST 32

-- a digit string as long as its length byte says
digits_least : (lo hi : ℕ) (b : List ℕ) → T (digits_in_range lo hi b) → hi < length b → lo ≤ length (digits_of b)
digits_least lo hi [] t h = absurd t
digits_least lo hi (n ∷ ds) t h =
    let w = and_left (within lo hi n) (all is_digit (take n ds) && all is_zero (drop n ds)) t in
    let a = leb→le lo n (and_left (leb lo n) (leb n hi) w) in
    let c = leb→le n hi (and_right (leb lo n) (leb n hi) w) in
    rw (length-take n ds) (omega arith)

-- THE THEOREM

module _ (p : Plan) (t : T (sound p)) (class : ℕ) (ds : List ℕ) (r : Rule) (content : List ℕ) (given : Conditions p class ds r content) where
  -- the conditioned call, where neither ROOM nor RANGE is drawn
  conditioned_is : (size : ℕ) → DIGIT-ROOM ≤ size
      → conditioned (some p) size class ds
      ≡ (if short (length (filter_in r).prefix) (length ds) (actions_of content).cas then unread SHORT else
      read (conditioned_from (actions_of content).cas (value_from (settings_in p).country (length (filter_in r).prefix) ds (actions_of content).cas)))
  unfolding conditioned_by
  conditioned_is size h =
      rw (le-ltb size DIGIT-ROOM h, is_true (dialled_in_range class ds) given.in_range, given.rule, given.set, given.actions)

  stretch_is : short (length (filter_in r).prefix) (length ds) (actions_of content).cas ≡ false → (v : ℕ) → v ≢ 0 → v ≤ 10
      → stretch (some p) class ds v ≡ stretch_of v (length (filter_in r).prefix) (length ds) (actions_of content).cas
  unfolding stretch_by
  stretch_is q v z h =
      let least : 1 ≤ v = omega arith in
      rw (is_true (dialled_in_range class ds) given.in_range, le-leb 1 v least, le-leb v 10 h, given.rule, given.set, q)

  country_range : T (digits_in_range 1 3 (part 0 4 p.settings))
  unfolding settings_in_range
  country_range = all_at 0 (settings_ranges p.settings) (sound_parts p t).settings_range

  lengths : short (length (filter_in r).prefix) (length ds) (actions_of content).cas ≡ false
      → (1 ≤ length (conditioned_from (actions_of content).cas (value_from (settings_in p).country (length (filter_in r).prefix) ds (actions_of content).cas)))
      × (length (conditioned_from (actions_of content).cas (value_from (settings_in p).country (length (filter_in r).prefix) ds (actions_of content).cas)) ≤ 35)
  unfolding settings_of dialled_in_range
  lengths q =
      let k = ready p (sound_parts p t) class ds r content given in
      let whole : length (part 0 4 p.settings) ≡ 4 = rw (length-take 4 p.settings, (sound_parts p t).settings_size) in
      conditioned_length (settings_in p).country (filter_in r).prefix ds (actions_of content).cas k.in_range
      (accounted (filter_in r) (actions_of content) class ds k (λ (v : ℕ). stretch_of v (length (filter_in r).prefix) (length ds) (actions_of content).cas) (λ v z h. refl) q).covers
      (leb→le (length ds) 32 (all_at 1 (dialled_ranges class ds) given.in_range))
      (digits_least 1 3 (part 0 4 p.settings) country_range (omega arith)) (digits_few 1 3 (part 0 4 p.settings) country_range)
      given.actions (groups p (sound_parts p t) class ds r content given 1)

  -- where conditioning is refused, and where it is not
  by_short : (size : ℕ) → DIGIT-ROOM ≤ size → (b : Bool) → short (length (filter_in r).prefix) (length ds) (actions_of content).cas ≡ b
      → NumberHolds p class ds r content size
  by_short size h true e =
      let exact = short_exactly (filter_in r) (actions_of content) class ds (ready p (sound_parts p t) class ds r content given) in
      let is : conditioned (some p) size class ds ≡ unread SHORT = conditioned_is size h ∙ rw e in
      let number : (conditioned (some p) size class ds).refusal ≡ SHORT = ap (λ (x : Read). x.refusal) is in
      record { only_short = inr number; short_exactly = (λ q. exact.0 e, λ q. number); accounted = λ z. absurd (omega arith); length_is = λ z. absurd (omega arith) }
  by_short size h false e =
      let k = ready p (sound_parts p t) class ds r content given in
      let exact = short_exactly (filter_in r) (actions_of content) class ds k in
      let is : conditioned (some p) size class ds
      ≡ read (conditioned_from (actions_of content).cas (value_from (settings_in p).country (length (filter_in r).prefix) ds (actions_of content).cas)) =
      conditioned_is size h ∙ rw e in
      let number : (conditioned (some p) size class ds).refusal ≡ 0 = ap (λ (x : Read). x.refusal) is in
      record {
        only_short = inl number;
        short_exactly = (λ q. absurd (omega arith), λ q. absurd (let f : true ≡ false = sym (exact.1 q) ∙ e in let z : ◌≡◌ {A = ℕ} 0 1 = cc in omega arith));
        accounted = λ z. accounted (filter_in r) (actions_of content) class ds k (stretch (some p) class ds) (stretch_is e) e;
        length_is = λ z. subst (λ (x : Read). (1 ≤ length x.bytes) × (length x.bytes ≤ 35)) (sym is) (lengths e);
      }

pub every_number : EveryNumber
every_number p t class ds r content given size enough =
    by_short p t class ds r content given size enough (short (length (filter_in r).prefix) (length ds) (actions_of content).cas) refl
