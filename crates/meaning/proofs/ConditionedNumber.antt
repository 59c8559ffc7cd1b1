-- The conditioned number has 1 to 35 digits: the stretches of two values do not overlap, and a country code has at most 3 digits.
use Prim.Native.Nat.{ℕ, ◌+◌, ◌-◌, ◌≤◌}
use mathlib.Core.Path.{◌≡◌, refl, ap, sym, ◌∙◌}
use mathlib.Core.Logic.{◌≢◌}
use mathlib.Core.Bool.{Bool, true, false, ◌||◌, not}
use mathlib.Core.List.{List, [], ◌∷◌, ◌++◌}
use native.Mathlib.Omega.{arith}
use lib.ListN.{length, length-append}
use lib.Dec.{T, leb, eqb, eqb→eq, leb→le}
use borrow.Author.Tests.{eqb-true, le-leb, ne_eqb}
use Rattle.meaning.specs.Basics.{all, any, is_empty, is_zero, within}
use Rattle.std.specs.Prelude.{if◌then◌else◌}
use Rattle.meaning.specs.Actions.{CC, AC, SN, DN, ZN, IGN, LAST-COUNTED, SNX, ZNX, FPFX, CCDEF, CA, is_ccdef, value_of, sets_value, most_of, ca_in_range}
use Rattle.meaning.specs.Groups.{is_set, one_format, format_stands}
use Rattle.meaning.specs.Conditioning.{Stretch, stretch_of, digits_at, value_from, conditioned_from}
use Rattle.meaning.specs.Stretches.{stretch_at, Covers, covered, fixed, ignored, matched, all_left, takes_none}
use Rattle.meaning.proofs.Tests.{true_is, is_false, false_is, and_left, and_right, or_left_false, or_right_false, all_below, at_below, part_length}
use Rattle.meaning.proofs.Stretches.{ranged, ranged_below}

-- ONE VALUE, AND TWO

-- a stretch of at least one digit, from place `at` on
record Inside (at : ℕ) (ds : List ℕ) (s : Stretch) : Type 0 where
  starts : at ≤ s.start
  ends : s.start + s.count ≤ length ds
  some : 1 ≤ s.count

-- a fixed action takes at least one digit
fixed_some : (a : CA) → T (ranged a) → a.code ≤ LAST-COUNTED → (1 ≤ a.count) × (a.count ≤ most_of a.code)
unfolding ca_in_range
fixed_some a t h =
    let r : T (ca_in_range a.code a.count) = and_right (not (is_zero a.code)) (ca_in_range a.code a.count) t in
    let w : T (within 1 (most_of a.code) a.count) = rw (le-leb a.code LAST-COUNTED h) at r in (
      leb→le 1 a.count (and_left (leb 1 a.count) (leb a.count (most_of a.code)) w),
      leb→le a.count (most_of a.code) (and_right (leb 1 a.count) (leb a.count (most_of a.code)) w),
    )

-- CC is set by code 2 or by CCDEF
cc_test : ℕ → Bool
cc_test c = not (eqb (value_of c) CC) || (eqb c 2 || eqb c CCDEF)

cc_codes : T (all_below cc_test 16)
unfolding cc_test value_of
cc_codes = tt

cc_code : (a : CA) → T (ranged a) → sets_value CC a ≡ true → is_ccdef a ≡ false → a.code ≡ 2
unfolding cc_test
cc_code a t q d =
    let h : T (not (eqb (value_of a.code) CC) || (eqb a.code 2 || eqb a.code CCDEF)) = at_below cc_test 16 cc_codes a.code (ranged_below a t) in
    go (eqb a.code 2) refl (rw (q, d) at h)
  where
    go : (b : Bool) → eqb a.code 2 ≡ b → T (b || false) → a.code ≡ 2
    go true e u = eqb-true a.code 2 e
    go false e u = absurd u

cc_most : (a : CA) → a.code ≡ 2 → a.count ≤ most_of a.code → a.count ≤ 3
unfolding most_of
cc_most a e h = rw e at h

value_at_lem : (a : CA) (c v : ℕ) → a.code ≡ c → sets_value v a ≡ true → value_of c ≡ v
value_at_lem a c v e q = ap value_of (sym e) ∙ eqb-true (value_of a.code) v q

module _ (read : ℕ → Stretch) (prefix ds : List ℕ) where
  inside_digits : {at : ℕ} {xs : List CA} → Covers read prefix ds at xs → at ≤ length ds
  inside_digits covered = omega arith
  inside_digits (fixed c e h rest) = omega (arith, h)
  inside_digits (ignored c h rest) = omega (arith, h)
  inside_digits (matched c e p h rest) = omega (arith, h)
  inside_digits (all_left c e h rest) = omega (arith, h)
  inside_digits (takes_none c rest) = inside_digits rest

  -- one action: what it takes, the actions behind it, and that AC, SN, DN and ZN are taken from the number
  record Step (at : ℕ) (a : CA) (xs : List CA) : Type 0 where
    takes : ℕ
    inside : at + takes ≤ length ds
    rest : Covers read prefix ds (at + takes) xs
    own : (v : ℕ) → 2 ≤ v → v ≤ 5 → sets_value v a ≡ true → (read v ≡ stretch_at at takes) × (1 ≤ takes)

  -- the action's value is read where it starts
  reads : (a : CA) (v at w : ℕ) → sets_value v a ≡ true → read (value_of a.code) ≡ stretch_at at w → read v ≡ stretch_at at w
  reads a v at w q e = ap read (sym (eqb-true (value_of a.code) v q)) ∙ e

  step : {at : ℕ} {a : CA} {xs : List CA} → T (ranged a) → Covers read prefix ds at (a ∷ xs) → Step at a xs
  unfolding value_of
  step {at} {a} r (fixed c e h rest) =
      let high : a.code ≤ LAST-COUNTED = leb→le a.code LAST-COUNTED (and_right (leb 2 a.code) (leb a.code LAST-COUNTED) c) in
      record { takes = a.count; inside = h; rest = rest; own = λ v lo hi q. (reads a v at a.count q e, (fixed_some a r high).0) }
  step {at} {a} r (ignored c h rest) =
      record {
        takes = a.count;
        inside = h;
        rest = rest;
        own = λ v lo hi q. absurd (let z = value_at_lem a IGN v (eqb→eq a.code IGN c) q in omega arith);
      }
  step {at} {a} r (matched c e p h rest) =
      record {
        takes = length prefix;
        inside = h;
        rest = rest;
        own = λ v lo hi q. absurd (let z = value_at_lem a FPFX v (eqb→eq a.code FPFX c) q in omega arith);
      }
  step {at} {a} r (all_left c e h rest) =
      let whole : at + (length ds - at) ≡ length ds = omega arith in
      record { takes = length ds - at; inside = omega arith; rest = rw whole rest; own = λ v lo hi q. (reads a v at (length ds - at) q e, omega arith) }
  step {at} {a} r (takes_none c rest) =
      let here : at + 0 ≡ at = omega arith in
      record {
        takes = 0;
        inside = rw here (inside_digits rest);
        rest = rw here rest;
        own = λ v lo hi q. absurd (let z = value_at_lem a CCDEF v (eqb→eq a.code CCDEF c) q in omega arith);
      }

  one_value : {at : ℕ} (xs : List CA) → Covers read prefix ds at xs → T (all ranged xs) → (v : ℕ) → 2 ≤ v → v ≤ 5 → T (is_set v xs) → Inside at ds (read v)
  one_value [] c r v lo hi t = absurd t
  one_value {at} (a ∷ xs) c r v lo hi t =
      go (step (and_left (ranged a) (all ranged xs) r) c) (sets_value v a) refl t
      (λ b k u. one_value {at = b} xs k (and_right (ranged a) (all ranged xs) r) v lo hi u)
    where
      go : Step at a xs → (b : Bool) → sets_value v a ≡ b → T (b || is_set v xs)
          → ((b : ℕ) → Covers read prefix ds b xs → T (is_set v xs) → Inside b ds (read v)) → Inside at ds (read v)
      go s true q u ih = rw (s.own v lo hi q).0 (record { starts = omega arith; ends = s.inside; some = (s.own v lo hi q).1 })
      go s false q u ih = let i = ih (at + s.takes) s.rest u in record { starts = omega (arith, i.starts); ends = i.ends; some = i.some }

  -- two values do not overlap
  two_values : {at : ℕ} (xs : List CA) → Covers read prefix ds at xs → T (all ranged xs) → (v w : ℕ) → 2 ≤ v → v ≤ 5 → 2 ≤ w → w ≤ 5 → v ≢ w
      → T (is_set v xs) → T (is_set w xs) → at + ((read v).count + (read w).count) ≤ length ds
  two_values [] c r v w lo hi lo' hi' ne t u = absurd t
  two_values {at} (a ∷ xs) c r v w lo hi lo' hi' ne t u =
      go (step (and_left (ranged a) (all ranged xs) r) c) (sets_value v a) (sets_value w a) refl refl t u
      (λ b k x. one_value {at = b} xs k (and_right (ranged a) (all ranged xs) r) v lo hi x)
      (λ b k x. one_value {at = b} xs k (and_right (ranged a) (all ranged xs) r) w lo' hi' x)
      (λ b k x y. two_values {at = b} xs k (and_right (ranged a) (all ranged xs) r) v w lo hi lo' hi' ne x y)
    where
      go : Step at a xs → (b d : Bool) → sets_value v a ≡ b → sets_value w a ≡ d → T (b || is_set v xs) → T (d || is_set w xs)
          → ((b : ℕ) → Covers read prefix ds b xs → T (is_set v xs) → Inside b ds (read v))
          → ((b : ℕ) → Covers read prefix ds b xs → T (is_set w xs) → Inside b ds (read w))
          → ((b : ℕ) → Covers read prefix ds b xs → T (is_set v xs) → T (is_set w xs) → b + ((read v).count + (read w).count) ≤ length ds)
          → at + ((read v).count + (read w).count) ≤ length ds
      go s true true p q x y f g ih = absurd (ne (sym (eqb-true (value_of a.code) v p) ∙ eqb-true (value_of a.code) w q))
      go s true false p q x y f g ih =
          let i = g (at + s.takes) s.rest y in
          rw (s.own v lo hi p).0 (omega (arith, i.starts, i.ends))
      go s false true p q x y f g ih =
          let i = f (at + s.takes) s.rest x in
          rw (s.own w lo' hi' q).0 (omega (arith, i.starts, i.ends))
      go s false false p q x y f g ih = omega (arith, ih (at + s.takes) s.rest x y)

  -- CC, where no CCDEF sets it, has 1 to 3 digits
  cc_value : {at : ℕ} (xs : List CA) → Covers read prefix ds at xs → T (all ranged xs) → any is_ccdef xs ≡ false → T (is_set CC xs)
      → (1 ≤ (read CC).count) × ((read CC).count ≤ 3) × ((read CC).start + (read CC).count ≤ length ds)
  cc_value [] c r d t = absurd t
  cc_value {at} (a ∷ xs) c r d t =
      go (sets_value CC a) refl c t (λ b k u. cc_value {at = b} xs k (and_right (ranged a) (all ranged xs) r) later u)
    where
      later : any is_ccdef xs ≡ false
      later = is_false _ (or_right_false (is_ccdef a) (any is_ccdef xs) (false_is _ d))

      not_default : is_ccdef a ≡ false
      not_default = is_false _ (or_left_false (is_ccdef a) (any is_ccdef xs) (false_is _ d))

      is_ranged : T (ranged a)
      is_ranged = and_left (ranged a) (all ranged xs) r

      own : sets_value CC a ≡ true → {b : ℕ} → Covers read prefix ds b (a ∷ xs)
          → (1 ≤ (read CC).count) × ((read CC).count ≤ 3) × ((read CC).start + (read CC).count ≤ length ds)
      own q {b} k =
          let two : a.code ≡ 2 = cc_code a is_ranged q not_default in
          let few = fixed_some a is_ranged (omega arith) in
          let most : a.count ≤ 3 = cc_most a two few.1 in
          read_cc q two few.0 most k
        where
          read_cc : sets_value CC a ≡ true → a.code ≡ 2 → 1 ≤ a.count → a.count ≤ 3 → {b : ℕ} → Covers read prefix ds b (a ∷ xs)
              → (1 ≤ (read CC).count) × ((read CC).count ≤ 3) × ((read CC).start + (read CC).count ≤ length ds)
          read_cc q two lo hi {b} (fixed c e h rest) = rw (reads a CC b a.count q e) (lo, hi, h)
          read_cc q two lo hi (ignored c h rest) = absurd (omega (arith, eqb→eq a.code IGN c))
          read_cc q two lo hi (matched c e p h rest) = absurd (omega (arith, eqb→eq a.code FPFX c))
          read_cc q two lo hi (all_left c e h rest) =
              absurd (omega (arith, leb→le SNX a.code (and_left (leb SNX a.code) (leb a.code ZNX) c)))
          read_cc q two lo hi (takes_none c rest) = absurd (omega (arith, eqb→eq a.code CCDEF c))

      go : (b : Bool) → sets_value CC a ≡ b → Covers read prefix ds at (a ∷ xs) → T (b || is_set CC xs)
          → ((b : ℕ) → Covers read prefix ds b xs → T (is_set CC xs) → (1 ≤ (read CC).count) × ((read CC).count ≤ 3) × ((read CC).start + (read CC).count ≤ length ds))
          → (1 ≤ (read CC).count) × ((read CC).count ≤ 3) × ((read CC).start + (read CC).count ≤ length ds)
      go true q k u ih = own q k
      go false q k u ih = let s = step is_ranged k in ih (at + s.takes) s.rest u

-- THE FORMAT THAT STANDS

-- by CC, AC, SN, DN and ZN: the three international formats
data Format : Bool → Bool → Bool → Bool → Bool → Type 0 where
  zone : {cc ac sn dn : Bool} → Format cc ac sn dn true
  national : {ac sn : Bool} → Format true ac sn true false
  area : Format true true true false false

format : (cc ac sn dn zn : Bool) → T (one_format cc ac sn dn zn) → Format cc ac sn dn zn
unfolding one_format
format cc ac sn dn true t = zone
format true ac sn true false t = national
format false ac sn true false t = absurd t
format true true true false false t = area
format true true false false false t = absurd t
format true false sn false false t = absurd t
format false ac sn false false t = absurd t

-- THE LENGTH

module _ (country prefix ds : List ℕ) (xs : List CA) (r : T (all ranged xs))
    (c : Covers (λ (v : ℕ). stretch_of v (length prefix) (length ds) xs) prefix ds 0 xs) (few : length ds ≤ 32)
    (least : 1 ≤ length country) (most : length country ≤ 3) where
  read : ℕ → Stretch
  read v = stretch_of v (length prefix) (length ds) xs

  value : ℕ → List ℕ
  value v = value_from country (length prefix) ds xs v

  taken_value : (v : ℕ) → 2 ≤ v → v ≤ 5 → T (is_set v xs) → length (value v) ≡ (read v).count
  unfolding value read value_from
  taken_value v lo hi t =
      let i = one_value (λ (w : ℕ). stretch_of w (length prefix) (length ds) xs) prefix ds xs c r v lo hi t in
      rw (ne_eqb v 1 (λ e. omega arith)) (part_length ds (stretch_of v (length prefix) (length ds) xs).start (stretch_of v (length prefix) (length ds) xs).count i.ends)

  inside_value : (v : ℕ) → 2 ≤ v → v ≤ 5 → T (is_set v xs) → (1 ≤ length (value v)) × (length (value v) ≤ 32)
  unfolding read
  inside_value v lo hi t =
      let i = one_value (λ (w : ℕ). stretch_of w (length prefix) (length ds) xs) prefix ds xs c r v lo hi t in
      rw (taken_value v lo hi t) (i.some, omega (arith, i.ends))

  country_value : T (is_set CC xs) → (1 ≤ length (value CC)) × (length (value CC) ≤ 3)
  unfolding value value_from
  country_value t = go (any is_ccdef xs) refl
    where
      go : (b : Bool) → any is_ccdef xs ≡ b
          → (1 ≤ length (if b then country else digits_at (stretch_of CC (length prefix) (length ds) xs) ds))
          × (length (if b then country else digits_at (stretch_of CC (length prefix) (length ds) xs) ds) ≤ 3)
      go true e = (least, most)
      go false e =
          let v = cc_value (λ (w : ℕ). stretch_of w (length prefix) (length ds) xs) prefix ds xs c r e t in
          rw (part_length ds (stretch_of CC (length prefix) (length ds) xs).start (stretch_of CC (length prefix) (length ds) xs).count v.2) (v.0, v.1)

  by_format : (cc ac sn dn zn : Bool) → Format cc ac sn dn zn → is_set CC xs ≡ cc → is_set AC xs ≡ ac → is_set SN xs ≡ sn → is_set DN xs ≡ dn → is_set ZN xs ≡ zn
      → (1 ≤ length (if zn then value ZN else if dn then value CC ++ value DN else value CC ++ (value AC ++ value SN)))
      × (length (if zn then value ZN else if dn then value CC ++ value DN else value CC ++ (value AC ++ value SN)) ≤ 35)
  unfolding read
  by_format false ac sn dn false f a b s d z = elim f [ ]
  by_format true false sn false false f a b s d z = elim f [ ]
  by_format true true false false false f a b s d z = elim f [ ]
  by_format cc ac sn dn true zone a b s d z =
      let v = inside_value ZN (omega arith) (omega arith) (true_is _ z) in (v.0, omega (arith, v.1))
  by_format true ac sn true false national a b s d z =
      let v = country_value (true_is _ a) in let w = inside_value DN (omega arith) (omega arith) (true_is _ d) in
      rw (length-append (value CC) (value DN)) (omega (arith, v.0), omega (arith, v.1, w.1))
  by_format true true true false false area a b s d z =
      let v = country_value (true_is _ a) in
      let both = two_values (λ (w : ℕ). stretch_of w (length prefix) (length ds) xs) prefix ds xs c r AC SN (omega arith) (omega arith) (omega arith) (omega arith)
      (λ e. omega (arith, e)) (true_is _ b) (true_is _ s) in
      rw (
        length-append (value CC) (value AC ++ value SN),
        length-append (value AC) (value SN),
        taken_value AC (omega arith) (omega arith) (true_is _ b),
        taken_value SN (omega arith) (omega arith) (true_is _ s),
      )
      (omega (arith, v.0), omega (arith, v.1, both))

  -- "at most 35 digits", and at least one
  pub conditioned_length : is_empty xs ≡ false → T (format_stands xs)
      → (1 ≤ length (conditioned_from xs (value_from country (length prefix) ds xs))) × (length (conditioned_from xs (value_from country (length prefix) ds xs)) ≤ 35)
  unfolding conditioned_from format_stands value
  conditioned_length e t =
      by_format (is_set CC xs) (is_set AC xs) (is_set SN xs) (is_set DN xs) (is_set ZN xs)
      (format (is_set CC xs) (is_set AC xs) (is_set SN xs) (is_set DN xs) (is_set ZN xs) (rw e at t)) refl refl refl refl refl
