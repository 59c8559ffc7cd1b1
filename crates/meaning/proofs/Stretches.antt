-- A set that is in range, keeps the group rules and fits its rule covers every number that the filter fits, unless it is SHORT, and SHORT comes
-- exactly when demand 3 says.
use Prim.Native.Nat.{ℕ, zero, suc, ◌+◌, ◌-◌, ◌≤◌, ◌<◌}
use mathlib.Core.Path.{◌≡◌, refl, ap, sym, ◌∙◌}
use mathlib.Core.Logic.{◌↔◌, ◌≢◌}
use mathlib.Core.Bool.{Bool, true, false, ◌&&◌, ◌||◌, not}
use mathlib.Core.List.{List, [], ◌∷◌, ◌++◌, Memᴰ}
use native.Mathlib.Omega.{arith}
use lib.ListN.{length, take, drop, get_or, take-append-drop}
use lib.Seq.{drop-drop, drop-length}
use lib.Dec.{T, T_not, ltb, leb, eqb, eqb_refl, eqb→eq, leb→le, ltb→lt}
use borrow.Author.Tests.{eqb-true, eqb-false, leb-true, leb-false, ltb-true, ltb-false, lt-ltb, le-ltb, le-leb, lt-leb, eq-eqb, ne_eqb}
use Rattle.meaning.specs.Basics.{all, any, is_empty, is_zero, within, part}
use Rattle.std.specs.Prelude.{if◌then◌else◌}
use Rattle.meaning.specs.Filters.{Filter, length_fits, fits_number}
use Rattle.meaning.specs.Actions.{IGN, LAST-COUNTED, SNX, ZNX, FPFX, CCDEF, CA, is_ign, is_x, is_fpfx, is_ccdef, value_of, sets_value, ActionSet, cas_of, cas_in_range, ca_in_range, most_of}
use Rattle.meaning.specs.Groups.{is_set, each_value_once, fpfx_first, only_ccdef_after_x, fixed_of, fixed_sum, fpfx_meets_prefix, sum_fits, cas_fit}
use Rattle.meaning.specs.Conditioning.{width, meets_too_few, short, Stretch, stretch_from, stretch_of, digits_at, adds, joined}
use Rattle.meaning.specs.Stretches.{stretch_at, Covers, covered, fixed, ignored, matched, all_left, takes_none, ShortExactly, Accounted}
use Rattle.meaning.proofs.Tests.{is_true, true_is, is_false, false_is, and_left, and_right, and_both, or_left_false, or_right_false, or_other, all_mem, any_mem, all_below, at_below, part_length}
use Rattle.meaning.proofs.Choice.{Fits, fits_parts}

-- RANGE, OF EACH ACTION OF A LIST

abbrev pub ranged : CA → Bool
ranged a = not (is_zero a.code) && ca_in_range a.code a.count

pub all_ranged : (b : List ℕ) → T (cas_in_range b) → T (all ranged (cas_of b))
all_ranged [] t = tt
all_ranged (c ∷ []) t = tt
all_ranged (c ∷ n ∷ b) t = go (is_zero c) refl t (all_ranged b)
  where
    go : (z : Bool) → is_zero c ≡ z → T (if z then (is_zero n && all is_zero b) else (ca_in_range c n && cas_in_range b)) → (T (cas_in_range b) → T (all ranged (cas_of b)))
        → T (all ranged (if z then [] else (record { code = c; count = n } ∷ cas_of b)))
    go true e u ih = tt
    go false e u ih =
        and_both (not (is_zero c) && ca_in_range c n) (all ranged (cas_of b)) (rw e (and_left (ca_in_range c n) (cas_in_range b) u))
        (ih (and_right (ca_in_range c n) (cas_in_range b) u))

-- a value that a code sets is one of ten, or 0 for none
pub value_small : (c : ℕ) → value_of c ≤ 10
unfolding value_of
value_small c = go (0 ∷ 0 ∷ 1 ∷ 2 ∷ 3 ∷ 4 ∷ 5 ∷ 7 ∷ 8 ∷ 9 ∷ 10 ∷ 3 ∷ 4 ∷ 5 ∷ 6 ∷ 1 ∷ []) c tt
  where
    go : (vs : List ℕ) (k : ℕ) → T (all (λ v. leb v 10) vs) → get_or vs k 0 ≤ 10
    go [] k t = omega arith
    go (v ∷ vs) zero t = leb→le v 10 (and_left (leb v 10) (all (λ v. leb v 10) vs) t)
    go (v ∷ vs) (suc k) t = go vs k (and_right (leb v 10) (all (λ v. leb v 10) vs) t)

code_below : (c n : ℕ) → T (ca_in_range c n) → c < 16
unfolding ca_in_range
code_below c n t = go (leb c LAST-COUNTED) refl t
  where
    go : (b : Bool) → leb c LAST-COUNTED ≡ b → T (if b then within 1 (most_of c) n else (leb c CCDEF && is_zero n)) → c < 16
    go true e u = omega (arith, leb-true c 10 e)
    go false e u = omega (arith, leb→le c CCDEF (and_left (leb c CCDEF) (is_zero n) u))

pub ranged_below : (a : CA) → T (ranged a) → a.code < 16
ranged_below a t = code_below a.code a.count (and_right (not (is_zero a.code)) (ca_in_range a.code a.count) t)

ranged_above : (a : CA) → T (ranged a) → a.code ≢ 0
ranged_above a t e = T_not (is_zero a.code) (and_left (not (is_zero a.code)) (ca_in_range a.code a.count) t) (rw e tt)

-- WHAT EACH KIND OF ACTION TAKES FOR CERTAIN

x_code : (a : CA) → T (is_x a) → (SNX ≤ a.code) × (a.code ≤ ZNX)
x_code a t =
    (leb→le SNX a.code (and_left (leb SNX a.code) (leb a.code ZNX) t), leb→le a.code ZNX (and_right (leb SNX a.code) (leb a.code ZNX) t))

fixed_none : (m : ℕ) (a : CA) → LAST-COUNTED < a.code → a.code ≢ FPFX → fixed_of m a ≡ 0
fixed_none m a h n = rw (lt-leb a.code LAST-COUNTED h, ne_eqb a.code FPFX n)

x_fixed : (m : ℕ) (a : CA) → T (is_x a) → fixed_of m a ≡ 0
x_fixed m a t =
    let h : SNX ≤ a.code = (x_code a t).0 in let k : a.code ≤ ZNX = (x_code a t).1 in
    fixed_none m a (omega arith) (λ e. omega arith)

ccdef_fixed : (m : ℕ) (a : CA) → T (is_ccdef a) → fixed_of m a ≡ 0
ccdef_fixed m a t = let e : a.code ≡ CCDEF = eqb→eq a.code CCDEF t in fixed_none m a (omega arith) (λ q. omega arith)

ccdef_not_x : (a : CA) → T (is_ccdef a) → is_x a ≡ false
ccdef_not_x a t = let e : a.code ≡ CCDEF = eqb→eq a.code CCDEF t in rw e

ccdef_width : (m left : ℕ) (a : CA) → T (is_ccdef a) → width m left a ≡ 0
ccdef_width m left a t = rw (ccdef_not_x a t) (ccdef_fixed m a t)

-- SHORT

-- after an X action stand only CCDEFs, which take nothing and are never short
ccdefs_sum : (m : ℕ) (xs : List CA) → T (all is_ccdef xs) → fixed_sum m xs ≡ 0
ccdefs_sum m [] t = refl
ccdefs_sum m (a ∷ xs) t =
    rw (ccdef_fixed m a (and_left (is_ccdef a) (all is_ccdef xs) t), ccdefs_sum m xs (and_right (is_ccdef a) (all is_ccdef xs) t))

ccdefs_long : (m left : ℕ) (xs : List CA) → T (all is_ccdef xs) → short m left xs ≡ false
ccdefs_long m left [] t = refl
ccdefs_long m left (a ∷ xs) t =
    let c : T (is_ccdef a) = and_left (is_ccdef a) (all is_ccdef xs) t in
    let r : short m (left - 0) xs ≡ false = ccdefs_long m (left - 0) xs (and_right (is_ccdef a) (all is_ccdef xs) t) in
    rw (ccdef_not_x a c, ccdef_fixed m a c, le-ltb left 0 (omega arith)) r

-- with no X action: short exactly if fewer digits are left than F
plain_short : (m left : ℕ) (xs : List CA) → any is_x xs ≡ false → short m left xs ≡ ltb left (fixed_sum m xs)
plain_short m left [] e = sym (le-ltb left 0 (omega arith))
plain_short m left (a ∷ xs) e =
    let no : is_x a ≡ false = is_false (is_x a) (or_left_false (is_x a) (any is_x xs) (false_is _ e)) in
    let none : any is_x xs ≡ false = is_false (any is_x xs) (or_right_false (is_x a) (any is_x xs) (false_is _ e)) in
    rw (no, plain_short m (left - fixed_of m a) xs none) (go (ltb left (fixed_of m a)) refl)
  where
    go : (b : Bool) → ltb left (fixed_of m a) ≡ b → (b || ltb (left - fixed_of m a) (fixed_sum m xs)) ≡ ltb left (fixed_of m a + fixed_sum m xs)
    go true q = let h : left < fixed_of m a = ltb-true _ _ q in sym (lt-ltb left (fixed_of m a + fixed_sum m xs) (omega arith))
    go false q = less (ltb (left - fixed_of m a) (fixed_sum m xs)) refl
      where
        less : (c : Bool) → ltb (left - fixed_of m a) (fixed_sum m xs) ≡ c → c ≡ ltb left (fixed_of m a + fixed_sum m xs)
        less true p =
            let h : fixed_of m a ≤ left = ltb-false _ _ q in let k : left - fixed_of m a < fixed_sum m xs = ltb-true _ _ p in
            sym (lt-ltb left (fixed_of m a + fixed_sum m xs) (omega arith))
        less false p =
            let h : fixed_of m a ≤ left = ltb-false _ _ q in let k : fixed_sum m xs ≤ left - fixed_of m a = ltb-false _ _ p in
            sym (le-ltb left (fixed_of m a + fixed_sum m xs) (omega arith))

-- with one: short exactly if no more digits are left than F
x_short : (m left : ℕ) (xs : List CA) → any is_x xs ≡ true → T (only_ccdef_after_x xs) → short m left xs ≡ leb left (fixed_sum m xs)
x_short m left [] e o = absurd (let z : ◌≡◌ {A = ℕ} 0 1 = cc in omega arith)
x_short m left (a ∷ xs) e o = go (is_x a) refl e o (x_short m (left - fixed_of m a) xs)
  where
    here : (b : Bool) → is_zero left ≡ b → b ≡ leb left 0
    here true q = sym (le-leb left 0 (omega (arith, eqb-true left 0 q)))
    here false q = sym (lt-leb left 0 (omega (arith, eqb-false left 0 q)))

    or_none : (b : Bool) → (b || false) ≡ b
    or_none true = refl
    or_none false = refl

    later : (b : Bool) → ltb left (fixed_of m a) ≡ b → (b || leb (left - fixed_of m a) (fixed_sum m xs)) ≡ leb left (fixed_of m a + fixed_sum m xs)
    later true q = let h : left < fixed_of m a = ltb-true _ _ q in sym (le-leb left (fixed_of m a + fixed_sum m xs) (omega arith))
    later false q = less (leb (left - fixed_of m a) (fixed_sum m xs)) refl
      where
        less : (c : Bool) → leb (left - fixed_of m a) (fixed_sum m xs) ≡ c → c ≡ leb left (fixed_of m a + fixed_sum m xs)
        less true p =
            let h : fixed_of m a ≤ left = ltb-false _ _ q in let k : left - fixed_of m a ≤ fixed_sum m xs = leb-true _ _ p in
            sym (le-leb left (fixed_of m a + fixed_sum m xs) (omega arith))
        less false p =
            let h : fixed_of m a ≤ left = ltb-false _ _ q in let k : fixed_sum m xs < left - fixed_of m a = leb-false _ _ p in
            sym (lt-leb left (fixed_of m a + fixed_sum m xs) (omega arith))

    go : (b : Bool) → is_x a ≡ b → (b || any is_x xs) ≡ true → T (if b then all is_ccdef xs else only_ccdef_after_x xs)
        → (any is_x xs ≡ true → T (only_ccdef_after_x xs) → short m (left - fixed_of m a) xs ≡ leb (left - fixed_of m a) (fixed_sum m xs))
        → ((if b then is_zero left else ltb left (fixed_of m a)) || short m (left - (if b then left else fixed_of m a)) xs)
        ≡ leb left (fixed_of m a + fixed_sum m xs)
    go true q f p ih =
        rw (ccdefs_long m (left - left) xs p, x_fixed m a (true_is _ q), ccdefs_sum m xs p, or_none (is_zero left)) (here (is_zero left) refl)
    go false q f p ih = rw (ih f p) (later (ltb left (fixed_of m a)) refl)

-- WHICH VALUE AN ACTION SETS

-- IGN alone sets no value, over the fifteen codes
ign_test : ℕ → Bool
ign_test c = is_zero c || (if eqb c IGN then is_zero (value_of c) else not (is_zero (value_of c)))

ign_codes : T (all_below ign_test 16)
unfolding ign_test value_of
ign_codes = tt

sets_none : (a : CA) → T (ranged a) → is_zero (value_of a.code) ≡ is_ign a
unfolding ign_test
sets_none a t =
    let h : T (is_zero a.code || (if eqb a.code IGN then is_zero (value_of a.code) else not (is_zero (value_of a.code)))) =
    at_below ign_test 16 ign_codes a.code (ranged_below a t) in
    go (eqb a.code IGN) (is_zero (value_of a.code))
    (or_other (is_zero a.code) _ h (and_left (not (is_zero a.code)) (ca_in_range a.code a.count) t))
  where
    go : (i z : Bool) → T (if i then z else not z) → z ≡ i
    go true z u = is_true z u
    go false z u = is_false z u

values_few : T (all_below (λ (c : ℕ). leb (value_of c) 10) 16)
unfolding value_of
values_few = tt

-- the reader agrees with the stretches of a list of actions
abbrev Agrees : (ℕ → Stretch) → ℕ → ℕ → ℕ → List CA → Type 0
Agrees read m at left xs =
    (b : CA) → Memᴰ b xs → is_ign b ≡ false → is_ccdef b ≡ false → read (value_of b.code) ≡ stretch_from (value_of b.code) m at left xs

-- the first action's value covers what it takes
first_stretch : (read : ℕ → Stretch) (m at left : ℕ) (a : CA) (xs : List CA) → Agrees read m at left (a ∷ xs)
    → is_ign a ≡ false → is_ccdef a ≡ false → read (value_of a.code) ≡ stretch_at at (width m left a)
first_stretch read m at left a xs h e f =
    h a (Memᴰ.head refl) e f ∙ rw (eq-eqb (value_of a.code) (value_of a.code) refl, f)

-- an earlier action sets another value than a later one
later_differs : (a b : CA) (xs : List CA) → T (each_value_once (a ∷ xs)) → T (ranged b) → Memᴰ b xs → is_ign b ≡ false
    → eqb (value_of a.code) (value_of b.code) ≡ false
later_differs a b xs t k m e =
    ne_eqb (value_of a.code) (value_of b.code)
    (go (is_zero (value_of a.code)) refl
    (and_left (is_zero (value_of a.code) || not (is_set (value_of a.code) xs)) (each_value_once xs) t))
  where
    go : (z : Bool) → is_zero (value_of a.code) ≡ z → T (z || not (is_set (value_of a.code) xs)) → value_of a.code ≡ value_of b.code → ⊥
    go true f u q = let y : true ≡ false = sym f ∙ (ap is_zero q ∙ (sets_none b k ∙ e)) in let z : ◌≡◌ {A = ℕ} 0 1 = cc in omega arith
    go false f u q =
        T_not (is_set (value_of a.code) xs) u (any_mem (sets_value (value_of a.code)) xs m (rw q (eqb_refl (value_of b.code))))

agrees_later : (read : ℕ → Stretch) (m at left : ℕ) (a : CA) (xs : List CA) → T (each_value_once (a ∷ xs)) → T (all ranged xs)
    → Agrees read m at left (a ∷ xs) → Agrees read m (at + width m left a) (left - width m left a) xs
agrees_later read m at left a xs t k h b n e f =
    h b (Memᴰ.tail n) e f ∙ rw (later_differs a b xs t (all_mem ranged xs k n) n e)

-- HOW MANY DIGITS ARE TAKEN

abbrev taken : ℕ → ℕ → List CA → ℕ
taken m left [] = 0
taken m left (a ∷ xs) = width m left a + taken m (left - width m left a) xs

plain_taken : (m left : ℕ) (xs : List CA) → any is_x xs ≡ false → taken m left xs ≡ fixed_sum m xs
plain_taken m left [] e = refl
plain_taken m left (a ∷ xs) e =
    let no : is_x a ≡ false = is_false (is_x a) (or_left_false (is_x a) (any is_x xs) (false_is _ e)) in
    let none : any is_x xs ≡ false = is_false (any is_x xs) (or_right_false (is_x a) (any is_x xs) (false_is _ e)) in
    rw (no, plain_taken m (left - fixed_of m a) xs none)

ccdefs_taken : (m left : ℕ) (xs : List CA) → T (all is_ccdef xs) → taken m left xs ≡ 0
ccdefs_taken m left [] t = refl
ccdefs_taken m left (a ∷ xs) t =
    rw (ccdef_width m left a (and_left (is_ccdef a) (all is_ccdef xs) t), ccdefs_taken m (left - 0) xs (and_right (is_ccdef a) (all is_ccdef xs) t))

-- an action that meets enough digits takes no more than there are
pub enough : (m left : ℕ) (a : CA) → meets_too_few m left a ≡ false → width m left a ≤ left
enough m left a e = go (is_x a) e
  where
    go : (b : Bool) → (if b then is_zero left else ltb left (fixed_of m a)) ≡ false → (if b then left else fixed_of m a) ≤ left
    go true q = omega arith
    go false q = ltb-false left (fixed_of m a) q

-- the first action meets enough, and so do the others
record Long (m left : ℕ) (a : CA) (xs : List CA) : Type 0 where
  first : meets_too_few m left a ≡ false
  rest : short m (left - width m left a) xs ≡ false

long_parts : (m left : ℕ) (a : CA) (xs : List CA) → short m left (a ∷ xs) ≡ false → Long m left a xs
long_parts m left a xs e =
    let t : T (not (short m left (a ∷ xs))) = false_is _ e in
    record {
      first = is_false _ (or_left_false (meets_too_few m left a) (short m (left - width m left a) xs) t);
      rest = is_false _ (or_right_false (meets_too_few m left a) (short m (left - width m left a) xs) t);
    }

x_taken : (m left : ℕ) (xs : List CA) → any is_x xs ≡ true → T (only_ccdef_after_x xs) → short m left xs ≡ false → taken m left xs ≡ left
x_taken m left [] e o s = absurd (let z : ◌≡◌ {A = ℕ} 0 1 = cc in omega arith)
x_taken m left (a ∷ xs) e o s =
    let parts = long_parts m left a xs s in
    go (is_x a) refl e o parts.rest (enough m left a parts.first) (λ p q. x_taken m (left - width m left a) xs p q parts.rest)
  where
    go : (b : Bool) → is_x a ≡ b → (b || any is_x xs) ≡ true → T (if b then all is_ccdef xs else only_ccdef_after_x xs)
        → short m (left - width m left a) xs ≡ false → width m left a ≤ left
        → (any is_x xs ≡ true → T (only_ccdef_after_x xs) → taken m (left - width m left a) xs ≡ left - width m left a)
        → width m left a + taken m (left - width m left a) xs ≡ left
    go true q f p r w ih = rw (ccdefs_taken m (left - width m left a) xs p, q) (omega arith)
    go false q f p r w ih = rw (ih f p) (omega arith)

-- COVERING

-- what is known of the actions from place `at` on
record Rest (read : ℕ → Stretch) (prefix ds : List ℕ) (at left : ℕ) (xs : List CA) : Type 0 where
  in_range : T (all ranged xs)
  once : T (each_value_once xs)
  fpfx : T (any is_fpfx xs) → (at ≡ 0) × T (not (any is_fpfx (drop 1 xs)))
  long : short (length prefix) left xs ≡ false
  place : at + left ≡ length ds
  ends : at + taken (length prefix) left xs ≡ length ds
  agrees : Agrees read (length prefix) at left xs

module _ (read : ℕ → Stretch) (prefix ds : List ℕ) (prefix_is : prefix ≡ take (length prefix) ds) where
  rest_of : (at left : ℕ) (a : CA) (xs : List CA) (w : ℕ) → width (length prefix) left a ≡ w → Rest read prefix ds at left (a ∷ xs)
      → Rest read prefix ds (at + w) (left - w) xs
  rest_of at left a xs w e r =
      let m : ℕ = length prefix in
      let parts = long_parts m left a xs r.long in
      let few : width m left a ≤ left = enough m left a parts.first in
      let place : at + left ≡ length ds = r.place in
      let ends : at + (width m left a + taken m (left - width m left a) xs) ≡ length ds = r.ends in
      rw (← e)
      (record {
        in_range = and_right (ranged a) (all ranged xs) r.in_range;
        once = and_right (is_zero (value_of a.code) || not (is_set (value_of a.code) xs)) (each_value_once xs) r.once;
        fpfx = λ t. absurd (T_not (any is_fpfx xs) (r.fpfx (later t)).1 t);
        long = parts.rest;
        place = omega arith;
        ends = omega arith;
        agrees = agrees_later read m at left a xs r.once (and_right (ranged a) (all ranged xs) r.in_range) r.agrees;
      })
    where
      later : T (any is_fpfx xs) → T (is_fpfx a || any is_fpfx xs)
      later t = go (is_fpfx a)
        where
          go : (b : Bool) → T (b || any is_fpfx xs)
          go true = tt
          go false = t

  -- an action is an IGN, an X action, FPFX, CCDEF, or a fixed action that sets a value
  covers : (at left : ℕ) (xs : List CA) → Rest read prefix ds at left xs → Covers read prefix ds at xs
  covers at left [] r = let e : at ≡ length ds = omega (arith, r.ends) in rw e covered
  covers at left (a ∷ xs) r = go (is_ign a) (is_x a) (is_fpfx a) (is_ccdef a) refl refl refl refl (λ w e. covers (at + w) (left - w) xs (rest_of at left a xs w e r))
    where
      m : ℕ
      m = length prefix

      few : width m left a ≤ left
      few = enough m left a (long_parts m left a xs r.long).first

      whole : at + left ≡ length ds
      whole = r.place

      is_ranged : T (ranged a)
      is_ranged = and_left (ranged a) (all ranged xs) r.in_range

      go : (i x f c : Bool) → is_ign a ≡ i → is_x a ≡ x → is_fpfx a ≡ f → is_ccdef a ≡ c
          → ((w : ℕ) → width m left a ≡ w → Covers read prefix ds (at + w) xs) → Covers read prefix ds at (a ∷ xs)
      go true x f c ei ex ef ec ih =
          let code : a.code ≡ IGN = eqb-true a.code IGN ei in
          let w : width m left a ≡ a.count = rw code in
          let h : at + a.count ≤ length ds = omega arith in
          ignored (true_is _ ei) h (ih a.count w)
      go false true f c ei ex ef ec ih =
          let w : width m left a ≡ left = rw ex in
          let code : a.code ≤ ZNX = (x_code a (true_is _ ex)).1 in
          let no : is_ccdef a ≡ false = ne_eqb a.code CCDEF (λ e. omega arith) in
          let first : meets_too_few m left a ≡ false = (long_parts m left a xs r.long).first in
          let some : is_zero left ≡ false = sym (rw ex) ∙ first in
          let size : left ≡ length ds - at = omega arith in
          all_left (true_is _ ex) (first_stretch read m at left a xs r.agrees ei no ∙ ap (stretch_at at) (w ∙ size))
          (omega (arith, eqb-false left 0 some)) (rw whole at (ih left w))
      go false false true c ei ex ef ec ih =
          let code : a.code ≡ FPFX = eqb-true a.code FPFX ef in
          let w : width m left a ≡ m = rw code in
          let no : is_ccdef a ≡ false = rw code in
          let start : at ≡ 0 = (r.fpfx (rw ef tt)).0 in
          matched (true_is _ ef) (first_stretch read m at left a xs r.agrees ei no ∙ ap (stretch_at at) w)
          (rw start (sym prefix_is)) (omega arith) (ih m w)
      go false false false true ei ex ef ec ih =
          let w : width m left a ≡ 0 = ccdef_width m left a (true_is _ ec) in
          let here : at + 0 ≡ at = omega arith in
          takes_none (true_is _ ec) (rw here at (ih 0 w))
      go false false false false ei ex ef ec ih =
          let below : a.code < 16 = ranged_below a is_ranged in
          let above : a.code ≢ 0 = ranged_above a is_ranged in
          let ten : a.code ≤ LAST-COUNTED = fixed_code a.code below (eqb-false a.code FPFX ef) (eqb-false a.code CCDEF ec) ex in
          let w : width m left a ≡ a.count = rw (ex, le-leb a.code LAST-COUNTED ten) in
          let h : at + a.count ≤ length ds = omega arith in
          fixed (and_both (leb 2 a.code) (leb a.code LAST-COUNTED) (true_is _ (le-leb 2 a.code (omega (arith, eqb-false a.code IGN ei)))) (true_is _ (le-leb a.code LAST-COUNTED ten)))
          (first_stretch read m at left a xs r.agrees ei ec ∙ ap (stretch_at at) w) h (ih a.count w)
        where
          fixed_code : (c : ℕ) → c < 16 → c ≢ FPFX → c ≢ CCDEF → within SNX ZNX c ≡ false → c ≤ LAST-COUNTED
          fixed_code c h n k e = pick (leb SNX c) refl e
            where
              pick : (b : Bool) → leb SNX c ≡ b → (b && leb c ZNX) ≡ false → c ≤ LAST-COUNTED
              pick true q f = absurd (let z = leb-false c ZNX f in omega arith)
              pick false q f = let z = leb-false SNX c q in omega arith

-- JOINING: what covers the digits from a place on, joined in list order, is the digits from there on

part_rest : (ds : List ℕ) (at n : ℕ) → at + n ≤ length ds → take n (drop at ds) ++ drop (at + n) ds ≡ drop at ds
part_rest ds at n h = rw (← drop-drop n at ds) (take-append-drop n (drop at ds))

module _ (read : ℕ → Stretch) (prefix ds : List ℕ) where
  digits_read : ℕ → List ℕ
  digits_read v = digits_at (read v) ds

  join_step : (at n : ℕ) (a : CA) (xs : List CA) → adds digits_read ds at a ≡ part at n ds → at + n ≤ length ds
      → joined digits_read ds (at + n) xs ≡ drop (at + n) ds → joined digits_read ds at (a ∷ xs) ≡ drop at ds
  join_step at n a xs e h ih = rw (e, part_length ds at n h, ih) (part_rest ds at n h)

  adds_value : (at : ℕ) (a : CA) (s : Stretch) → is_ign a ≡ false → is_ccdef a ≡ false → read (value_of a.code) ≡ s
      → adds digits_read ds at a ≡ digits_at s ds
  unfolding digits_read
  adds_value at a s e f q = rw (e, f, q)

  adds_ignored : (at : ℕ) (a : CA) → is_ign a ≡ true → adds digits_read ds at a ≡ part at a.count ds
  adds_ignored at a e = rw e

  adds_nothing : (at : ℕ) (a : CA) → is_ign a ≡ false → is_ccdef a ≡ true → adds digits_read ds at a ≡ []
  adds_nothing at a e f = rw (e, f)

  joined_covers : {at : ℕ} {xs : List CA} → Covers read prefix ds at xs → joined digits_read ds at xs ≡ drop at ds
  joined_covers covered = sym (drop-length ds)
  joined_covers (fixed {at} {a} {xs} t e h c) =
      let low : 2 ≤ a.code = leb→le 2 a.code (and_left (leb 2 a.code) (leb a.code LAST-COUNTED) t) in
      let high : a.code ≤ LAST-COUNTED = leb→le a.code LAST-COUNTED (and_right (leb 2 a.code) (leb a.code LAST-COUNTED) t) in
      join_step at a.count a xs
      (adds_value at a (stretch_at at a.count) (ne_eqb a.code IGN (λ q. omega arith)) (ne_eqb a.code CCDEF (λ q. omega arith)) e) h (joined_covers c)
  joined_covers (ignored {at} {a} {xs} t h c) = join_step at a.count a xs (adds_ignored at a (is_true _ t)) h (joined_covers c)
  joined_covers (matched {at} {a} {xs} t e p h c) =
      let code : a.code ≡ FPFX = eqb→eq a.code FPFX t in
      join_step at (length prefix) a xs
      (adds_value at a (stretch_at at (length prefix)) (ne_eqb a.code IGN (λ q. omega arith)) (ne_eqb a.code CCDEF (λ q. omega arith)) e) h (joined_covers c)
  joined_covers (all_left {at} {a} {xs} t e h c) =
      let low : SNX ≤ a.code = (x_code a t).0 in let high : a.code ≤ ZNX = (x_code a t).1 in
      let all : at + (length ds - at) ≡ length ds = omega arith in
      join_step at (length ds - at) a xs
      (adds_value at a (stretch_at at (length ds - at)) (ne_eqb a.code IGN (λ q. omega arith)) (ne_eqb a.code CCDEF (λ q. omega arith)) e) (omega arith)
      (rw all (joined_covers c))
  joined_covers (takes_none {at} {a} {xs} t c) =
      let code : a.code ≡ CCDEF = eqb→eq a.code CCDEF t in
      let here : at + 0 ≡ at = omega arith in
      rw (adds_nothing at a (ne_eqb a.code IGN (λ q. omega arith)) (is_true _ t), here) (joined_covers c)

-- THE THEOREMS

-- what the group rules and the fit give of a set, its filter and a number
pub record Ready (f : Filter) (s : ActionSet) (class : ℕ) (ds : List ℕ) : Type 0 where
  pub in_range : T (all ranged s.cas)
  pub once : T (each_value_once s.cas)
  pub first : T (fpfx_first s.cas)
  pub behind_x : T (only_ccdef_after_x s.cas)
  pub some : is_empty s.cas ≡ false
  pub fits : T (cas_fit (length f.prefix) f.len s.cas)
  pub number : T (fits_number f class ds)

module _ (f : Filter) (s : ActionSet) (class : ℕ) (ds : List ℕ) (ready : Ready f s class ds) where
  m : ℕ
  m = length f.prefix

  F : ℕ
  F = fixed_sum (length f.prefix) s.cas

  sum_fits_lem : T (sum_fits f.len (any is_x s.cas) (fixed_sum (length f.prefix) s.cas))
  unfolding cas_fit
  sum_fits_lem = and_right (fpfx_meets_prefix (length f.prefix) s.cas) _ (or_other (is_empty s.cas) _ ready.fits (false_is _ ready.some))

  parts : Fits f class ds
  parts = fits_parts f class ds ready.number

  -- by whether the length is stated, and whether there is an X action
  pub short_exactly : ShortExactly f s ds
  short_exactly = go f.len (any is_x s.cas) refl sum_fits_lem parts.length_is
    where
      go : (l : ℕ) (x : Bool) → any is_x s.cas ≡ x → T (sum_fits l x (fixed_sum (length f.prefix) s.cas)) → T (length_fits l (length ds))
          → (short (length f.prefix) (length ds) s.cas ≡ true) ↔ ((l ≡ 0) × (length ds ≤ fixed_sum (length f.prefix) s.cas))
      go zero true e t u =
          rw (x_short (length f.prefix) (length ds) s.cas e ready.behind_x)
          (λ q. (refl, leb-true _ _ q), λ q. le-leb _ _ q.1)
      go zero false e t u = absurd t
      go (suc l) true e t u =
          let less : fixed_sum (length f.prefix) s.cas < suc l = ltb→lt _ _ t in
          let own : suc l ≡ length ds = eqb→eq (suc l) (length ds) u in
          rw (x_short (length f.prefix) (length ds) s.cas e ready.behind_x)
          (λ q. absurd (omega (arith, leb-true (length ds) (fixed_sum (length f.prefix) s.cas) q)), λ q. absurd (omega (arith, q.0)))
      go (suc l) false e t u =
          let same : fixed_sum (length f.prefix) s.cas ≡ suc l = eqb→eq _ _ t in
          let own : suc l ≡ length ds = eqb→eq (suc l) (length ds) u in
          rw (plain_short (length f.prefix) (length ds) s.cas e)
          (λ q. absurd (omega (arith, ltb-true (length ds) (fixed_sum (length f.prefix) s.cas) q)), λ q. absurd (omega (arith, q.0)))

  all_taken : short (length f.prefix) (length ds) s.cas ≡ false → taken (length f.prefix) (length ds) s.cas ≡ length ds
  all_taken q = go f.len (any is_x s.cas) refl sum_fits_lem parts.length_is
    where
      go : (l : ℕ) (x : Bool) → any is_x s.cas ≡ x → T (sum_fits l x (fixed_sum (length f.prefix) s.cas)) → T (length_fits l (length ds))
          → taken (length f.prefix) (length ds) s.cas ≡ length ds
      go l true e t u = x_taken (length f.prefix) (length ds) s.cas e ready.behind_x q
      go zero false e t u = absurd t
      go (suc l) false e t u = plain_taken (length f.prefix) (length ds) s.cas e ∙ (eqb→eq _ _ t ∙ eqb→eq (suc l) (length ds) u)

  pub accounted : (read : ℕ → Stretch) → ((v : ℕ) → v ≢ 0 → v ≤ 10 → read v ≡ stretch_of v (length f.prefix) (length ds) s.cas)
      → short (length f.prefix) (length ds) s.cas ≡ false → Accounted read f s ds
  unfolding stretch_of fpfx_first digits_read
  accounted read h q =
      let c : Covers read f.prefix ds 0 s.cas =
      covers read f.prefix ds parts.prefix_is 0 (length ds) s.cas
      (record {
        in_range = ready.in_range;
        once = ready.once;
        fpfx = λ t. (refl, ready.first);
        long = q;
        place = omega arith;
        ends = omega (arith, all_taken q);
        agrees = agrees;
      }) in
      record { covers = c; joins = joined_covers read f.prefix ds c }
    where
      agrees : Agrees read (length f.prefix) 0 (length ds) s.cas
      agrees b n e g =
          let r : T (ranged b) = all_mem ranged s.cas ready.in_range n in
          h (value_of b.code) (λ z. eqb-false (value_of b.code) 0 (sets_none b r ∙ e) z)
          (leb→le (value_of b.code) 10 (at_below (λ (c : ℕ). leb (value_of c) 10) 16 values_few b.code (ranged_below b r)))
