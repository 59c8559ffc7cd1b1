-- A filter's range, and whether digits begin with its prefix, by what was read of its bytes.
use Prim.Native.Nat.{ℕ, ◌≤◌, ◌<◌}
use mathlib.Core.Path.{◌≡◌, refl, ap, ◌∙◌}
use mathlib.Core.List.{List, [], ◌∷◌}
use mathlib.Core.Bool.{Bool, true, false, ◌&&◌, ◌||◌}
use native.Mathlib.Nat.{not-suc-le-zero, le_of_suc-le-suc}
use native.Mathlib.Omega.{arith}
use lib.ListN.{length, get_or, take, drop, length-drop}
use lib.Seq.{get_or-take, length-take-le}
use lib.Dec.{T, eqb, leb, leb→le, lit<, lit≤}
use Rattle.meaning.specs.Sizes.{CLASS-AT, PREFIX-AT, PREFIX-DIGITS-AT, LENGTH-AT, FILTER-BYTES}
use Rattle.meaning.specs.Basics.{all, all_of, within, is_zero, is_digit, digits_of, digits_in_range, begins_with}
use Rattle.std.specs.Prelude.{Result, nat_eq}
use Rattle.std.specs.List.{starts_with}
use Rattle.std.specs.Result.{is_ok}
use Rattle.meaning.specs.Settings.{is_class}
use Rattle.meaning.specs.Filters.{filter_of, filter_in_range}
use Rattle.meaning.specs.Answers.{class_of}
use Rattle.meaning.proofs.Telling.{class_known}
use Rattle.meaning.specs.declared.Class.{Class}
use Rattle.meaning.specs.declared.UnknownClass.{UnknownClass}
use Rattle.meaning.proofs.Tests.{and_left, and_right, all_at}
use Rattle.buffer.proofs.DigitLaws.{digits_at_lem}
use Rattle.buffer.proofs.ListLaws.{part_part}
use Rattle.buffer.proofs.Passing.{and-true, and-false}
use Rattle.filter.specs.Slots.{FilterBytes, prefix_fits}

-- A FILTER READS ITS OWN BYTES ALONE

pub filter_part : (s : List ℕ) → filter_of (take FILTER-BYTES s) ≡ filter_of s
unfolding filter_of
filter_part s = λ i. record {
  class = get_or-take FILTER-BYTES s CLASS-AT 0 (lit< tt) i;
  prefix = digits_of (part_part PREFIX-AT 17 FILTER-BYTES s (lit≤ tt) i);
  len = get_or-take FILTER-BYTES s LENGTH-AT 0 (lit< tt) i;
}

pub range_part : (s : List ℕ) → filter_in_range (take FILTER-BYTES s) ≡ filter_in_range s
unfolding filter_in_range
range_part s =
    let a : ◌≡◌ {A = ℕ} (get_or (take FILTER-BYTES s) CLASS-AT 0) (get_or s CLASS-AT 0) = get_or-take FILTER-BYTES s CLASS-AT 0 (lit< tt) in
    let b : ◌≡◌ {A = ℕ} (get_or (take FILTER-BYTES s) PREFIX-AT 0) (get_or s PREFIX-AT 0) = get_or-take FILTER-BYTES s PREFIX-AT 0 (lit< tt) in
    let c : ◌≡◌ {A = ℕ} (get_or (take FILTER-BYTES s) LENGTH-AT 0) (get_or s LENGTH-AT 0) = get_or-take FILTER-BYTES s LENGTH-AT 0 (lit< tt) in
    let p : take 17 (drop PREFIX-AT (take FILTER-BYTES s)) ≡ take 17 (drop PREFIX-AT s) = part_part PREFIX-AT 17 FILTER-BYTES s (lit≤ tt) in
    λ i. all_of (is_class (a i) ∷ digits_in_range 0 16 (p i) ∷ leb (c i) 32 ∷ (is_zero (c i) || leb (b i) (c i)) ∷ [])

pub prefix_is : (s : List ℕ) → FilterBytes s → (filter_of s).prefix ≡ take (get_or s PREFIX-AT 0) (drop PREFIX-DIGITS-AT s)
unfolding filter_of
prefix_is s h = digits_at_lem PREFIX-AT 16 s (omega (arith, h.whole)) h.prefix

-- its length is the byte before it
pub prefix_length : (s : List ℕ) → FilterBytes s → length (filter_of s).prefix ≡ get_or s PREFIX-AT 0
prefix_length s f =
    let whole : FILTER-BYTES ≤ length s = f.whole in let few : get_or s PREFIX-AT 0 ≤ 16 = f.prefix in
    ap length (prefix_is s f) ∙ length-take-le (get_or s PREFIX-AT 0) (drop PREFIX-DIGITS-AT s) (rw (length-drop PREFIX-DIGITS-AT s) (omega arith))

-- RANGE

regroup : (a d v w l z : Bool) → v ≡ (a && d) → w ≡ (v && l) → (a && (d && (l && (z && true)))) ≡ (w && z)
regroup true true v w l z p q = rw (q, p) (regroup_last l z)
  where
    regroup_last : (l z : Bool) → (l && (z && true)) ≡ (l && z)
    regroup_last true z = and-true z
    regroup_last false z = refl
regroup true false v w l z p q = rw (q, p)
regroup false d v w l z p q = rw (q, p)

module _ (s : List ℕ) where
  abbrev tests : List Bool
  tests =
      is_class (get_or s CLASS-AT 0) ∷ digits_in_range 0 16 (take 17 (drop PREFIX-AT s)) ∷ leb (get_or s LENGTH-AT 0) 32
      ∷ (is_zero (get_or s LENGTH-AT 0) || leb (get_or s PREFIX-AT 0) (get_or s LENGTH-AT 0)) ∷ []

  range_tests : filter_in_range (take FILTER-BYTES s) ≡ all_of tests
  unfolding filter_in_range
  range_tests = range_part s

  -- a is whether the first byte is a class; v is what the first two tests gave, and w what the first three gave
  module _ (k : Result Class UnknownClass) (a v w : Bool) (k-is : k ≡ class_of (get_or s CLASS-AT 0)) (a-is : a ≡ is_ok k)
      (v-is : v ≡ (a && digits_in_range 0 16 (take 17 (drop PREFIX-AT s)))) (w-is : w ≡ (v && leb (get_or s LENGTH-AT 0) 32)) where
    pub range_last : filter_in_range (take FILTER-BYTES s) ≡ (w && (eqb (get_or s LENGTH-AT 0) 0 || leb (get_or s PREFIX-AT 0) (get_or s LENGTH-AT 0)))
    range_last =
        let e : a ≡ is_class (get_or s CLASS-AT 0) = a-is ∙ ap is_ok k-is ∙ class_known (get_or s CLASS-AT 0) in
        range_tests ∙ rw (← e) (regroup a (digits_in_range 0 16 (take 17 (drop PREFIX-AT s))) v w _ _ v-is w-is)

-- a filter in range has a prefix of at most 16 digits
pub range_prefix_fits : (s : List ℕ) → T (filter_in_range (take FILTER-BYTES s)) → T (prefix_fits s)
range_prefix_fits s t =
    let u : T (all_of (tests s)) = rw (range_tests s) at t in
    go s (all_at 1 (tests s) u)
  where
    go : (s : List ℕ) → T (digits_in_range 0 16 (take 17 (drop PREFIX-AT s))) → T (prefix_fits s)
    go [] t = absurd t
    go (x ∷ []) t = absurd t
    go (x ∷ n ∷ ds) t =
        and_right (leb 0 n) (leb n 16) (and_left (within 0 16 n) (all is_digit (take n (take 16 ds)) && all is_zero (drop n (take 16 ds))) t)

pub range_bytes : (s : List ℕ) → FILTER-BYTES ≤ length s → T (filter_in_range (take FILTER-BYTES s)) → FilterBytes s
range_bytes s h t = record { whole = h; prefix = leb→le (get_or s PREFIX-AT 0) 16 (range_prefix_fits s t) }

-- BEGINNING WITH A PREFIX

pub begins_short : (ps ds : List ℕ) → length ds < length ps → begins_with ps ds ≡ false
begins_short [] ds h = absurd (not-suc-le-zero h)
begins_short (p ∷ ps) [] h = refl
begins_short (p ∷ ps) (d ∷ ds) h = rw (begins_short ps ds (le_of_suc-le-suc h)) (and-false (eqb p d))

-- the library's test
pub begins_as : (ps ds : List ℕ) → starts_with nat_eq ds ps ≡ begins_with ps ds
begins_as [] ds = refl
begins_as (p ∷ ps) [] = refl
begins_as (p ∷ ps) (d ∷ ds) = ap (λ (t : Bool). eqb p d && t) (begins_as ps ds)
