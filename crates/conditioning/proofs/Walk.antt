-- One step of conditioning along the CAs, and the stretch of a filter and a set.
use Prim.Native.Nat.{ℕ, ◌+◌, ◌-◌, ◌≤◌, ◌<◌}
use native.Mathlib.Omega.{arith}
use native.Mathlib.Nat.{add-sub_cancel_left}
use mathlib.Core.Path.{◌≡◌, refl, sym, ap, ◌∙◌}
use mathlib.Core.Logic.{◌≢◌}
use mathlib.Core.Bool.{Bool, true, false, ◌||◌, and-true, and-false}
use mathlib.Core.List.{List, ◌∷◌}
use lib.ListN.{length, take, drop}
use lib.Dec.{eqb, ltb}
use borrow.Author.Tests.{ltb-true, lt-ltb, eqb-true, eq-eqb, ne_eqb}
use Rattle.meaning.specs.Basics.{is_zero}
use Rattle.std.specs.Prelude.{if◌then◌else◌}
use Rattle.meaning.specs.Filters.{Filter}
use Rattle.meaning.specs.Actions.{CCDEF, CA, is_x, value_of, ActionSet}
use Rattle.meaning.specs.Groups.{fixed_of}
use Rattle.meaning.specs.Conditioning.{width, meets_too_few, short, Stretch, takes_value, digits_at}
use Rattle.meaning.specs.Reads.{stretch_by}
use Rattle.meaning.specs.declared.Span.{Span}
use Rattle.meaning.proofs.Tests.{same_tests, is_true, true_is, is_false, false_is, or_left_false, or_right_false}
use Rattle.meaning.proofs.Stretches.{enough}
use Rattle.conditioning.specs.Spans.{stretch_in, Covers}

-- an X action meets too few digits where it meets none
pub too_few : (prefix left : ℕ) (a : CA) (least : ℕ) → least ≡ (if is_x a then 1 else fixed_of prefix a) → ltb left least ≡ meets_too_few prefix left a
too_few prefix left a least e = ap (ltb left) e ∙ go (is_x a)
  where
    none : (n : ℕ) → ltb n 1 ≡ is_zero n
    none n =
        same_tests (ltb n 1) (is_zero n)
        (λ t. true_is (is_zero n) (eq-eqb n 0 (let h : n < 1 = ltb-true n 1 (is_true (ltb n 1) t) in omega arith)))
        (λ t. true_is (ltb n 1) (lt-ltb n 1 (let h : n ≡ 0 = eqb-true n 0 (is_true (is_zero n) t) in omega arith)))

    go : (x : Bool) → ltb left (if x then 1 else fixed_of prefix a) ≡ (if x then is_zero left else ltb left (fixed_of prefix a))
    go true = none left
    go false = refl

-- where the digits are enough for a list, its first action takes no more than are left, and the rest is enough for those behind it
pub enough_for : (prefix left : ℕ) {w : ℕ} {a : CA} {xs ys : List CA} → w ≡ width prefix left a → xs ≡ a ∷ ys → short prefix left xs ≡ false
    → (w ≤ left) × (short prefix (left - w) ys ≡ false)
enough_for prefix left {w} {a} {xs} {ys} p q e =
    let few = meets_too_few prefix left a in
    let rest = short prefix (left - width prefix left a) ys in
    let t = false_is (few || rest) (sym (ap (short prefix left) q) ∙ e) in
    rw p (enough prefix left a (is_false few (or_left_false few rest t)), is_false rest (or_right_false few rest t))

-- CCDEF takes no value, and any other action its own
pub ccdef_takes_none : (v : ℕ) (a : CA) → a.code ≡ CCDEF → takes_value v a ≡ false
ccdef_takes_none v a e = rw (eq-eqb a.code CCDEF e, and-false)

pub takes_its_value : (v : ℕ) (a : CA) → a.code ≢ CCDEF → takes_value v a ≡ eqb (value_of a.code) v
takes_its_value v a h = rw (ne_eqb a.code CCDEF h, and-true)

-- a span lends the digits of the stretch that it covers
pub covered : {n : ℕ} {s : Stretch} {r : Span} (ds : List ℕ) → Covers n s r
    → take (r.start + r.count - r.start) (drop r.start ds) ≡ digits_at s ds
covered {n} {s} {r} ds h =
    rw (add-sub_cancel_left r.start r.count) (ap (λ (x : Span). take x.count (drop x.start ds)) h.same)

pub stretch_by_lem : (v n : ℕ) (f : Filter) (s : ActionSet) → stretch_by v n f s ≡ stretch_in v (length f.prefix) n s.cas
unfolding stretch_by
stretch_by_lem v n f s = refl
