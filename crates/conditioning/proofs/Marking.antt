-- A table of marks along the CAs: a value that is not marked yet is decided by what is left of the list.
use Prim.Native.Nat.{ℕ, zero, suc, ◌+◌, ◌-◌, ◌*◌, ◌/◌, ◌%◌, ◌^◌, ◌≤◌, ◌<◌}
use native.Mathlib.Omega.{arith}
use mathlib.Core.Path.{◌≡◌, refl, sym, ap, subst, ◌∙◌}
use mathlib.Core.Logic.{◌≢◌}
use mathlib.Core.Bool.{Bool, true, false}
use mathlib.Core.List.{List, [], ◌∷◌}
use lib.ListN.{length, get_or, replicate, get_or-eq_default}
use lib.Seq.{get_or-set_same, get_or-set_other}
use lib.Dec.{T, eqb, eqb→eq}
use borrow.Author.Tests.{eqb-true, eqb-false, eq-eqb, ne_eqb}
use Rattle.std.specs.Prelude.{if◌then◌else◌}
use Rattle.meaning.specs.Actions.{CCDEF, CA, value_of}
use Rattle.meaning.specs.Conditioning.{width, Stretch, stretch_from, stretch_of}
use Rattle.meaning.proofs.Tests.{all_below, at_below}
use Rattle.meaning.proofs.Stretches.{value_small}
use Rattle.conditioning.specs.declared.Marks.{Marks}
use Rattle.conditioning.specs.Marks.{PLACES, Takes, no_marks, MarksOnce, Markable, MarksOne, MarksAll}
use Rattle.conditioning.proofs.Walk.{ccdef_takes_none, takes_its_value}

-- WHICH VALUE AN ACTION TAKES

takes_none_lem : (a : CA) → a.code ≡ CCDEF → Takes a 0
takes_none_lem a e = record { is = λ v h. ccdef_takes_none v a e ∙ sym (ne_eqb 0 v (λ z. omega arith)); small = omega arith }

takes_one : (a : CA) (r : ℕ) → a.code ≢ CCDEF → r ≡ value_of a.code → Takes a r
takes_one a r h e =
    record { is = λ v k. takes_its_value v a h ∙ ap (λ (x : ℕ). eqb x v) (sym e); small = omega (arith, value_small a.code) }

-- the values that the codes take, four bits for a code: none for CCDEF, and for any other the value that it sets
abbrev values_taken : ℕ
values_taken = 456053888748036352

abbrev taken_test : ℕ → Bool
taken_test c = eqb (values_taken / 2 ^ (4 * c) % 16) (if eqb c CCDEF then 0 else value_of c)

codes_taken : T (all_below taken_test 16)
unfolding value_of
codes_taken = tt

pub takes_listed : (a : CA) → a.code ≤ CCDEF → Takes a (values_taken / 2 ^ (4 * a.code) % 16)
takes_listed a h = go (eqb a.code CCDEF) refl (eqb→eq (values_taken / 2 ^ (4 * a.code) % 16) (if eqb a.code CCDEF then 0 else value_of a.code) (at_below taken_test 16 codes_taken a.code (omega arith)))
  where
    go : (b : Bool) → eqb a.code CCDEF ≡ b → values_taken / 2 ^ (4 * a.code) % 16 ≡ (if b then 0 else value_of a.code) → Takes a (values_taken / 2 ^ (4 * a.code) % 16)
    go true e t = subst (Takes a) (sym t) (takes_none_lem a (eqb-true a.code CCDEF e))
    go false e t = takes_one a (values_taken / 2 ^ (4 * a.code) % 16) (eqb-false a.code CCDEF e) t

-- no code stands behind the last
pub takes_unlisted : (a : CA) → CCDEF < a.code → Takes a 0
unfolding value_of
takes_unlisted a h =
    let past : 16 ≤ a.code = h in
    let none : 0 ≡ value_of a.code = rw get_or-eq_default in
    takes_one a 0 (λ e. omega arith) none

-- ONE VALUE

-- at place `at`, with `left` digits and the CAs `rest` left: what the table has for the value v, of the CAs xs and n digits
pub record Mark (first prefix n : ℕ) (xs : List CA) (at left : ℕ) (rest : List CA) (v start count : ℕ) : Type 0 where
  pub low : start ≤ first + n
  pub few : count ≤ n
  pub undecided : 0 < v → start ≡ 0 → (count ≡ 0) × (stretch_from v prefix at left rest ≡ stretch_from v prefix 0 n xs)
  pub done : 0 < v → start ≢ 0 → MarksOne first n (stretch_from v prefix 0 n xs) start count

-- A TABLE

abbrev pub Marking : ℕ → ℕ → ℕ → List CA → ℕ → ℕ → List CA → Marks → Type 0
Marking first prefix n xs at left rest m = (v : ℕ) → Mark first prefix n xs at left rest v (get_or m.starts v 0) (get_or m.counts v 0)

pub marking_none : {prefix n first : ℕ} {xs rest : List CA} {m : Marks} → rest ≡ xs → Markable n first m → Marking first prefix n xs 0 n rest m
marking_none e m v =
    rw (m.starts_none, m.counts_none, e)
    (record { low = omega arith; few = omega arith; undecided = λ h z. (refl, refl); done = λ h z. absurd (z refl) })

-- a table that is made anew
zero_at : (n v : ℕ) → get_or {A = ℕ} (replicate n 0) v 0 ≡ 0
zero_at zero v = refl
zero_at (suc n) zero = refl
zero_at (suc n) (suc v) = zero_at n v

pub markable_anew : (n first : ℕ) → 0 < first → first + n ≤ 255 → Markable n first no_marks
markable_anew n first h near = record { not_zero = h; near = near; starts_none = zero_at PLACES; counts_none = zero_at PLACES }

-- the list ends
pub marking_all : {first prefix n at left : ℕ} {xs : List CA} {m : Marks} → length m.starts ≡ PLACES → length m.counts ≡ PLACES → Marking first prefix n xs at left [] m → MarksAll prefix n first xs m
unfolding stretch_of
marking_all {first} {prefix} {n} {at} {left} {xs} {m} a b g =
    record { starts_long = a; counts_long = b; low = λ v. (g v).low; few = λ v. (g v).few; marks = λ v h. go v h (eqb (get_or m.starts v 0) 0) refl }
  where
    go : (v : ℕ) → 0 < v → (b : Bool) → eqb (get_or m.starts v 0) 0 ≡ b → MarksOne first n (stretch_from v prefix 0 n xs) (get_or m.starts v 0) (get_or m.counts v 0)
    go v h true e =
        let o = (g v).undecided h (eqb-true (get_or m.starts v 0) 0 e) in
        let within : 0 ≤ n = omega arith in
        record {
          within = subst (λ (s : Stretch). s.start + s.count ≤ n) o.1 within;
          counted = o.0 ∙ ap (λ (s : Stretch). s.count) o.1;
          begins = λ z. absurd (z o.0);
        }
    go v h false e = (g v).done h (eqb-false (get_or m.starts v 0) 0 e)

-- the action at hand, which takes w digits of the value r
module _ {first prefix n at left w r : ℕ} {xs ys : List CA} {a : CA} (takes : Takes a r) (w-is : w ≡ width prefix left a)
    (not_zero : 0 < first) (inside : at + w ≤ n) where
  -- a value that the action does not take
  other : (v s c : ℕ) → v ≢ r → Mark first prefix n xs at left (a ∷ ys) v s c → Mark first prefix n xs (at + w) (left - w) ys v s c
  other v s c h m =
      record {
        low = m.low;
        few = m.few;
        undecided = λ k z. ((m.undecided k z).0, rw (w-is) (rw (takes.is v k ∙ ne_eqb r v (λ e. h (sym e))) at (m.undecided k z).1));
        done = m.done;
      }

  -- the value that it takes: marked now, or before
  now_marked : (c : ℕ) → Mark first prefix n xs at left (a ∷ ys) r 0 c → Mark first prefix n xs (at + w) (left - w) ys r (first + at) w
  now_marked c m =
      record {
        low = omega arith;
        few = omega arith;
        undecided = λ k z. absurd (omega arith);
        done = λ k z.
            let e = rw (takes.is r k ∙ eq-eqb r r refl) at (m.undecided k refl).1 in
            record {
              within = subst (λ (s : Stretch). s.start + s.count ≤ n) e (omega (arith, w-is));
              counted = w-is ∙ ap (λ (s : Stretch). s.count) e;
              begins = λ y. ap (λ (s : Stretch). first + s.start) e;
            };
      }

  marked_before : (s c : ℕ) → s ≢ 0 → Mark first prefix n xs at left (a ∷ ys) r s c → Mark first prefix n xs (at + w) (left - w) ys r s c
  marked_before s c h m = record { low = m.low; few = m.few; undecided = λ k z. absurd (h z); done = m.done }

  module _ (m : Marks) {m' : Marks} {rest : List CA} (goes : rest ≡ a ∷ ys) (g : Marking first prefix n xs at left rest m)
      (starts-room : r < length m.starts) (counts-room : r < length m.counts) (once : MarksOnce r (record { start = first + at; count = w }) m m') where
    here : Marking first prefix n xs at left (a ∷ ys) m
    here v = rw goes at (g v)

    abbrev Goes : ℕ → ℕ → ℕ → Type 0
    Goes v s c = Mark first prefix n xs (at + w) (left - w) ys v s c

    pub marking_more : Marking first prefix n xs (at + w) (left - w) ys m'
    marking_more v = go (eqb v r) refl (eqb (get_or m.starts r 0) 0) refl
      where
        go : (b : Bool) → eqb v r ≡ b → (z : Bool) → eqb (get_or m.starts r 0) 0 ≡ z → Goes v (get_or m'.starts v 0) (get_or m'.counts v 0)
        go true e true z =
            let v-is : v ≡ r = eqb-true v r e in
            let unmarked : get_or m.starts r 0 ≡ 0 = eqb-true (get_or m.starts r 0) 0 z in
            rw (v-is, once.unmarked unmarked, get_or-set_same m.starts r (first + at) 0 starts-room, get_or-set_same m.counts r w 0 counts-room)
            (now_marked (get_or m.counts r 0) (rw unmarked at (here r)))
        go true e false z =
            let v-is : v ≡ r = eqb-true v r e in
            let marked : get_or m.starts r 0 ≢ 0 = eqb-false (get_or m.starts r 0) 0 z in
            rw (v-is, once.kept marked) (marked_before (get_or m.starts r 0) (get_or m.counts r 0) marked (here r))
        go false e true z =
            let apart : v ≢ r = eqb-false v r e in
            rw (once.unmarked (eqb-true (get_or m.starts r 0) 0 z), get_or-set_other m.starts r v (first + at) 0 apart, get_or-set_other m.counts r v w 0 apart)
            (other v (get_or m.starts v 0) (get_or m.counts v 0) apart (here v))
        go false e false z =
            rw (once.kept (eqb-false (get_or m.starts r 0) 0 z)) (other v (get_or m.starts v 0) (get_or m.counts v 0) (eqb-false v r e) (here v))
