-- Laws of Boolean tests, of tests over lists, and of a list of checks in order.
use Prim.Native.Nat.{ℕ, zero, suc, ◌+◌, ◌≤◌, ◌<◌}
use mathlib.Core.Path.{◌≡◌, refl, ap, ap₂}
use mathlib.Core.Logic.{◌↔◌}
use mathlib.Core.Bool.{Bool, true, false, ◌&&◌, ◌||◌, not}
use mathlib.Core.List.{List, [], ◌∷◌, map, Memᴰ}
use native.Mathlib.Omega.{arith}
use native.Mathlib.Nat.{le_of_suc-le-suc}
use lib.ListN.{length, take, drop, get_or, set, replicate, length-take, length-drop}
use lib.Seq.{length-take-le}
use lib.Dec.{T, T_not, leb, eqb, leb→le, eqb_refl, eqb→eq}
use borrow.Author.Tests.{eqb-true, eqb-false}
use Rattle.meaning.specs.Basics.{all, any, count, all_of, within, is_zero, part, is_digit, same_bytes, digits_of, digits_in_range}
use Rattle.std.specs.Prelude.{if◌then◌else◌}
use Rattle.meaning.specs.Refusals.{Line, first_of}

-- BOOLEANS

pub is_true : (b : Bool) → T b → b ≡ true
is_true true t = refl
is_true false t = absurd t

pub true_is : (b : Bool) → b ≡ true → T b
true_is b e = rw e tt

pub is_false : (b : Bool) → T (not b) → b ≡ false
is_false true t = absurd t
is_false false t = refl

pub false_is : (b : Bool) → b ≡ false → T (not b)
false_is b e = rw e tt

pub and_left : (a b : Bool) → T (a && b) → T a
and_left true b t = tt
and_left false b t = t

pub and_right : (a b : Bool) → T (a && b) → T b
and_right true b t = t
and_right false b t = absurd t

pub and_both : (a b : Bool) → T a → T b → T (a && b)
and_both true b s t = t
and_both false b s t = s

pub or_left_false : (a b : Bool) → T (not (a || b)) → T (not a)
or_left_false true b t = t
or_left_false false b t = tt

pub or_right_false : (a b : Bool) → T (not (a || b)) → T (not b)
or_right_false true b t = absurd t
or_right_false false b t = t

pub or_other : (a b : Bool) → T (a || b) → T (not a) → T b
or_other true b t u = absurd u
or_other false b t u = t

pub or_use : (a b : Bool) → T (not a || b) → T a → T b
or_use true b t s = t
or_use false b t s = absurd s

pub not_not : (a : Bool) → T (not (not a)) → T a
not_not true t = tt
not_not false t = t

-- what holds of both holds of the one taken
pub either : {A : Type 0} (P : A → Type 0) (b : Bool) (x y : A) → P x → P y → P (if b then x else y)
either P true x y s t = s
either P false x y s t = t

-- two tests that hold together are equal
pub same_tests : (a b : Bool) → (T a → T b) → (T b → T a) → a ≡ b
same_tests true true f g = refl
same_tests true false f g = absurd (f tt)
same_tests false true f g = absurd (g tt)
same_tests false false f g = refl

-- ONE OF SOME NAMED RULES

-- each of them, as facts
abbrev pub Each : List Bool → Type 0
Each [] = Unit {0}
Each (b ∷ bs) = T b × Each bs

pub each_all : (bs : List Bool) → Each bs → T (all_of bs)
each_all [] t = tt
each_all (b ∷ bs) t = and_both b (all_of bs) t.0 (each_all bs t.1)

-- rule k of them holds where all do
pub all_at : (k : ℕ) (bs : List Bool) → T (all_of bs) → T (get_or bs k true)
all_at k [] t = tt
all_at zero (b ∷ bs) t = and_left b (all_of bs) t
all_at (suc k) (b ∷ bs) t = all_at k bs (and_right b (all_of bs) t)

-- where rule k fails, not all hold
pub all_false : (k : ℕ) (bs : List Bool) → get_or bs k true ≡ false → all_of bs ≡ false
all_false k [] e = cc
all_false zero (b ∷ bs) e = rw e
all_false (suc k) (b ∷ bs) e = rw (all_false k bs e) (go b)
  where
    go : (b : Bool) → (b && false) ≡ false
    go true = refl
    go false = refl

-- CHECKS IN ORDER

-- every check has a number
abbrev pub numbered : List Line → Bool
numbered ls = all (λ (l : Line). not (is_zero l.1)) ls

-- where a call is accepted, check k of it did not refuse
pub passed_at : (k : ℕ) (ls : List Line) → T (numbered ls) → first_of ls ≡ 0 → T (not (get_or ls k (false, 0)).0)
passed_at k [] n e = tt
passed_at k (l ∷ ls) n e = go l.0 refl k e (λ j. passed_at j ls (and_right (not (is_zero l.1)) (numbered ls) n))
  where
    go : (t : Bool) → l.0 ≡ t → (k : ℕ) → (if t then l.1 else first_of ls) ≡ 0 → ((j : ℕ) → first_of ls ≡ 0 → T (not (get_or ls j (false, 0)).0))
        → T (not (get_or (l ∷ ls) k (false, 0)).0)
    go true q k e ih = absurd (T_not (is_zero l.1) (and_left (not (is_zero l.1)) (numbered ls) n) (rw e tt))
    go false q zero e ih = rw q tt
    go false q (suc k) e ih = ih k e

-- where the checks of the first line pass, the checks behind it decide
pub passed : (t : Bool) (k : ℕ) (ls : List Line) → first_of ((t, suc k) ∷ ls) ≡ 0 → T (not t) × (first_of ls ≡ 0)
passed true k ls e = absurd (omega (arith, e))
passed false k ls e = (tt, e)

-- TESTS OVER LISTS

module _ {A : Type 0} where
  pub all_weaken : (p q : A → Bool) (xs : List A) → ((x : A) → T (p x) → T (q x)) → T (all p xs) → T (all q xs)
  all_weaken p q [] h t = tt
  all_weaken p q (x ∷ xs) h t =
      and_both (q x) (all q xs) (h x (and_left (p x) (all p xs) t)) (all_weaken p q xs h (and_right (p x) (all p xs) t))

  pub all_both : (p q : A → Bool) (xs : List A) → T (all p xs) → T (all q xs) → T (all (λ x. p x && q x) xs)
  all_both p q [] s t = tt
  all_both p q (x ∷ xs) s t =
      and_both (p x && q x) (all (λ y. p y && q y) xs) (and_both (p x) (q x) (and_left (p x) (all p xs) s) (and_left (q x) (all q xs) t))
      (all_both p q xs (and_right (p x) (all p xs) s) (and_right (q x) (all q xs) t))

  pub all_mem : (p : A → Bool) (xs : List A) → T (all p xs) → {x : A} → Memᴰ x xs → T (p x)
  all_mem p [] t m = elim m [ ]
  all_mem p (y ∷ ys) t (Memᴰ.head e) = rw e (and_left (p y) (all p ys) t)
  all_mem p (y ∷ ys) t (Memᴰ.tail m) = all_mem p ys (and_right (p y) (all p ys) t) m

  pub all_take : (p : A → Bool) (n : ℕ) (xs : List A) → T (all p xs) → T (all p (take n xs))
  all_take p zero xs t = tt
  all_take p (suc n) [] t = tt
  all_take p (suc n) (x ∷ xs) t = and_both (p x) (all p (take n xs)) (and_left (p x) (all p xs) t) (all_take p n xs (and_right (p x) (all p xs) t))

  pub all_drop : (p : A → Bool) (n : ℕ) (xs : List A) → T (all p xs) → T (all p (drop n xs))
  all_drop p zero xs t = t
  all_drop p (suc n) [] t = tt
  all_drop p (suc n) (x ∷ xs) t = all_drop p n xs (and_right (p x) (all p xs) t)

  pub all_place : (p : A → Bool) (xs : List A) (d : A) (j : ℕ) → T (all p xs) → j < length xs → T (p (get_or xs j d))
  all_place p [] d j t h = absurd (omega (arith, h))
  all_place p (x ∷ xs) d zero t h = and_left (p x) (all p xs) t
  all_place p (x ∷ xs) d (suc j) t h = all_place p xs d j (and_right (p x) (all p xs) t) (le_of_suc-le-suc h)

  pub all_set : (p : A → Bool) (xs : List A) (i : ℕ) (v : A) → T (all p xs) → T (p v) → T (all p (set xs i v))
  all_set p [] i v t s = tt
  all_set p (x ∷ xs) zero v t s = and_both (p v) (all p xs) s (and_right (p x) (all p xs) t)
  all_set p (x ∷ xs) (suc i) v t s =
      and_both (p x) (all p (set xs i v)) (and_left (p x) (all p xs) t) (all_set p xs i v (and_right (p x) (all p xs) t) s)

  pub all_replicate : (p : A → Bool) (n : ℕ) (v : A) → T (p v) → T (all p (replicate n v))
  all_replicate p zero v t = tt
  all_replicate p (suc n) v t = and_both (p v) (all p (replicate n v)) t (all_replicate p n v t)

  pub none_any : (p : A → Bool) (xs : List A) → T (not (any p xs)) → T (all (λ x. not (p x)) xs)
  none_any p [] t = tt
  none_any p (x ∷ xs) t =
      and_both (not (p x)) (all (λ y. not (p y)) xs) (or_left_false (p x) (any p xs) t) (none_any p xs (or_right_false (p x) (any p xs) t))

  pub all_none : (p : A → Bool) (xs : List A) → T (all (λ x. not (p x)) xs) → any p xs ≡ false
  all_none p [] t = refl
  all_none p (x ∷ xs) t =
      rw (is_false (p x) (and_left (not (p x)) (all (λ y. not (p y)) xs) t)) (all_none p xs (and_right (not (p x)) (all (λ y. not (p y)) xs) t))

  pub any_mem : (p : A → Bool) (xs : List A) {x : A} → Memᴰ x xs → T (p x) → T (any p xs)
  any_mem p [] {x} m t = elim m [ ]
  any_mem p (y ∷ ys) {x} (Memᴰ.head e) t = let q : T (p y) = rw e at t in rw (is_true (p y) q) tt
  any_mem p (y ∷ ys) {x} (Memᴰ.tail m) t = go (p y) (any_mem p ys m t)
    where
      go : (b : Bool) → T (any p ys) → T (b || any p ys)
      go true u = tt
      go false u = u

  -- where any passes, one of them that does
  pub any_one : (p : A → Bool) (xs : List A) → T (any p xs) → (x : A) × Memᴰ x xs × T (p x)
  any_one p [] t = absurd t
  any_one p (x ∷ xs) t = go (p x) refl t (any_one p xs)
    where
      go : (b : Bool) → p x ≡ b → T (b || any p xs) → (T (any p xs) → (y : A) × Memᴰ y xs × T (p y))
          → (y : A) × Memᴰ y (x ∷ xs) × T (p y)
      go true e t ih = (x, Memᴰ.head refl, true_is (p x) e)
      go false e t ih = let r = ih t in (r.0, Memᴰ.tail r.1, r.2)

  -- none passes a test exactly if none is counted
  pub none_counted : (p : A → Bool) (xs : List A) → (any p xs ≡ false) ↔ (count p xs ≡ 0)
  none_counted p [] = (λ e. refl, λ e. refl)
  none_counted p (x ∷ xs) = go (p x) (none_counted p xs)
    where
      go : (b : Bool) → (any p xs ≡ false) ↔ (count p xs ≡ 0) → ((b || any p xs) ≡ false) ↔ ((if b then 1 else 0) + count p xs ≡ 0)
      go true ih = (λ e. cc, λ e. absurd (omega (arith, e)))
      go false ih = (λ e. omega (arith, ih.0 e), λ e. ih.1 (omega (arith, e)))

pub any_map : {A B : Type 0} (p : B → Bool) (g : A → B) (xs : List A) → any p (map g xs) ≡ any (λ x. p (g x)) xs
any_map p g [] = refl
any_map p g (x ∷ xs) = ap (λ b. p (g x) || b) (any_map p g xs)

-- A TEST AT EVERY NUMBER BELOW ONE, computed once and used at each

abbrev pub all_below : (ℕ → Bool) → ℕ → Bool
all_below p zero = true
all_below p (suc n) = p n && all_below p n

pub at_below : (p : ℕ → Bool) (n : ℕ) → T (all_below p n) → (k : ℕ) → k < n → T (p k)
at_below p zero t k h = absurd (omega (arith, h))
at_below p (suc n) t k h = go (eqb k n) refl (at_below p n (and_right (p n) (all_below p n) t) k)
  where
    go : (c : Bool) → eqb k n ≡ c → (k < n → T (p k)) → T (p k)
    go true e ih = rw (eqb-true k n e) (and_left (p n) (all_below p n) t)
    go false e ih = ih (omega (arith, eqb-false k n e))

-- BYTE FOR BYTE

pub same_self : (xs : List ℕ) → T (same_bytes xs xs)
same_self [] = tt
same_self (x ∷ xs) = and_both (eqb x x) (same_bytes xs xs) (eqb_refl x) (same_self xs)

pub same_bytes_lem : (xs ys : List ℕ) → T (same_bytes xs ys) → xs ≡ ys
same_bytes_lem [] [] t = refl
same_bytes_lem [] (y ∷ ys) t = absurd t
same_bytes_lem (x ∷ xs) [] t = absurd t
same_bytes_lem (x ∷ xs) (y ∷ ys) t =
    ap₂ ◌∷◌ (eqb→eq x y (and_left (eqb x y) (same_bytes xs ys) t)) (same_bytes_lem xs ys (and_right (eqb x y) (same_bytes xs ys) t))

-- PARTS

pub part_length : (xs : List ℕ) (at n : ℕ) → at + n ≤ length xs → length (part at n xs) ≡ n
part_length xs at n h = length-take-le n (drop at xs) (rw (length-drop at xs) (omega arith))

-- DIGIT STRINGS

-- one in range says that it has so many digits at most, and has no more
pub digits_said : (lo hi : ℕ) (b : List ℕ) → T (digits_in_range lo hi b) → get_or b 0 0 ≤ hi
digits_said lo hi [] t = absurd t
digits_said lo hi (n ∷ ds) t =
    leb→le n hi (and_right (leb lo n) (leb n hi) (and_left (within lo hi n) (all is_digit (take n ds) && all is_zero (drop n ds)) t))

pub digits_few : (lo hi : ℕ) (b : List ℕ) → T (digits_in_range lo hi b) → length (digits_of b) ≤ hi
digits_few lo hi [] t = absurd t
digits_few lo hi (n ∷ ds) t = omega (arith, length-take n ds, digits_said lo hi (n ∷ ds) t)
