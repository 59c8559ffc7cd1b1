-- The first largest of a list of weights: what stands at the place that it gives, for any elements and any weight of them.
use Prim.Native.Nat.{ℕ, zero, suc, ◌+◌, ◌≤◌, ◌<◌}
use mathlib.Core.Path.{◌≡◌, refl, ap, sym, ◌∙◌}
use mathlib.Core.Logic.{◌⊎◌, inl, inr}
use mathlib.Core.Bool.{Bool, true, false}
use mathlib.Core.List.{List, [], ◌∷◌, map, Memᴰ}
use mathlib.Core.Option.{Option, none, some}
use native.Mathlib.Omega.{arith}
use lib.ListN.{get_elem?}
use lib.Dec.{ltb}
use borrow.Author.Tests.{ltb-true, ltb-false}
use Rattle.std.specs.Prelude.{if◌then◌else◌}
use Rattle.meaning.specs.Rules.{first_largest_from, first_largest}

module _ {A : Type 0} (f : A → ℕ) where
  -- no element weighs more than m
  abbrev pub AtMost : ℕ → List A → Type 0
  AtMost m xs = (y : A) → Memᴰ y xs → f y ≤ m

  -- x stands at place k, and none weighs more
  pub record Largest (xs : List A) (k : ℕ) (x : A) : Type 0 where
    pub place : get_elem? xs k ≡ some x
    pub most : AtMost (f x) xs

  -- what the walk gives from a place on: what it had, no element weighing more; or an element that weighs more than that
  record Better (most at : ℕ) (xs : List A) (o : Option ℕ) : Type 0 where
    k : ℕ
    x : A
    found : o ≡ some (at + k)
    more : most < f x
    largest : Largest xs k x

  Walked : Option ℕ → ℕ → ℕ → List A → Option ℕ → Type 0
  Walked best most at xs o = ((o ≡ best) × AtMost most xs) ⊎ Better most at xs o

  at_most_cons : (x : A) (xs : List A) (m : ℕ) → f x ≤ m → AtMost m xs → AtMost m (x ∷ xs)
  at_most_cons x xs m h r y (Memᴰ.head e) = rw e h
  at_most_cons x xs m h r y (Memᴰ.tail t) = r y t

  later : (x : A) (xs : List A) (most most' at : ℕ) (o : Option ℕ) → most ≤ most' → f x ≤ most' → Better most' (at + 1) xs o → Better most at (x ∷ xs) o
  later x xs most most' at o h g b =
      record {
        k = suc b.k;
        x = b.x;
        found = b.found ∙ ap some (omega arith);
        more = omega (arith, b.more);
        largest = record { place = b.largest.place; most = at_most_cons x xs (f b.x) (omega (arith, b.more)) b.largest.most };
      }

  here : (x : A) (xs : List A) (most at : ℕ) (o : Option ℕ) → most < f x → o ≡ some at → AtMost (f x) xs → Better most at (x ∷ xs) o
  here x xs most at o h e r =
      record {
        k = 0;
        x = x;
        found = e ∙ ap some (omega arith);
        more = h;
        largest = record { place = refl; most = at_most_cons x xs (f x) (omega arith) r };
      }

  walk : (best : Option ℕ) (most at : ℕ) (xs : List A) → Walked best most at xs (first_largest_from best most at (map f xs))
  unfolding Walked
  walk best most at [] = inl (refl, λ y m. absurd (none_in m))
    where
      none_in : {y : A} → Memᴰ y [] → ⊥
      none_in m = mathlib.Core.List.Memᴰ.not-nil m
  walk best most at (x ∷ xs) =
      go (ltb most (f x)) refl (walk (some at) (f x) (at + 1) xs) (walk best most (at + 1) xs)
    where
      go : (b : Bool) → ltb most (f x) ≡ b
          → Walked (some at) (f x) (at + 1) xs (first_largest_from (some at) (f x) (at + 1) (map f xs))
          → Walked best most (at + 1) xs (first_largest_from best most (at + 1) (map f xs))
          → Walked best most at (x ∷ xs) (first_largest_from (if b then some at else best) (if b then f x else most) (at + 1) (map f xs))
      go true e (inl t) n = inr (here x xs most at _ (ltb-true most (f x) e) t.0 t.1)
      go true e (inr t) n =
          let h : most < f x = ltb-true most (f x) e in
          inr (later x xs most (f x) at _ (omega arith) (omega arith) t)
      go false e t (inl n) = inl (n.0, at_most_cons x xs most (ltb-false most (f x) e) n.1)
      go false e t (inr n) = inr (later x xs most most at _ (omega arith) (ltb-false most (f x) e) n)

  -- the first largest above 0: none where every element weighs 0, else a place whose element weighs the most
  pub record Found (xs : List A) (k : ℕ) : Type 0 where
    pub x : A
    pub above : 0 < f x
    pub largest : Largest xs k x

  pub first_largest_lem : (xs : List A) → ((first_largest (map f xs) ≡ none) × AtMost 0 xs) ⊎ ((k : ℕ) × (first_largest (map f xs) ≡ some k) × Found xs k)
  unfolding first_largest Walked
  first_largest_lem xs = go (walk none 0 0 xs)
    where
      go : Walked none 0 0 xs (first_largest_from none 0 0 (map f xs))
          → ((first_largest_from none 0 0 (map f xs) ≡ none) × AtMost 0 xs) ⊎ ((k : ℕ) × (first_largest_from none 0 0 (map f xs) ≡ some k) × Found xs k)
      go (inl t) = inl t
      go (inr b) =
          inr (b.k, b.found ∙ ap some (omega arith), record { x = b.x; above = b.more; largest = b.largest })

-- what stands at a place is in the list
pub place_mem : {A : Type 0} (xs : List A) (k : ℕ) (x : A) → get_elem? xs k ≡ some x → Memᴰ x xs
place_mem [] k x e = absurd (let z : ◌≡◌ {A = ℕ} 0 1 = cc in omega arith)
place_mem (y ∷ ys) zero x e = Memᴰ.head (let q : y ≡ x = cc in sym q)
place_mem (y ∷ ys) (suc k) x e = Memᴰ.tail (place_mem ys k x e)
