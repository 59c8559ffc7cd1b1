-- Parts of lists; elements put in, taken out and replaced at a place; and what a function of each element sees.
use Prim.Native.Nat.{ℕ, zero, suc, ◌+◌, ◌-◌, ◌≤◌, ◌<◌}
use mathlib.Core.Path.{◌≡◌, refl, sym, ap, ap₂, ◌∙◌}
use mathlib.Core.List.{List, [], ◌∷◌, ◌++◌, map, map-append, append-nil}
use mathlib.Core.Option.{none, some}
use native.Mathlib.Nat.{not-suc-le-zero, le_of_suc-le-suc, sub-zero}
use native.Mathlib.Numerals.{add-one}
use native.Mathlib.Omega.{arith}
use lib.Seq.{take-nil, take-take, take_all, drop-length}
use lib.ListN.{length, take, drop, get_or, set, get_elem?, length-append, length-take, length-drop}
use borrow.Rule.Slice.PartMut.{put_mid, Post-is}
use Rattle.buffer.specs.Slots.{insert_at, remove_at}

-- a part that was lent to the end, and came back
pub rest_back : (a : ℕ) (m ys : List ℕ) → a ≤ length m → put_mid a (length m - a) m ys ≡ take a m ++ ys
rest_back a m ys h = rw (Post-is a (length m) m h ∙ drop-length m, append-nil)

module _ {A : Type 0} where
  pub drop_take : (w k : ℕ) (xs : List A) → w ≤ k → drop w (take k xs) ≡ take (k - w) (drop w xs)
  drop_take zero k xs h = simp sub-zero
  drop_take (suc w) zero xs h = absurd (not-suc-le-zero h)
  drop_take (suc w) (suc k) [] h = sym (take-nil (suc k - suc w))
  drop_take (suc w) (suc k) (x ∷ xs) h = let e : suc k - suc w ≡ k - w = omega arith in rw e (drop_take w k xs (le_of_suc-le-suc h))

  -- a part that ends where the list ends
  pub rest_is : (i : ℕ) (xs : List A) → take (length xs - i) (drop i xs) ≡ drop i xs
  rest_is i xs = take_all (length xs - i) (drop i xs) (rw length-drop (omega arith))

  -- a part within the first k bytes
  pub part_part : (a n k : ℕ) (xs : List A) → a + n ≤ k → take n (drop a (take k xs)) ≡ take n (drop a xs)
  part_part a n k xs h = rw (drop_take a k xs (omega arith), take-take n (k - a) (drop a xs) (omega arith))

  pub length_insert : (i : ℕ) (x : A) (xs : List A) → i ≤ length xs → length (insert_at i x xs) ≡ suc (length xs)
  length_insert i x xs h = simp (length-append, length-take, length-drop) (omega arith)

  pub length_remove : (i : ℕ) (xs : List A) → i < length xs → suc (length (remove_at i xs)) ≡ length xs
  length_remove i xs h = simp (length-append, length-take, length-drop) (omega arith)

  -- the element at a place within the list
  pub element_at : (xs : List A) (k : ℕ) (d : A) → k < length xs → get_elem? xs k ≡ some (get_or xs k d)
  element_at [] k d h = absurd (not-suc-le-zero h)
  element_at (x ∷ xs) zero d h = refl
  element_at (x ∷ xs) (suc k) d h = element_at xs k d (le_of_suc-le-suc h)

  -- and none behind it
  pub no_element : (xs : List A) (k : ℕ) → length xs ≤ k → get_elem? xs k ≡ none
  no_element [] k h = refl
  no_element (x ∷ xs) zero h = absurd (not-suc-le-zero h)
  no_element (x ∷ xs) (suc k) h = no_element xs k (le_of_suc-le-suc h)

  -- a part of two elements written over
  pub two_stores : (xs : List A) (i : ℕ) (x y : A) → i + 1 < length xs → put_mid i (i + 2 - i) xs (x ∷ y ∷ []) ≡ set (set xs i x) (i + 1) y
  two_stores xs i x y h = let two : i + 2 - i ≡ 2 = omega arith in rw (two, add-one) (go xs i (omega arith))
    where
      go : (xs : List A) (i : ℕ) → suc i < length xs → put_mid i 2 xs (x ∷ y ∷ []) ≡ set (set xs i x) (suc i) y
      go [] i h = absurd (not-suc-le-zero h)
      go (a ∷ []) zero h = absurd (omega arith)
      go (a ∷ b ∷ xs) zero h = refl
      go (a ∷ xs) (suc i) h = ap (λ (ys : List A). a ∷ ys) (go xs i (le_of_suc-le-suc h))

module _ {A B : Type 0} (f : A → B) where
  pub map_take : (i : ℕ) (xs : List A) → map f (take i xs) ≡ take i (map f xs)
  map_take zero xs = refl
  map_take (suc i) [] = refl
  map_take (suc i) (x ∷ xs) = ap (λ (ys : List B). f x ∷ ys) (map_take i xs)

  pub map_drop : (i : ℕ) (xs : List A) → map f (drop i xs) ≡ drop i (map f xs)
  map_drop zero xs = refl
  map_drop (suc i) [] = refl
  map_drop (suc i) (x ∷ xs) = map_drop i xs

  pub map_set : (i : ℕ) (x : A) (xs : List A) → map f (set xs i x) ≡ set (map f xs) i (f x)
  map_set i x [] = refl
  map_set zero x (y ∷ xs) = refl
  map_set (suc i) x (y ∷ xs) = ap (λ (ys : List B). f y ∷ ys) (map_set i x xs)

  pub map_insert : (i : ℕ) (x : A) (xs : List A) → map f (insert_at i x xs) ≡ insert_at i (f x) (map f xs)
  map_insert i x xs =
      map-append f (take i xs) (x ∷ drop i xs) ∙ ap₂ (λ (a b : List B). a ++ f x ∷ b) (map_take i xs) (map_drop i xs)

  pub map_remove : (i : ℕ) (xs : List A) → map f (remove_at i xs) ≡ remove_at i (map f xs)
  map_remove i xs =
      map-append f (take i xs) (drop (suc i) xs) ∙ ap₂ (λ (a b : List B). a ++ b) (map_take i xs) (map_drop (suc i) xs)
