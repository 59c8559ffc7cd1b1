-- Laws of slots, over any width.
use Prim.Native.Nat.{ℕ, zero, suc, ◌+◌, ◌*◌, ◌-◌, ◌/◌, ◌≤◌, ◌<◌}
use mathlib.Core.Path.{◌≡◌, refl, sym, ap, ◌∙◌}
use mathlib.Core.List.{List, [], ◌∷◌, ◌++◌, append_assoc, append-nil}
use native.Mathlib.Nat.{mul-suc, mul-zero, mul-add, mul_comm, mul-div_cancel_left, mul-le-mul_left, not-suc-le-zero, le_of_suc-le-suc, sub-zero}
use native.Mathlib.Numerals.{add-one}
use native.Mathlib.Omega.{arith}
use lib.ListN.{length, take, drop, get_or, set, length-append, length-drop, take-append-drop}
use lib.Seq.{take_at, drop_at, take-add, drop-drop, take-take, length-take-le, set_split}
use borrow.Rule.Slice.PartMut.{put_mid, mid_of, Post-is, mid_len}
use Rattle.std.specs.Simd.{first_chunks}
use Rattle.std.proofs.lemmas.Nat.{le-div}
use Rattle.buffer.specs.Slots.{slots, flat, Wide, with_slots, insert_at, remove_at}
use Rattle.buffer.proofs.ListLaws.{drop_take}

-- PRODUCTS

pub times_next : (w i : ℕ) → w * suc i ≡ w + w * i
times_next w i = simp mul-suc (omega arith)

pub times_more : (w i : ℕ) → w * (i + 1) ≡ w * i + w
times_more w i = rw (add-one, mul-suc)

-- slot i ends where slot n begins, or before
pub times_below : (w i n : ℕ) → i < n → w * i + w ≤ w * n
times_below w i n h = let l : w * suc i ≤ w * n = mul-le-mul_left w h in omega (arith, times_next w i)

pub times_within : (w i n : ℕ) → i ≤ n → w * i ≤ w * n
times_within w i n h = mul-le-mul_left w h

-- the slots from i to n
pub times_rest : (w i n : ℕ) → i ≤ n → w * i + w * (n - i) ≡ w * n
times_rest w i n h = let e : i + (n - i) ≡ n = omega arith in sym (mul-add w i (n - i)) ∙ ap (λ (k : ℕ). w * k) e

-- SLOTS AND THEIR BYTES

pub flat_append : (a b : List (List ℕ)) → flat (a ++ b) ≡ flat a ++ flat b
flat_append [] b = refl
flat_append (s ∷ a) b = ap (λ (l : List ℕ). s ++ l) (flat_append a b) ∙ sym (append_assoc s (flat a) (flat b))

pub length_flat : (w : ℕ) (ss : List (List ℕ)) → Wide w ss → length (flat ss) ≡ w * length ss
length_flat w [] h = sym (mul-zero w)
length_flat w (s ∷ ss) h = simp (length-append, h.0, length_flat w ss h.1, mul-suc) (omega arith)

pub slots_flat : (w : ℕ) (ss : List (List ℕ)) (r : List ℕ) → Wide w ss → slots w (length ss) (flat ss ++ r) ≡ ss
slots_flat w [] r h = refl
slots_flat w (s ∷ ss) r h = simp (append_assoc, take_at s (flat ss ++ r) w h.0, drop_at s (flat ss ++ r) w h.0, slots_flat w ss r h.1)

pub flat_slots : (w n : ℕ) (m : List ℕ) → flat (slots w n m) ≡ take (w * n) m
flat_slots w zero m = simp mul-zero
flat_slots w (suc n) m = rw (times_next w n, take-add, flat_slots w n (drop w m))

pub length_slots : (w n : ℕ) (m : List ℕ) → length (slots w n m) ≡ n
length_slots w zero m = refl
length_slots w (suc n) m = ap suc (length_slots w n (drop w m))

pub wide_slots : (w n : ℕ) (m : List ℕ) → w * n ≤ length m → Wide w (slots w n m)
wide_slots w zero m h = tt
wide_slots w (suc n) m h =
    let e : w * suc n ≡ w + w * n = times_next w n in
    (length-take-le w m (omega arith), wide_slots w n (drop w m) (simp length-drop (omega arith)))

-- one of n slots
pub slot_at : (w i n : ℕ) (m : List ℕ) → i < n → get_or (slots w n m) i [] ≡ take w (drop (w * i) m)
slot_at w i zero m h = absurd (not-suc-le-zero h)
slot_at w zero (suc n) m h = simp mul-zero
slot_at w (suc i) (suc n) m h =
    rw (times_next w i, ← drop-drop (w * i) w m, slot_at w i n (drop w m) (le_of_suc-le-suc h))

-- the slots from i on
pub slots_from : (w i n : ℕ) (m : List ℕ) → i ≤ n → drop i (slots w n m) ≡ slots w (n - i) (drop (w * i) m)
slots_from w zero n m h = simp (mul-zero, sub-zero)
slots_from w (suc i) zero m h = absurd (not-suc-le-zero h)
slots_from w (suc i) (suc n) m h =
    let k : suc n - suc i ≡ n - i = omega arith in
    rw (times_next w i, ← drop-drop (w * i) w m, k, slots_from w i n (drop w m) (le_of_suc-le-suc h))

-- the first i of n slots
pub slots_first : (w i n : ℕ) (m : List ℕ) → i ≤ n → take i (slots w n m) ≡ slots w i m
slots_first w zero n m h = refl
slots_first w (suc i) zero m h = absurd (not-suc-le-zero h)
slots_first w (suc i) (suc n) m h = ap (λ (ss : List (List ℕ)). take w m ∷ ss) (slots_first w i n (drop w m) (le_of_suc-le-suc h))

-- the first of the slots from i on, and those behind it
pub slots_next : (w i n : ℕ) (m : List ℕ) → i < n
    → slots w (n - i) (drop (w * i) m) ≡ take w (drop (w * i) m) ∷ slots w (n - (i + 1)) (drop (w * (i + 1)) m)
slots_next w i n m h =
    let k : n - i ≡ suc (n - (i + 1)) = omega arith in
    rw (k, times_more w i, ← drop-drop w (w * i) m)

-- THE CHUNKS THAT BYTES ARE CUT INTO ARE SLOTS

chunks_as : (w k : ℕ) (m : List ℕ) → first_chunks w k m ≡ slots w k m
chunks_as w zero m = refl
chunks_as w (suc k) m = ap (λ (ss : List (List ℕ)). take w m ∷ ss) (chunks_as w k (drop w m))

-- bytes of n slots, and the first n chunks of bytes that hold more
pub whole_slots : (w n : ℕ) (m : List ℕ) → 0 < w → length m ≡ w * n → first_chunks w (length m / w) m ≡ slots w n m
whole_slots w n m h e = let k : length m / w ≡ n = rw e (mul-div_cancel_left n h) in rw k (chunks_as w n m)

pub lent_slots : (w n : ℕ) (m : List ℕ) → 0 < w → w * n ≤ length m → take n (first_chunks w (length m / w) m) ≡ slots w n m
lent_slots w n m h l =
    let k : n ≤ length m / w = le-div n (length m) w h (rw (mul_comm n w) l) in
    rw (chunks_as w (length m / w) m) (slots_first w n (length m / w) m k)

-- WHAT STANDS BEHIND THE SLOTS DOES NOT MATTER

pub slots_part : (w n k : ℕ) (m : List ℕ) → w * n ≤ k → slots w n (take k m) ≡ slots w n m
slots_part w zero k m h = refl
slots_part w (suc n) k m h =
    let e : w * suc n ≡ w + w * n = times_next w n in
    let l : k ≡ w + (k - w) = omega arith in
    let d : drop w (take k m) ≡ take (k - w) (drop w m) = drop_take w k m (omega arith) in
    rw (take-take w k m (omega arith), d, slots_part w n (k - w) (drop w m) (omega arith))

-- AN EDIT OF SLOTS AS BYTES

module _ (w i n : ℕ) (m : List ℕ) where
  first_bytes : i ≤ n → flat (take i (slots w n m)) ≡ take (w * i) m
  first_bytes h = ap flat (slots_first w i n m h) ∙ flat_slots w i m

  from_bytes : i ≤ n → flat (drop i (slots w n m)) ≡ take (w * (n - i)) (drop (w * i) m)
  from_bytes h = ap flat (slots_from w i n m h) ∙ flat_slots w (n - i) (drop (w * i) m)

pub insert_bytes : (w i n : ℕ) (m x : List ℕ) → i ≤ n
    → flat (insert_at i x (slots w n m)) ≡ take (w * i) m ++ (x ++ take (w * (n - i)) (drop (w * i) m))
insert_bytes w i n m x h =
    flat_append (take i (slots w n m)) (x ∷ drop i (slots w n m)) ∙ rw (first_bytes w i n m h, from_bytes w i n m h)

pub remove_bytes : (w i n : ℕ) (m z : List ℕ) → i < n
    → flat (remove_at i (slots w n m) ++ z ∷ []) ≡ take (w * i) m ++ (take (w * (n - suc i)) (drop (w * suc i) m) ++ z)
remove_bytes w i n m z h =
    let s : List (List ℕ) = slots w n m in
    flat_append (remove_at i s) (z ∷ []) ∙ rw (flat_append (take i s) (drop (suc i) s), append-nil, append_assoc, first_bytes w i n m (omega arith), from_bytes w (suc i) n m h)

pub set_bytes : (w i n : ℕ) (m x : List ℕ) → i < n
    → with_slots w n (set (slots w n m) i x) m ≡ take (w * i) m ++ (x ++ drop (w * suc i) m)
set_bytes w i n m x h =
    let s : List (List ℕ) = slots w n m in
    let f : flat (set s i x) ≡ flat (take i s) ++ (x ++ flat (drop (suc i) s)) =
    ap flat (set_split s i x (rw (length_slots w n m) h)) ∙ flat_append (take i s) (x ∷ drop (suc i) s) in
    let t : drop (w * suc i) m ≡ flat (drop (suc i) s) ++ drop (w * n) m =
    sym (take-append-drop (w * (n - suc i)) (drop (w * suc i) m)) ∙ rw (from_bytes w (suc i) n m h, drop-drop, times_rest w (suc i) n h) in
    rw (f, t, first_bytes w i n m (omega arith), append_assoc, append_assoc)

-- A PART THAT WAS LENT AND CAME BACK

came_back : (a e : ℕ) (m ys : List ℕ) → a ≤ e → put_mid a (e - a) m ys ≡ take a m ++ (ys ++ drop e m)
came_back a e m ys h = ap (λ (t : List ℕ). take a m ++ (ys ++ t)) (Post-is a e m h)

-- the slots from i to n lent with the slot behind them, and x pushed before them
pub insert_part : (w i n : ℕ) (m x ys : List ℕ) → i ≤ n → w * (n + 1) ≤ length m → length x ≡ w
    → ys ≡ x ++ take (length (mid_of (w * i) (w * n + w - w * i) m) - length x) (mid_of (w * i) (w * n + w - w * i) m)
    → put_mid (w * i) (w * n + w - w * i) m ys ≡ with_slots w (n + 1) (insert_at i x (slots w n m)) m
insert_part w i n m x ys h g l q =
    let t : w * (n + 1) ≡ w * n + w = times_more w n in
    let r : w * i + w * (n - i) ≡ w * n = times_rest w i n h in
    let k : length (mid_of (w * i) (w * n + w - w * i) m) - length x ≡ w * (n - i) = rw (mid_len (w * i) (w * n + w) m (omega arith)) (omega arith) in
    let y : ys ≡ x ++ take (w * (n - i)) (drop (w * i) m) =
    q ∙ rw k (ap (λ (l : List ℕ). x ++ l) (take-take (w * (n - i)) (w * n + w - w * i) (drop (w * i) m) (omega arith))) in
    came_back (w * i) (w * n + w) m ys (omega arith) ∙ rw (y, ← t, insert_bytes w i n m x h) (sym (append_assoc (take (w * i) m) _ _))

-- the slots from i to n lent, and slot i popped from them with z put behind
pub remove_part : (w i n : ℕ) (m z ys : List ℕ) → i < n → w * n ≤ length m
    → ys ≡ drop w (mid_of (w * i) (w * n - w * i) m) ++ z
    → put_mid (w * i) (w * n - w * i) m ys ≡ with_slots w n (remove_at i (slots w n m) ++ z ∷ []) m
remove_part w i n m z ys h g q =
    let r : w * suc i + w * (n - suc i) ≡ w * n = times_rest w (suc i) n h in
    let t : w * suc i ≡ w * i + w = mul-suc w i in
    let k : w * n - w * i - w ≡ w * (n - suc i) = omega arith in
    let d : drop w (mid_of (w * i) (w * n - w * i) m) ≡ take (w * (n - suc i)) (drop (w * suc i) m) =
    drop_take w (w * n - w * i) (drop (w * i) m) (omega arith) ∙ rw (k, drop-drop, t) in
    let y : ys ≡ take (w * (n - suc i)) (drop (w * suc i) m) ++ z = q ∙ ap (λ (l : List ℕ). l ++ z) d in
    came_back (w * i) (w * n) m ys (omega arith) ∙ rw (y, remove_bytes w i n m z h) (sym (append_assoc (take (w * i) m) _ _))
