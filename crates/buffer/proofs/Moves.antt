-- One turn of a loop that stores bytes, and the two parts of a push and of a pop.
use Prim.Native.Nat.{ℕ, zero, suc, ◌+◌, ◌-◌, ◌≤◌, ◌<◌, zero-le}
use mathlib.Core.Path.{◌≡◌, refl, sym, ap, ◌∙◌}
use mathlib.Core.List.{List, [], ◌∷◌, ◌++◌}
use native.Mathlib.Nat.{not-suc-le-zero, le_of_suc-le-suc, le_refl}
use native.Mathlib.Numerals.{add-one}
use native.Mathlib.Omega.{arith}
use lib.ListN.{length, take, drop, get_or, set, length-set, length-drop}
use lib.Seq.{take-length, drop_at, take_at, length-take-le}
use borrow.Rule.Slice.PartMut.{put_mid, mid_of, mid_len}
use Rattle.buffer.specs.Zeros.{zeros}
use Rattle.buffer.proofs.ListLaws.{rest_back}

-- a front that is x's, a rest that is m's: a store of x's next byte moves the seam up
seam_up : (x m : List ℕ) (i : ℕ) → i < length x → i < length m
    → set (take i x ++ drop i m) i (get_or x i 0) ≡ take (suc i) x ++ drop (suc i) m
seam_up [] m i h k = absurd (not-suc-le-zero h)
seam_up (a ∷ x) [] i h k = absurd (not-suc-le-zero k)
seam_up (a ∷ x) (b ∷ m) zero h k = refl
seam_up (a ∷ x) (b ∷ m) (suc i) h k = ap (λ (l : List ℕ). a ∷ l) (seam_up x m i (le_of_suc-le-suc h) (le_of_suc-le-suc k))

-- a loop that stores x over the front of m, byte by byte: at i, s has x's first i bytes and m's rest
pub record Seam (x m : List ℕ) (i : ℕ) (s : List ℕ) : Type 0 where
  pub below : i ≤ length x
  pub room : length x ≤ length m
  pub bytes : s ≡ take i x ++ drop i m
  pub long : length s ≡ length m

pub seam_none : (x m : List ℕ) → length x ≤ length m → Seam x m 0 m
seam_none x m h = record { below = zero-le; room = h; bytes = refl; long = refl }

pub seam_more : {x m s : List ℕ} {i : ℕ} (v : ℕ) → Seam x m i s → i < length x → v ≡ get_or x i 0 → Seam x m (i + 1) (set s i v)
seam_more {x} {m} {s} {i} v f h e =
    let k : i < length m = omega (arith, f.room) in
    let q : set (take i x ++ drop i m) i (get_or x i 0) ≡ take (suc i) x ++ drop (suc i) m = seam_up x m i h k in
    record { below = omega arith; room = f.room; bytes = rw (add-one, f.bytes, e) q; long = length-set s i v ∙ f.long }

pub seam_all : {x m s : List ℕ} {i : ℕ} → Seam x m i s → length x ≤ i → s ≡ x ++ drop (length x) m
seam_all {x} {m} {s} {i} f h =
    let e : i ≡ length x = omega (arith, f.below) in
    f.bytes ∙ ap (λ (k : ℕ). take k x ++ drop k m) e ∙ ap (λ (l : List ℕ). l ++ drop (length x) m) (take-length x)

-- a push: s with its bytes further up, and then x over the front
pub push_parts : (s x s₁ t : List ℕ) → length x ≤ length s → s₁ ≡ take (length x) s ++ t → x ++ drop (length x) s₁ ≡ x ++ t
push_parts s x s₁ t h e = rw (e, drop_at (take (length x) s) t (length x) (length-take-le (length x) s h))

-- a pop: s with its bytes w further down, and then z over the last w
pub pop_parts : (s s₁ z : List ℕ) (w : ℕ) → w ≤ length s → s₁ ≡ drop w s ++ drop (length s - w) s → length s₁ ≡ length s
    → z ≡ zeros (length (mid_of (length s₁ - w) (length s₁ - (length s₁ - w)) s₁))
    → put_mid (length s₁ - w) (length s₁ - (length s₁ - w)) s₁ z ≡ drop w s ++ zeros w
pop_parts s s₁ z w h e l q =
    let k : length s₁ - (length s₁ - w) ≡ w = omega arith in
    let n : length (mid_of (length s₁ - w) (length s₁ - (length s₁ - w)) s₁) ≡ w = mid_len (length s₁ - w) (length s₁) s₁ (le_refl _) ∙ k in
    let t : take (length s₁ - w) s₁ ≡ drop w s =
    ap (λ (r : List ℕ). take (length s₁ - w) r) e ∙ take_at (drop w s) (drop (length s - w) s) (length s₁ - w) (length-drop w s ∙ ap (λ (j : ℕ). j - w) (sym l)) in
    let y : z ≡ zeros w = q ∙ ap (λ (j : ℕ). zeros j) n in
    rest_back (length s₁ - w) s₁ z (omega arith) ∙ rw (t, y)
