-- Bytes written over the front of a buffer, one run of them behind another, or over the end of the one before.
use Prim.Native.Nat.{ℕ, ◌+◌, ◌-◌, ◌≤◌}
use mathlib.Core.Path.{◌≡◌, sym, ap, ◌∙◌}
use mathlib.Core.List.{List, ◌++◌, append_assoc}
use native.Mathlib.Omega.{arith}
use lib.ListN.{length, take, drop, length-append, length-drop}
use lib.Seq.{take_at, drop_at, drop-drop, take-take, take-add, take-append-le, length-take-le}
use borrow.Rule.Slice.PartMut.{put_mid, mid_of}
use Rattle.meaning.specs.Basics.{written_over}
use Rattle.buffer.proofs.Moves.{Seam}
use Rattle.buffer.proofs.ListLaws.{rest_is, rest_back}

pub length_over : (xs out : List ℕ) → length xs ≤ length out → length (written_over xs out) ≡ length out
length_over xs out h = rw (length-append, length-drop) (omega arith)

-- the first n bytes are xs, and ys go behind them by a writer that was lent what is there
module _ (xs ys out : List ℕ) {after : List ℕ} (n : ℕ) (first : after ≡ written_over xs out) (n-is : n ≡ length xs) (room : n + length ys ≤ length out) where
  after_long : length after ≡ length out
  after_long = ap length first ∙ length_over xs out (omega arith)

  lent_behind : mid_of n (length after - n) after ≡ drop n out
  lent_behind = rest_is n after ∙ (ap (drop n) first ∙ (drop_at xs (drop (length xs) out) n (sym n-is) ∙ ap (λ (k : ℕ). drop k out) (sym n-is)))

  pub written_behind : (last : List ℕ) → last ≡ written_over ys (mid_of n (length after - n) after) → put_mid n (length after - n) after last ≡ written_over (xs ++ ys) out
  written_behind last e =
      let t : take n after ≡ xs = ap (take n) first ∙ take_at xs (drop (length xs) out) n (sym n-is) in
      let l : length (xs ++ ys) ≡ n + length ys = length-append xs ys ∙ omega arith in
      let s : last ≡ ys ++ drop (length ys) (drop n out) = e ∙ ap (written_over ys) lent_behind in
      rest_back n after last (omega (arith, after_long)) ∙ rw (t, s, drop-drop, l, append_assoc)

-- the same where what was lent is so many bytes by number, as a part of an array is
pub array_behind : (xs ys out : List ℕ) {after : List ℕ} (n k : ℕ) → k ≡ length after - n → after ≡ written_over xs out → n ≡ length xs → n + length ys ≤ length out
    → (last : List ℕ) → last ≡ written_over ys (mid_of n k after) → put_mid n k after last ≡ written_over (xs ++ ys) out
array_behind xs ys out {after} n k k-is first n-is room last e =
    let w : last ≡ written_over ys (mid_of n (length after - n) after) = e ∙ ap (λ (j : ℕ). written_over ys (mid_of n j after)) k-is in
    ap (λ (j : ℕ). put_mid n j after last) k-is ∙ written_behind xs ys out n first n-is room last w

-- the first n bytes of a part that begins n places on, and those before it
pub two_parts : (n k : ℕ) (s : List ℕ) → n ≤ k → take n s ++ take n (take k (drop n s)) ≡ take (n + n) s
two_parts n k s h = rw (take-take n k (drop n s) h) (sym (take-add n n s))

-- the n bytes of x from place j on, over what may be written already in part: the seam moves behind them
pub seam_block : {x m s : List ℕ} {i : ℕ} → Seam x m i s → (j n : ℕ) → j ≤ i → i ≤ j + n → j + n ≤ length x
    → {last : List ℕ} → last ≡ written_over (take n (drop j x)) (mid_of j (length s - j) s) → Seam x m (j + n) (put_mid j (length s - j) s last)
seam_block {x} {m} {s} {i} g j n seen new inside {last} e =
    let front : take j s ≡ take j x =
    ap (take j) g.bytes ∙ (take-append-le j (take i x) (drop i m) (omega (arith, length-take-le i x g.below)) ∙ take-take j i x seen) in
    let k : j + n ≡ i + (j + n - i) = omega arith in
    let rest : drop i s ≡ drop i m = ap (drop i) g.bytes ∙ drop_at (take i x) (drop i m) i (length-take-le i x g.below) in
    let behind : drop (j + n) s ≡ drop (j + n) m =
    rw k (sym (drop-drop (j + n - i) i s) ∙ (ap (drop (j + n - i)) rest ∙ drop-drop (j + n - i) i m)) in
    let l : length (take n (drop j x)) ≡ n = length-take-le n (drop j x) (rw length-drop (omega arith)) in
    let w : last ≡ take n (drop j x) ++ drop (j + n) m = e ∙ rw (rest_is j s, l, drop-drop, behind) in
    let b : put_mid j (length s - j) s last ≡ take (j + n) x ++ drop (j + n) m =
    rest_back j s last (omega (arith, g.below, g.room, g.long)) ∙ rw (front, w, take-add, append_assoc) in
    record {
      below = inside;
      room = g.room;
      bytes = b;
      long = ap length b ∙ (length-append (take (j + n) x) (drop (j + n) m) ∙ omega (arith, length-take-le (j + n) x inside, length-drop (j + n) m, g.room));
    }
