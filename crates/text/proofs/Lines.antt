-- Decimal numbers as their digits, and texts written one behind the other.
use Prim.Native.Nat.{ℕ, zero, suc, ◌+◌, ◌-◌, ◌*◌, ◌/◌, ◌%◌, ◌^◌, ◌≤◌, ◌<◌}
use mathlib.Core.Path.{◌≡◌, refl, sym, ap, ◌∙◌}
use mathlib.Core.Bool.{Bool, true, false}
use mathlib.Core.List.{List, [], ◌∷◌, ◌++◌}
use native.Mathlib.Nat.{not-suc-le-zero, zero-add, pow-suc}
use native.Mathlib.Omega.{arith}
use lib.Dec.{ltb}
use lib.ListN.{length, take, drop, get_or, set, length-append, length-drop}
use lib.Seq.{take_at, drop_at, set_at, drop-cons, append_snoc, sets, sets-eq}
use borrow.Author.Tests.{lt-ltb, le-ltb, ltb-true, ltb-false}
use borrow.Rule.Slice.PartMut.{put_mid, mid_of}
use Rattle.meaning.specs.Basics.{written_over}
use Rattle.meaning.specs.Records.{decimal_from, decimal}
use Rattle.buffer.proofs.ListLaws.{rest_is}
use Rattle.blocks.proofs.OverLaws.{written_behind}
use Rattle.text.specs.Writes.{Writes}

-- DECIMAL NUMBERS

-- by the test: one digit, or the last digit goes before those in hand
step : Bool → ℕ → ℕ → List ℕ → List ℕ
step b fuel n ds = elim b [ true ↦ (48 + n) ∷ ds | false ↦ decimal_from fuel (n / 10) ((48 + n % 10) ∷ ds) ]

-- the digits in hand stay behind
in_hand : (fuel n : ℕ) (ds es : List ℕ) → decimal_from fuel n (ds ++ es) ≡ decimal_from fuel n ds ++ es
unfolding step
in_hand zero n ds es = refl
in_hand (suc fuel) n ds es = go (ltb n 10) (in_hand fuel (n / 10) ((48 + n % 10) ∷ ds) es)
  where
    go : (b : Bool) → decimal_from fuel (n / 10) ((48 + n % 10) ∷ (ds ++ es)) ≡ decimal_from fuel (n / 10) ((48 + n % 10) ∷ ds) ++ es
        → step b fuel n (ds ++ es) ≡ step b fuel n ds ++ es
    go true ih = refl
    go false ih = ih

-- any fuel above the number is enough
enough : (fuel more n : ℕ) (ds : List ℕ) → n < fuel → n < more → decimal_from fuel n ds ≡ decimal_from more n ds
unfolding step
enough zero more n ds h k = absurd (not-suc-le-zero h)
enough (suc fuel) zero n ds h k = absurd (not-suc-le-zero k)
enough (suc fuel) (suc more) n ds h k = go (ltb n 10) refl (enough fuel more (n / 10) ((48 + n % 10) ∷ ds))
  where
    go : (b : Bool) → ltb n 10 ≡ b
        → (n / 10 < fuel → n / 10 < more → decimal_from fuel (n / 10) ((48 + n % 10) ∷ ds) ≡ decimal_from more (n / 10) ((48 + n % 10) ∷ ds))
        → step b fuel n ds ≡ step b more n ds
    go true e ih = refl
    go false e ih = let t : 10 ≤ n = ltb-false n 10 e in ih (omega arith) (omega arith)

pub decimal_one : (n : ℕ) → n < 10 → decimal n ≡ (48 + n) ∷ []
unfolding decimal step
decimal_one n h = ap (λ (b : Bool). step b n n []) (lt-ltb n 10 h)

-- the last digit behind the others
pub decimal_more : (n : ℕ) → 10 ≤ n → decimal n ≡ decimal (n / 10) ++ (48 + n % 10) ∷ []
unfolding decimal step
decimal_more n h =
    let x : List ℕ = (48 + n % 10) ∷ [] in
    ap (λ (b : Bool). step b n n []) (le-ltb n 10 h)
    ∙ in_hand n (n / 10) [] x ∙ ap (λ (ds : List ℕ). ds ++ x) (enough n (suc (n / 10)) (n / 10) [] (omega arith) (omega arith))

-- no more digits than the powers of ten say
pub decimal_long : (k n : ℕ) → n < 10 ^ suc k → length (decimal n) ≤ suc k
decimal_long zero n h = rw (decimal_one n h) (omega arith)
decimal_long (suc k) n h = go (ltb n 10) refl (decimal_long k (n / 10))
  where
    less : n / 10 < 10 ^ suc k
    less = let e : 10 ^ suc (suc k) ≡ 10 ^ suc k * 10 = pow-suc 10 (suc k) in omega arith

    go : (b : Bool) → ltb n 10 ≡ b → (n / 10 < 10 ^ suc k → length (decimal (n / 10)) ≤ suc k) → length (decimal n) ≤ suc (suc k)
    go true e ih = rw (decimal_one n (ltb-true n 10 e)) (omega arith)
    go false e ih = rw (decimal_more n (ltb-false n 10 e), length-append) (omega (arith, ih less))

pub decimal_short : (n : ℕ) → n < 65536 → length (decimal n) ≤ 5
decimal_short n h = decimal_long 4 n (omega arith)

-- one digit more
pub decimal_longer : (n : ℕ) → 10 ≤ n → length (decimal n) ≡ length (decimal (n / 10)) + 1
decimal_longer n h = rw (decimal_more n h, length-append)

-- at least one
pub decimal_some : (n : ℕ) → 1 ≤ length (decimal n)
decimal_some n = go (ltb n 10) refl
  where
    go : (b : Bool) → ltb n 10 ≡ b → 1 ≤ length (decimal n)
    go true e = rw (decimal_one n (ltb-true n 10 e)) (omega arith)
    go false e = rw (decimal_more n (ltb-false n 10 e), length-append) (omega arith)

-- a number with one byte behind it
pub number_short : (n b : ℕ) → n < 65536 → length (decimal n ++ b ∷ []) ≤ 6
number_short n b h = omega (arith, length-append (decimal n) (b ∷ []), decimal_short n h)

-- TEXTS ONE BEHIND THE OTHER

-- x over the front of a buffer that has room for it, at once or byte by byte
pub over : (x : List ℕ) {out after : List ℕ} → length x ≤ length out → after ≡ written_over x out → Writes x out after (length x)
over x h e = record { count_is = refl; buffer_is = e; inside = h }

pub stored : (x out : List ℕ) → length x ≤ length out → Writes x out (sets out 0 x) (length x)
stored x out h =
    let k : 0 + length x ≡ length x = zero-add (length x) in
    over x h (sets-eq x out 0 (omega arith) ∙ rw k)

-- a text by another name
pub named : {xs ys out after : List ℕ} {n : ℕ} → xs ≡ ys → Writes xs out after n → Writes ys out after n
named {xs} {ys} {out} {after} {n} e w = rw (← e) w

module _ {xs out after : List ℕ} {n : ℕ} (w : Writes xs out after n) where
  pub kept_long : length after ≡ length out
  kept_long = rw (w.buffer_is, length-append, length-drop) (omega (arith, w.count_is, w.inside))

  behind_is : drop n after ≡ drop n out
  behind_is = rw (w.buffer_is, drop_at xs (drop (length xs) out) n (sym w.count_is), w.count_is)

  pub front_is : take n after ≡ xs
  front_is = rw (w.buffer_is, take_at xs (drop (length xs) out) n (sym w.count_is))

  -- what a writer is lent that goes on behind it
  pub lent_behind : mid_of n (length after - n) after ≡ drop n out
  lent_behind = rest_is n after ∙ behind_is

  pub room_behind : (k : ℕ) → k + n ≤ length out → k ≤ length (mid_of n (length after - n) after)
  room_behind k h = rw (lent_behind, length-drop) (omega arith)

  -- one byte
  pub byte_behind : (b : ℕ) → n < length out → Writes (xs ++ b ∷ []) out (set after n b) (n + 1)
  byte_behind b h =
      let l : length (xs ++ b ∷ []) ≡ suc n = length-append xs (b ∷ []) ∙ omega (arith, w.count_is) in
      let s : set after n b ≡ xs ++ b ∷ drop (suc n) out =
      rw (w.buffer_is, ← w.count_is, drop-cons out n 0 h, set_at xs (get_or out n 0) (drop (suc n) out) b n (sym w.count_is)) in
      record { count_is = omega (arith, l); buffer_is = s ∙ rw (l, append_snoc); inside = omega arith }

  -- a text, by a writer that was lent what is behind
  pub text_behind : {ys last : List ℕ} {m : ℕ} → Writes ys (mid_of n (length after - n) after) last m
      → Writes (xs ++ ys) out (put_mid n (length after - n) after last) (n + m)
  text_behind {ys} {last} {m} v =
      let l : length (xs ++ ys) ≡ n + m = length-append xs ys ∙ omega (arith, w.count_is, v.count_is) in
      let room : n + m ≤ length out = omega (arith, ap length lent_behind, length-drop n out, v.inside, w.inside) in
      record { count_is = sym l; buffer_is = written_behind xs ys out n w.buffer_is w.count_is (rw (← v.count_is) room) last v.buffer_is; inside = room }
