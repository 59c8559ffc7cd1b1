-- Halving a column: what each half says, and what the two ends say of every place of a column that rises.
use Prim.Native.Nat.{ℕ, ◌+◌, ◌*◌, ◌-◌, ◌≤◌, ◌<◌}
use mathlib.Core.Path.{◌≡◌, refl}
use mathlib.Core.Bool.{Bool, true, false}
use mathlib.Core.List.{List}
use native.Mathlib.Omega.{arith}
use lib.ListN.{length}
use lib.Dec.{eqb}
use borrow.Author.Tests.{eqb-true, eqb-false}
use Rattle.meaning.specs.Sizes.{RULE-WIDTH}
use Rattle.narrowing.specs.Columns.{byte_at, Start, Narrowed}

-- what is left between low and high: a byte below d before it, and one that is not behind it
pub record Halving (m : List ℕ) (lo hi column d low high : ℕ) : Type 0 where
  pub from : lo ≤ low
  pub along : low ≤ high
  pub to : high ≤ hi
  pub few : hi ≤ 4096
  pub room : RULE-WIDTH * hi ≤ length m
  pub width : column < RULE-WIDTH
  pub before : lo < low → byte_at m column (low - 1) < d
  pub behind : high < hi → d ≤ byte_at m column high

module _ (m : List ℕ) (lo hi column d : ℕ) where
  module _ (low high mid b : ℕ) (h : Halving m lo hi column d low high) (l : low ≤ mid) (r : mid < high) (b-is : b ≡ byte_at m column mid) where
    pub halving_low : b < d → Halving m lo hi column d (mid + 1) high
    halving_low below =
        let k : mid + 1 - 1 ≡ mid = omega arith in
        record {
          from = omega (arith, h.from);
          along = omega arith;
          to = h.to;
          few = h.few;
          room = h.room;
          width = h.width;
          before = λ q. rw k (omega arith);
          behind = h.behind;
        }

    pub halving_high : d ≤ b → Halving m lo hi column d low mid
    halving_high above =
        record {
          from = h.from;
          along = l;
          to = omega (arith, h.to);
          few = h.few;
          room = h.room;
          width = h.width;
          before = h.before;
          behind = λ q. omega arith;
        }

  pub halving_done : (low high : ℕ) → Halving m lo hi column d low high → high ≤ low → Start m lo hi column d low
  halving_done low high h e =
      let k : high ≡ low = omega (arith, h.along) in
      record { low = h.from; high = omega (arith, h.to); before = h.before; behind = λ q. rw k at (h.behind (omega (arith, q, k))) }

-- the bytes of the column rise from place to place
abbrev pub Rising : List ℕ → ℕ → ℕ → ℕ → Type 0
Rising m lo hi column = (a b : ℕ) → lo ≤ a → a < b → b < hi → byte_at m column a ≤ byte_at m column b

module _ (m : List ℕ) (lo hi column d r : ℕ) (rising : Rising m lo hi column) (s : Start m lo hi column d r) where
  start_below : (k : ℕ) → lo ≤ k → k < r → byte_at m column k < d
  start_below k h g = go (eqb k (r - 1)) refl
    where
      go : (t : Bool) → eqb k (r - 1) ≡ t → byte_at m column k < d
      go true q = let e : k ≡ r - 1 = eqb-true k (r - 1) q in rw e (s.before (omega arith))
      go false q =
          let up : byte_at m column k ≤ byte_at m column (r - 1) = rising k (r - 1) h (omega (arith, eqb-false k (r - 1) q)) (omega (arith, s.high)) in
          omega (arith, s.before (omega arith))

  start_above : (k : ℕ) → r ≤ k → k < hi → d ≤ byte_at m column k
  start_above k h g = go (eqb k r) refl
    where
      go : (t : Bool) → eqb k r ≡ t → d ≤ byte_at m column k
      go true q = let e : k ≡ r = eqb-true k r q in rw e (s.behind (omega arith))
      go false q =
          let up : byte_at m column r ≤ byte_at m column k = rising r k s.low (omega (arith, eqb-false k r q)) g in
          omega (arith, s.behind (omega arith))

-- the places from `from` to `to` are those whose byte is d
pub record Parted (m : List ℕ) (lo hi column d from to : ℕ) : Type 0 where
  pub low : lo ≤ from
  pub along : from ≤ to
  pub high : to ≤ hi
  pub below : (k : ℕ) → lo ≤ k → k < from → byte_at m column k < d
  pub equal : (k : ℕ) → from ≤ k → k < to → byte_at m column k ≡ d
  pub above : (k : ℕ) → to ≤ k → k < hi → d < byte_at m column k

pub parted : (m : List ℕ) (lo hi column d from to : ℕ) → Rising m lo hi column → Narrowed m lo hi column d from to → Parted m lo hi column d from to
parted m lo hi column d from to rising n =
    let s = n.start in
    let e = n.end in
    let later : Rising m from hi column = λ a b h. rising a b (omega (arith, s.low, h)) in
    record {
      low = s.low;
      along = e.low;
      high = e.high;
      below = start_below m lo hi column d from rising s;
      equal = λ k h g.
          omega (arith, start_above m lo hi column d from rising s k h (omega (arith, g, e.high)), start_below m from hi column (d + 1) to later e k h g);
      above = λ k h g. omega (arith, start_above m from hi column (d + 1) to later e k h g);
    }
