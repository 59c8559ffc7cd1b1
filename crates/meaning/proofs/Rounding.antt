-- The one rounding of a loss: to the nearest whole cent of 60,000 units, halves away from zero, and either side of zero alike.
use Prim.Native.Nat.{ℕ, zero, suc, ◌+◌, ◌*◌, ◌/◌, ◌≤◌, ◌<◌}
use mathlib.Core.Path.{◌≡◌, refl, sym}
use native.Mathlib.Omega.{arith}
use lib.IntN.{ℤ, pos, negsuc, neg_ℤ, neg_ℤ-neg_ℤ}
use Rattle.meaning.specs.Ledger.{cents}

-- what we lose and what we were overcharged round alike
pub cents_sign : (x : ℤ) → cents (neg_ℤ x) ≡ neg_ℤ (cents x)
unfolding cents
cents_sign (pos zero) = refl
cents_sign (pos (suc n)) = refl
cents_sign (negsuc n) = sym (neg_ℤ-neg_ℤ (pos ((suc n + 30000) / 60000)))

-- whole cents that are at most half a cent from a size in units, and over it where they are just half a cent from it
pub record Nearest (size : ℕ) (x : ℤ) : Type 0 where
  pub whole : ℕ
  pub is : x ≡ pos whole
  pub low : 60000 * whole ≤ size + 30000
  pub high : size + 30000 < 60000 * whole + 60000

nearest : (size : ℕ) → Nearest size (pos ((size + 30000) / 60000))
nearest size = record { whole = (size + 30000) / 60000; is = refl; low = omega arith; high = omega arith }

pub cents_near : (n : ℕ) → Nearest n (cents (pos n))
unfolding cents
cents_near n = nearest n

-- below zero the size is the loss's with its sign turned, and so are the cents
pub cents_near_below : (n : ℕ) → Nearest (suc n) (neg_ℤ (cents (negsuc n)))
unfolding cents
cents_near_below n = rw (neg_ℤ-neg_ℤ (pos ((suc n + 30000) / 60000))) (nearest (suc n))

-- half a cent is 1, and -1 below zero; a unit less is 0 on either side (docs/DECISIONS.md, C-11.4)
pub halves : (cents (pos 29999) ≡ pos 0) × (cents (pos 30000) ≡ pos 1) × (cents (negsuc 29998) ≡ pos 0) × (cents (negsuc 29999) ≡ negsuc 0)
unfolding cents
halves = (refl, refl, refl, refl)
