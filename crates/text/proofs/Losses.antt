-- Whole cents with their sign, and that a ledger in range loses no more of them than a line has room for.
use Prim.Native.Nat.{ℕ, zero, suc, ◌+◌, ◌*◌, ◌/◌, ◌≤◌}
use mathlib.Core.Path.{◌≡◌}
use mathlib.Core.Bool.{true}
use native.Mathlib.Omega.{arith}
use lib.Dec.{T, leb, leb→le, le→leb}
use lib.IntN.{ℤ, pos, negsuc, neg_ℤ, nat_abs, ◌-ℤ◌, ◌*ℤ◌}
use lib.Signed.{mag, le_z, non_neg}
use lib.ListN.{length}
use Rattle.std.proofs.lemmas.Int.{ints}
use mir.Syntax.{w64}
use mir.Val.{SFits, to_z, of_z}
use mir.ValLaws.{to_z-of_z}
use Rattle.meaning.specs.Ledger.{LEDGER-LIMIT, UNIT-LIMIT, sum_in_range, totals_tests, totals_in_range, loss_of, cents}
use Rattle.meaning.specs.Records.{decimal}
use Rattle.meaning.specs.declared.Totals.{Totals}
use Rattle.meaning.proofs.Tests.{true_is, and_right, all_at}
use Rattle.text.specs.Writes.{Printable}
use Rattle.text.proofs.Lines.{decimal_long}

-- a number as the code reads it from its bits
abbrev pub as_read : ℤ → ℤ
as_read x = to_z w64 (of_z w64 x)

-- A NUMBER WITHOUT ITS SIGN

size_few : (x : ℤ) → Printable x → nat_abs x ≤ 14400000000001
size_few (pos n) p = omega (arith, p.size)
size_few (negsuc n) p = omega (arith, p.size)

pub size_short : (x : ℤ) → SFits w64 x → {n : ℕ} → n ≡ nat_abs (as_read x) → Printable x → length (decimal n) ≤ 14
size_short x f k p = rw (k, to_z-of_z w64 x f) (decimal_long 13 (nat_abs x) (omega (arith, size_few x p)))

-- A LEDGER IN RANGE

-- the most units of a sum
abbrev pub MOST : ℕ
MOST = LEDGER-LIMIT * UNIT-LIMIT

-- a sum in range, of no more records than the limit
record Sum (x : ℤ) : Type 0 where
  plus : T (non_neg x)
  few : mag x ≤ MOST

sum_few : (count sum : ℤ) → T (le_z count (pos LEDGER-LIMIT)) → T (sum_in_range count sum) → Sum sum
unfolding sum_in_range
sum_few count (negsuc n) h t = absurd t
sum_few (pos c) (pos n) h t =
    let k = leb→le n (c * UNIT-LIMIT) (and_right (leb 0 n) (leb n (c * UNIT-LIMIT)) t) in
    record { plus = tt; few = omega (arith, leb→le c LEDGER-LIMIT h) }
sum_few (negsuc c) (pos n) h t = record { plus = tt; few = go (suc c * UNIT-LIMIT) (and_right (leb 0 n) (le_z (pos n) (negsuc c *ℤ pos UNIT-LIMIT)) t) }
  where
    go : (k : ℕ) → T (le_z (pos n) (neg_ℤ (pos k))) → n ≤ MOST
    go zero t = omega (arith, leb→le n 0 t)
    go (suc k) t = absurd t

-- due less billed
less_few : (a b : ℤ) → Sum a → Sum b → mag (a -ℤ b) ≤ MOST
less_few (pos a) (pos b) p q = grind (arith, ints, p.few, q.few)
less_few (pos a) (negsuc b) p q = absurd q.plus
less_few (negsuc a) b p q = absurd p.plus

pub cents_few : (x : ℤ) → mag x ≤ MOST → Printable (cents x)
unfolding cents
cents_few (pos n) h = record { size = omega arith }
cents_few (negsuc n) h = record { size = go ((suc n + 30000) / 60000) (omega arith) }
  where
    go : (q : ℕ) → q ≤ 14400000000000 → mag (neg_ℤ (pos q)) ≤ 14400000000000
    go zero k = omega arith
    go (suc q) k = omega arith

-- a count that is not over another is not over the limit either
count_few : (a b : ℤ) (n : ℕ) → T (le_z a b) → T (le_z b (pos n)) → T (le_z a (pos n))
count_few (negsuc a) b n h k = tt
count_few (pos a) (pos b) n h k = le→leb a n (omega (arith, leb→le a b h, leb→le b n k))
count_few (pos a) (negsuc b) n h k = absurd h

pub printable : (t : Totals) (most : ℤ) → totals_in_range most t ≡ true → le_z most (pos LEDGER-LIMIT) ≡ true → Printable (cents (loss_of t))
unfolding totals_in_range
printable t most e l =
    let r = true_is (totals_in_range most t) e in
    let n = count_few t.count most LEDGER-LIMIT (all_at 0 (totals_tests most t) r) (true_is (le_z most (pos LEDGER-LIMIT)) l) in
    let due = sum_few t.count t.due n (all_at 1 (totals_tests most t) r) in
    let billed = sum_few t.count t.billed n (all_at 2 (totals_tests most t) r) in
    cents_few (loss_of t) (less_few t.due t.billed due billed)
