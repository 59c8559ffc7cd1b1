-- What each test of a call record's range says of all of it.
use Prim.Native.Nat.{ℕ, ◌≤◌, ◌<◌}
use mathlib.Core.Path.{◌≡◌, refl, sym}
use mathlib.Core.Bool.{Bool, true, false, ◌&&◌}
use mathlib.Core.List.{List}
use native.Mathlib.Omega.{arith}
use lib.ListN.{length}
use lib.Dec.{T, ltb, leb}
use borrow.Author.Tests.{lt-ltb, le-ltb, le-leb, lt-leb, leb-true, ltb-true}
use Rattle.meaning.specs.Sizes.{NUMBER-BYTES, DISTRICT-AT, SECONDS-AT, BILLED-AT, CALL-HEAD, CALL-BYTES, DISTRICTS}
use Rattle.meaning.specs.Basics.{word, quad, part}
use Rattle.meaning.specs.Settings.{number_in_range}
use Rattle.meaning.specs.Charges.{call_record_of, SECONDS-LIMIT, BILLED-LIMIT, call_ranges, call_in_range}
use Rattle.meaning.proofs.Tests.{true_is, is_true, all_at, part_length}
use Rattle.buffer.proofs.Passing.{and-true}
use Rattle.charging.specs.Promises.{head_in_range}

-- THE FIELDS BEFORE THE NUMBER, and all of it

module _ (b : List ℕ) where
  pub district_out : (n : ℕ) → n ≡ word b DISTRICT-AT → DISTRICTS ≤ n → false ≡ head_in_range b
  unfolding call_record_of
  district_out n e h = let f = le-ltb (word b DISTRICT-AT) DISTRICTS (omega (arith, e, h)) in rw f

  module _ (d : ℕ) (d-is : d ≡ word b DISTRICT-AT) (d-in : d < DISTRICTS) where
    pub seconds_out : (n : ℕ) → n ≡ quad b SECONDS-AT → SECONDS-LIMIT < n → false ≡ head_in_range b
    unfolding call_record_of
    seconds_out n e h =
        let f = lt-ltb (word b DISTRICT-AT) DISTRICTS (omega (arith, d-is, d-in)) in
        let g = lt-leb (quad b SECONDS-AT) SECONDS-LIMIT (omega (arith, e, h)) in
        rw (f, g)

    pub billed_decides : (s n : ℕ) → s ≡ quad b SECONDS-AT → s ≤ SECONDS-LIMIT → n ≡ quad b BILLED-AT → leb n BILLED-LIMIT ≡ head_in_range b
    unfolding call_record_of
    billed_decides s n s-is s-in e =
        let f = lt-ltb (word b DISTRICT-AT) DISTRICTS (omega (arith, d-is, d-in)) in
        let g = le-leb (quad b SECONDS-AT) SECONDS-LIMIT (omega (arith, s-is, s-in)) in
        rw (e, f, g, and-true)

  pub head_out : head_in_range b ≡ false → call_in_range b ≡ false
  unfolding call_in_range call_record_of
  head_out =
      go (ltb (word b DISTRICT-AT) DISTRICTS) (leb (quad b SECONDS-AT) SECONDS-LIMIT) (leb (quad b BILLED-AT) BILLED-LIMIT) (number_in_range (part CALL-HEAD NUMBER-BYTES b))
    where
      go : (d s m n : Bool) → (d && (s && (m && true))) ≡ false → (d && (s && (m && (n && true)))) ≡ false
      go false s m n e = refl
      go true false m n e = refl
      go true true false n e = refl
      go true true true n e = absurd (true_is false (sym e))

  pub number_decides : head_in_range b ≡ true → call_in_range b ≡ number_in_range (part CALL-HEAD NUMBER-BYTES b)
  unfolding call_in_range call_record_of
  number_decides =
      go (ltb (word b DISTRICT-AT) DISTRICTS) (leb (quad b SECONDS-AT) SECONDS-LIMIT) (leb (quad b BILLED-AT) BILLED-LIMIT) (number_in_range (part CALL-HEAD NUMBER-BYTES b))
    where
      go : (d s m n : Bool) → (d && (s && (m && true))) ≡ true → (d && (s && (m && (n && true)))) ≡ n
      go true true true true e = refl
      go true true true false e = refl
      go true true false n e = absurd (true_is false e)
      go true false m n e = absurd (true_is false e)
      go false s m n e = absurd (true_is false e)

-- a record in range: each of its fields is
pub record InRange (b : List ℕ) : Type 0 where
  pub district : word b DISTRICT-AT < DISTRICTS
  pub seconds : quad b SECONDS-AT ≤ SECONDS-LIMIT
  pub billed : quad b BILLED-AT ≤ BILLED-LIMIT
  pub number : number_in_range (part CALL-HEAD NUMBER-BYTES b) ≡ true

pub in_range : (b : List ℕ) → call_in_range b ≡ true → InRange b
unfolding call_in_range call_record_of
in_range b e =
    let t : T (call_in_range b) = true_is (call_in_range b) e in
    record {
      district = ltb-true (word b DISTRICT-AT) DISTRICTS (is_true _ (all_at 0 (call_ranges b) t));
      seconds = leb-true (quad b SECONDS-AT) SECONDS-LIMIT (is_true _ (all_at 1 (call_ranges b) t));
      billed = leb-true (quad b BILLED-AT) BILLED-LIMIT (is_true _ (all_at 2 (call_ranges b) t));
      number = is_true _ (all_at 3 (call_ranges b) t);
    }

pub number_long : (b : List ℕ) → length b ≡ CALL-BYTES → length (part CALL-HEAD NUMBER-BYTES b) ≡ NUMBER-BYTES
number_long b e = part_length b CALL-HEAD NUMBER-BYTES (omega (arith, e))
