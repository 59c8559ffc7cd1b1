-- What the checks of an accepted call record said, and what every record leaves in range.
use Prim.Native.Nat.{ℕ, zero, suc, ◌*◌, ◌≤◌}
use mathlib.Core.Path.{◌≡◌, refl, ◌∙◌}
use mathlib.Core.Bool.{Bool, true, false, not, ◌&&◌}
use mathlib.Core.List.{List, [], ◌∷◌}
use mathlib.Core.Option.{Option, none, some}
use native.Mathlib.Omega.{arith}
use lib.ListN.{length, take}
use lib.Dec.{T, ltb}
use borrow.Author.Tests.{eqb-true, ne_eqb, not-true}
use Rattle.meaning.specs.Sizes.{CALL-BYTES, DIGIT-ROOM, LEDGER-NUMBERS}
use Rattle.meaning.specs.Basics.{is_zero, is_some, all}
use Rattle.std.specs.Prelude.{if◌then◌else◌}
use Rattle.meaning.specs.Refusals.{Line, first_of, ROOM, RANGE, NO-PRICE, LEDGER-FULL}
use Rattle.meaning.specs.Plan.{Plan}
use Rattle.meaning.specs.Prices.{PriceRow, PRICE-LIMIT, price_for, prices_pass, row_passes, list_tests}
use Rattle.meaning.specs.Ledger.{UNIT-LIMIT, Ledger, ledger_in_range, is_full, entered}
use Rattle.meaning.specs.Answer.{Answer, answer_of}
use Rattle.meaning.specs.Charges.{call_record_of, call_in_range, priced_on, times_price, due_on, due_of, number_in, due_by, entry_of, charge_lines, taking_refusal, ledger_after}
use Rattle.meaning.proofs.Tests.{true_is, is_true, and_left, and_right, not_not, passed, all_at, all_mem}
use Rattle.meaning.proofs.Prices.{price_is}
use Rattle.meaning.proofs.Ledgers.{entered_in_range, entered_length}
use Rattle.prices.proofs.RowSlots.{price_small}
use Rattle.charging.proofs.Ranges.{in_range}
use Rattle.charging.proofs.Dues.{product_small}

-- AN ACCEPTED RECORD

pub record Accepted (p : Plan) (rs : List PriceRow) (l : Ledger) (b : List ℕ) : Type 0 where
  pub range : call_in_range b ≡ true
  pub ledger_in : ledger_in_range l ≡ true
  pub due : ℕ
  pub due_is : due_by p rs b ≡ some due
  pub room : is_full l ≡ false

-- a line whose number is its own test
own_passed : (n : ℕ) (ls : List Line) → first_of ((not (is_zero n), n) ∷ ls) ≡ 0 → first_of ls ≡ 0
own_passed zero ls e = e
own_passed (suc n) ls e = let f : suc n ≡ 0 = rw (ne_eqb (suc n) 0 (λ z. omega (arith, z))) at e in absurd (omega (arith, f))

some_is : (o : Option ℕ) → T (not (not (is_some o))) → (n : ℕ) × (o ≡ some n)
some_is none t = absurd t
some_is (some n) t = (n, refl)

module _ (p : Plan) (rs : List PriceRow) (l : Ledger) (size : ℕ) (body : List ℕ) where
  pub accepted_is : taking_refusal (some p) (some rs) l size body ≡ 0 → Accepted p rs l (take CALL-BYTES body)
  unfolding taking_refusal charge_lines
  accepted_is e =
      let b : List ℕ = take CALL-BYTES body in
      let a : Answer = answer_of p (number_in b) in
      let third : List Line = (not (is_some (due_by p rs b)), NO-PRICE) ∷ (is_full l, LEDGER-FULL) ∷ [] in
      let second : List Line = (not (call_in_range b && ledger_in_range l), RANGE) ∷ (not (is_zero a.refusal), a.refusal) ∷ third in
      let first = (passed (ltb size DIGIT-ROOM) 3 second (passed (ltb (length body) CALL-BYTES) 0 ((ltb size DIGIT-ROOM, ROOM) ∷ second) e).1).1 in
      let ranges = passed (not (call_in_range b && ledger_in_range l)) 4 ((not (is_zero a.refusal), a.refusal) ∷ third) first in
      let both : T (call_in_range b && ledger_in_range l) = not_not (call_in_range b && ledger_in_range l) ranges.0 in
      let priced = passed (not (is_some (due_by p rs b))) 13 ((is_full l, LEDGER-FULL) ∷ []) (own_passed a.refusal third ranges.1) in
      let due = some_is (due_by p rs b) priced.0 in
      record {
        range = is_true (call_in_range b) (and_left (call_in_range b) (ledger_in_range l) both);
        ledger_in = is_true (ledger_in_range l) (and_right (call_in_range b) (ledger_in_range l) both);
        due = due.0;
        due_is = due.1;
        room = not-true (is_full l) (is_true (not (is_full l)) (passed (is_full l) 14 [] priced.1).0);
      }

-- WITHIN THE LIMITS

price_limit : (rs : List PriceRow) (ds : List ℕ) (x : ℕ) → prices_pass rs ≡ true → price_for rs ds ≡ some x → x ≤ PRICE-LIMIT
unfolding prices_pass
price_limit rs ds x t e =
    let found = (price_is ds rs x t).0 e in
    let passes : T (all row_passes rs) = all_at 1 (list_tests rs) (true_is (prices_pass rs) t) in
    omega (arith, price_small found.0 (all_mem row_passes rs passes found.1.held), found.2)

module _ (p : Plan) (rs : List PriceRow) (b : List ℕ) (t : prices_pass rs ≡ true) where
  due_limit : (due : ℕ) → call_in_range b ≡ true → due_by p rs b ≡ some due → due ≤ UNIT-LIMIT
  unfolding due_of call_record_of
  due_limit due r e = go (priced_on (number_in b) (answer_of p (number_in b))) e
    where
      timed : (o : Option ℕ) → ((x : ℕ) → o ≡ some x → x ≤ PRICE-LIMIT) → times_price (call_record_of b).seconds o ≡ some due → due ≤ UNIT-LIMIT
      timed none small q = absurd (let z : ◌≡◌ {A = ℕ} 0 1 = cc in omega arith)
      timed (some x) small q =
          let h = product_small (call_record_of b).seconds x (in_range b r).seconds (small x refl) in
          let is : (call_record_of b).seconds * x ≡ due = cc in
          omega (arith, h, is)

      go : (o : Option (List ℕ)) → due_on rs (call_record_of b).seconds o ≡ some due → due ≤ UNIT-LIMIT
      go none q = let is : 0 ≡ due = cc in omega (arith, is)
      go (some ds) q = timed (price_for rs ds) (λ x h. price_limit rs ds x t h) q

  pub entry_limits : {l : Ledger} → Accepted p rs l b → ((entry_of p rs b).due ≤ UNIT-LIMIT) × ((entry_of p rs b).billed ≤ UNIT-LIMIT)
  unfolding entry_of call_record_of
  entry_limits a =
      let few = due_limit a.due a.range a.due_is in
      (rw a.due_is few, rw a.due_is (omega (arith, (in_range b a.range).billed)))

-- THE LEDGER THAT IS LEFT

module _ (s : Option Plan) (rs : List PriceRow) (t : prices_pass rs ≡ true) (l : Ledger) (size : ℕ) (body : List ℕ) where
  pub ledger_after_in_range : ledger_in_range l ≡ true → length l.districts ≡ LEDGER-NUMBERS
      → (ledger_in_range (ledger_after s (some rs) l size body) ≡ true) × (length (ledger_after s (some rs) l size body).districts ≡ LEDGER-NUMBERS)
  unfolding ledger_after
  ledger_after_in_range h n = over s
    where
      over : (s : Option Plan)
          → (ledger_in_range (ledger_after s (some rs) l size body) ≡ true) × (length (ledger_after s (some rs) l size body).districts ≡ LEDGER-NUMBERS)
      over none = go (is_zero (taking_refusal none (some rs) l size body))
        where
          go : (b : Bool) → (ledger_in_range (if b then l else l) ≡ true) × (length (if b then l else l).districts ≡ LEDGER-NUMBERS)
          go true = (h, n)
          go false = (h, n)
      over (some p) = go (is_zero (taking_refusal (some p) (some rs) l size body)) refl
        where
          go : (b : Bool) → is_zero (taking_refusal (some p) (some rs) l size body) ≡ b
              → (ledger_in_range (if b then entered (entry_of p rs (take CALL-BYTES body)) l else l) ≡ true)
              × (length (if b then entered (entry_of p rs (take CALL-BYTES body)) l else l).districts ≡ LEDGER-NUMBERS)
          go true e =
              let a = accepted_is p rs l size body (eqb-true (taking_refusal (some p) (some rs) l size body) 0 e) in
              let limits = entry_limits p rs (take CALL-BYTES body) t a in
              (entered_in_range (entry_of p rs (take CALL-BYTES body)) l h a.room n limits.0 limits.1, entered_length (entry_of p rs (take CALL-BYTES body)) l ∙ n)
          go false e = (h, n)
