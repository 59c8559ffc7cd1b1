-- One call record over the ledger of some records: the number that it is answered with, and the ledger that it leaves.
use Prim.Native.Nat.{ℕ, zero, suc, ◌<◌}
use mathlib.Core.Path.{◌≡◌, refl, ap, sym, ◌∙◌}
use mathlib.Core.Bool.{Bool, true, false, not, ◌&&◌}
use mathlib.Core.List.{List, [], ◌∷◌}
use mathlib.Core.Option.{Option, none, some}
use native.Mathlib.Omega.{arith}
use lib.ListN.{length, take}
use lib.Dec.{ltb, eqb-suc-zero}
use borrow.Author.Tests.{eqb-true}
use Rattle.meaning.specs.Sizes.{CALL-BYTES, DIGIT-ROOM, DISTRICTS}
use Rattle.meaning.specs.Basics.{is_zero, is_some}
use Rattle.std.specs.Prelude.{if◌then◌else◌}
use Rattle.meaning.specs.Refusals.{ROOM, RANGE, NO-PRICE, LEDGER-FULL, PLAN, Line, first_of}
use Rattle.meaning.specs.Plan.{Plan}
use Rattle.meaning.specs.Prices.{PriceRow, prices_pass}
use Rattle.meaning.specs.Answer.{Answer, refused, answer_of, checked}
use Rattle.meaning.specs.Ledger.{Ledger, ledger_in_range, is_full, Entry}
use Rattle.meaning.specs.Charges.{call_record_of, call_in_range, number_in, due_by, entry_of, charge_lines, taking_refusal, answer_in, charged, entered_by, ledger_after}
use Rattle.meaning.proofs.Tests.{passed}
use Rattle.charging.proofs.Ranges.{in_range}
use Rattle.charging.proofs.Keeping.{Accepted, accepted_is, ledger_after_in_range}
use Rattle.month.specs.Entries.{ledger_over}
use Rattle.month.specs.Events.{entries_after}
use Rattle.month.proofs.Sums.{ledger_one, ledger_length}

-- THE NUMBER

-- a line whose number is its own test
own_zero : (n : ℕ) (ls : List Line) → first_of ((not (is_zero n), n) ∷ ls) ≡ 0 → n ≡ 0
own_zero zero ls e = refl
own_zero (suc n) ls e = rw (eqb-suc-zero n) at e

-- of an accepted record the number is answered, not refused
given : (s : Option Plan) (rows : Option (List PriceRow)) (l : Ledger) (size : ℕ) (body : List ℕ) → taking_refusal s rows l size body ≡ 0
    → (answer_in s (take CALL-BYTES body)).refusal ≡ 0
unfolding taking_refusal charge_lines
given none rows l size body e = let z = (passed (ltb (length body) CALL-BYTES) 0 ((true, PLAN) ∷ []) e).1 in absurd (omega (arith, z))
given (some p) none l size body e =
    let last : List Line = (true, RANGE) ∷ [] in
    let z = (passed (ltb size DIGIT-ROOM) 3 last (passed (ltb (length body) CALL-BYTES) 0 ((ltb size DIGIT-ROOM, ROOM) ∷ last) e).1).1 in
    absurd (omega (arith, z))
given (some p) (some rs) l size body e =
    let b : List ℕ = take CALL-BYTES body in
    let a : Answer = answer_of p (number_in b) in
    let third : List Line = (not (is_some (due_by p rs b)), NO-PRICE) ∷ (is_full l, LEDGER-FULL) ∷ [] in
    let second : List Line = (not (call_in_range b && ledger_in_range l), RANGE) ∷ (not (is_zero a.refusal), a.refusal) ∷ third in
    let first = (passed (ltb size DIGIT-ROOM) 3 second (passed (ltb (length body) CALL-BYTES) 0 ((ltb size DIGIT-ROOM, ROOM) ∷ second) e).1).1 in
    own_zero a.refusal third (passed (not (call_in_range b && ledger_in_range l)) 4 ((not (is_zero a.refusal), a.refusal) ∷ third) first).1

-- so the number answered is that of the checks
module _ (s : Option Plan) (rows : Option (List PriceRow)) (l : Ledger) (size : ℕ) (body : List ℕ) where
  pub charged_number : (charged s rows l size body).refusal ≡ taking_refusal s rows l size body
  unfolding charged refused
  charged_number = go (taking_refusal s rows l size body) refl
    where
      go : (n : ℕ) → taking_refusal s rows l size body ≡ n → (checked n (answer_in s (take CALL-BYTES body))).refusal ≡ n
      go zero e = given s rows l size body e
      go (suc n) e = refl

-- THE LEDGER

-- an accepted record is on one of the districts
entry_district : {l : Ledger} (p : Plan) (rs : List PriceRow) (b : List ℕ) → Accepted p rs l b → (entry_of p rs b).district < DISTRICTS
unfolding entry_of call_record_of
entry_district p rs b a = rw a.due_is (in_range b a.range).district

-- the rows of a lent list pass, where it has any
abbrev pub PassIf : Option (List PriceRow) → Type 0
PassIf none = Unit {0}
PassIf (some rs) = prices_pass rs ≡ true

-- the records that are on it afterwards
abbrev pub entries_behind : Option Plan → Option (List PriceRow) → List Entry → ℕ → List ℕ → List Entry
entries_behind s rows es size body =
    if is_zero (taking_refusal s rows (ledger_over es) size body) then entries_after s rows (take CALL-BYTES body) es else es

-- the ledger left is theirs
pub ledger_behind : (s : Option Plan) (rows : Option (List PriceRow)) (es : List Entry) (size : ℕ) (body : List ℕ)
    → ledger_after s rows (ledger_over es) size body ≡ ledger_over (entries_behind s rows es size body)
unfolding ledger_after
ledger_behind s rows es size body = over s rows
  where
    over : (s : Option Plan) (rows : Option (List PriceRow)) → ledger_after s rows (ledger_over es) size body ≡ ledger_over (entries_behind s rows es size body)
    over none rows = go (is_zero (taking_refusal none rows (ledger_over es) size body))
      where
        go : (t : Bool) → (if t then ledger_over es else ledger_over es) ≡ ledger_over (if t then es else es)
        go true = refl
        go false = refl
    over (some p) none = go (is_zero (taking_refusal (some p) none (ledger_over es) size body))
      where
        go : (t : Bool) → (if t then ledger_over es else ledger_over es) ≡ ledger_over (if t then es else es)
        go true = refl
        go false = refl
    over (some p) (some rs) = go (is_zero (taking_refusal (some p) (some rs) (ledger_over es) size body)) refl
      where
        b : List ℕ
        b = take CALL-BYTES body

        go : (t : Bool) → is_zero (taking_refusal (some p) (some rs) (ledger_over es) size body) ≡ t
            → (if t then entered_by (some p) (some rs) b (ledger_over es) else ledger_over es) ≡ ledger_over (if t then entries_after (some p) (some rs) b es else es)
        go true e =
            let a = accepted_is p rs (ledger_over es) size body (eqb-true (taking_refusal (some p) (some rs) (ledger_over es) size body) 0 e) in
            ledger_one es (entry_of p rs b) (entry_district p rs b a)
        go false e = refl

-- and in range where it was
pub behind_in_range : (s : Option Plan) (rows : Option (List PriceRow)) (es : List Entry) (size : ℕ) (body : List ℕ) → PassIf rows
    → ledger_in_range (ledger_over es) ≡ true → ledger_in_range (ledger_over (entries_behind s rows es size body)) ≡ true
behind_in_range s none es size body t h = go s
  where
    go : (s : Option Plan) → ledger_in_range (ledger_over (entries_behind s none es size body)) ≡ true
    go none = either (is_zero (taking_refusal none none (ledger_over es) size body))
      where
        either : (t : Bool) → ledger_in_range (ledger_over (if t then es else es)) ≡ true
        either true = h
        either false = h
    go (some p) = either (is_zero (taking_refusal (some p) none (ledger_over es) size body))
      where
        either : (t : Bool) → ledger_in_range (ledger_over (if t then es else es)) ≡ true
        either true = h
        either false = h
behind_in_range s (some rs) es size body t h =
    ap ledger_in_range (sym (ledger_behind s (some rs) es size body)) ∙ (ledger_after_in_range s rs t (ledger_over es) size body h (ledger_length es)).0
