-- A record by the plan alone writes the same line and leaves the same plan whatever price list and ledger are beside it, and leaves both as they are.
use Prim.Native.Nat.{ℕ, ◌≤◌, ◌<◌}
use mathlib.Core.Path.{◌≡◌, refl, ap, sym, ◌∙◌}
use mathlib.Core.Bool.{Bool, true, false}
use mathlib.Core.List.{List, []}
use mathlib.Core.Option.{Option, none, some}
use native.Mathlib.Omega.{arith}
use lib.IntN.{ℤ}
use lib.ListN.{length}
use lib.Dec.{eqb}
use borrow.Author.Tests.{leb-false, ne_eqb, eq-eqb, eqb-false}
use Rattle.meaning.specs.Sizes.{DIGIT-ROOM}
use Rattle.meaning.specs.Basics.{word, written_over}
use Rattle.std.specs.Prelude.{if◌then◌else◌}
use Rattle.meaning.specs.Plan.{Plan}
use Rattle.meaning.specs.Calls.{REMOVE-RULE, NUMBER, REFS, LIST, CALL, PRICE, LOSSES, is_call, call_of, refusal, after}
use Rattle.meaning.specs.Answer.{answer}
use Rattle.meaning.specs.Reads.{referrer_count}
use Rattle.meaning.specs.Prices.{PriceRow}
use Rattle.meaning.specs.Ledger.{Ledger, ledger_of, empty_ledger}
use Rattle.meaning.specs.Records.{accepted_line, number_line, refs_line, list_text, lacks_program_room, House, house_with, with_plan, record_text, record_house}
use Rattle.plan.specs.State.{state_of}
use Rattle.changes.specs.Promise.{memory_of}
use Rattle.prices.specs.Layout.{prices_image, rows_in, prices_in_range}
use Rattle.prices.proofs.ImageLaws.{in_range_is}
use Rattle.record.specs.Turns.{Turn, wrote, wants, full, ends, record_part, turn_by, record_turn}
use Rattle.record.specs.Promises.{lent, house_of, plan_house, lent_after, turn_of, text_of, house_after, PlanPromise, LinePromise}
use Rattle.record.specs.declared.Run.{Run}
use Rattle.record.specs.declared.Line.{Line}
use Rattle.record.specs.declared.Stepped.TheVariants.{Wrote}

-- a turn with rows and a ledger put beside the plan that it leaves
abbrev beside_turn : List PriceRow → Ledger → Turn → Turn
beside_turn rs l (wrote text taken h lines) = wrote text taken (house_with h.plan rs l) lines
beside_turn rs l wants = wants
beside_turn rs l full = full
beside_turn rs l (ends text refusal) = ends text refusal

-- WHAT A RECORD BY THE PLAN ALONE WRITES AND LEAVES

module _ (k : ℕ) (body : List ℕ) (most : k ≤ LIST) where
  other : (n : ℕ) → LIST < n → eqb k n ≡ false
  other n h = ne_eqb k n (λ q. omega (arith, q))

  abbrev planText : Option Plan → List ℕ
  planText s =
      if is_call k then accepted_line (refusal lacks_program_room s (call_of k body)) else
      if eqb k NUMBER then number_line (answer s DIGIT-ROOM body) else
      if eqb k REFS then refs_line (referrer_count s (word body 0)) else list_text s

  plan_text : (h : House) → record_text h k body ≡ planText h.plan
  unfolding record_text is_call
  plan_text h = go (is_call k) (eqb k NUMBER) (eqb k REFS) refl refl refl
    where
      last : is_call k ≡ false → eqb k NUMBER ≡ false → eqb k REFS ≡ false → eqb k LIST ≡ true
      last c a b = eq-eqb k LIST (omega (arith, leb-false k REMOVE-RULE c, eqb-false k NUMBER a, eqb-false k REFS b))

      go : (a b c : Bool) → is_call k ≡ a → eqb k NUMBER ≡ b → eqb k REFS ≡ c → record_text h k body ≡ planText h.plan
      go true b c p q r = rw p
      go false true c p q r = rw (p, q)
      go false false true p q r = rw (p, q, r)
      go false false false p q r = rw (p, q, r, last p q r)

  abbrev planAfter : Option Plan → Option Plan
  planAfter s = if is_call k then after lacks_program_room s (call_of k body) else s

  plan_house_lem : (h : House) → record_house h k body ≡ with_plan (planAfter h.plan) h
  unfolding record_house
  plan_house_lem h = rw (other CALL (omega arith), other PRICE (omega arith)) (go (is_call k))
    where
      go : (b : Bool) → (if b then with_plan (after lacks_program_room h.plan (call_of k body)) h else h)
          ≡ with_plan (if b then after lacks_program_room h.plan (call_of k body) else h.plan) h
      go true = refl
      go false = refl

  module _ (s : Option Plan) (rs : List PriceRow) (l : Ledger) (lines : ℕ) where
    same_part : record_part (house_with s rs l) lines k body ≡ record_part (house_with s [] empty_ledger) lines k body
    unfolding record_part
    same_part = rw (other LOSSES (omega arith), plan_text (house_with s rs l), plan_text (house_with s [] empty_ledger))

    pub beside_turn_lem : record_turn (house_with s rs l) lines k body ≡ beside_turn rs l (record_turn (house_with s [] empty_ledger) lines k body)
    unfolding record_turn
    beside_turn_lem = rw same_part (go (record_part (house_with s [] empty_ledger) lines k body).text (record_part (house_with s [] empty_ledger) lines k body).next)
      where
        go : (text : List ℕ) (next : Option ℕ) → turn_by (house_with s rs l) k body text next ≡ beside_turn rs l (turn_by (house_with s [] empty_ledger) k body text next)
        go text none = rw (plan_house_lem (house_with s rs l), plan_house_lem (house_with s [] empty_ledger))
        go text (some next) = refl

-- ITS LINE

module _ {t : Turn} {m out after left : List ℕ} {run : Run} {r : Line} (p : List ℕ) (ds : List ℤ) (q : PlanPromise t m run out after left r) where
  abbrev answered : Turn
  answered = turn_of (Wrote r) left (plan_house after)

  abbrev beside : Turn → Turn
  beside = beside_turn (rows_in p) (ledger_of ds run.whole)

  text_beside : text_of (beside t) ≡ text_of t
  text_beside = ap (λ (x : Turn). text_of (beside x)) (sym q.turn_is) ∙ ap text_of q.turn_is

  left_beside : prices_in_range p ≡ true → lent after p ds run.whole ≡ lent_after (beside t) (lent m p ds run.whole)
  left_beside range =
      let plan : after ≡ memory_of (state_of after) m = q.memory_is ∙ ap (λ (x : Turn). memory_of (house_after x (plan_house m)).plan m) (sym q.turn_is) in
      let prices : p ≡ prices_image (rows_in p) = (in_range_is p range).own in
      let same : lent after p ds run.whole ≡ lent_after (beside answered) (lent m p ds run.whole) = cc in
      same ∙ ap (λ (x : Turn). lent_after (beside x) (lent m p ds run.whole)) q.turn_is

  beside_promise : prices_in_range p ≡ true → LinePromise (beside t) (lent m p ds run.whole) out (lent after p ds r.run.whole) left r
  beside_promise range =
      rw q.whole_is
      (record {
        turn_is = ap beside q.turn_is;
        output_is = q.output_is ∙ ap (λ (x : List ℕ). written_over x out) (sym text_beside);
        count_is = q.count_is ∙ ap length (sym text_beside);
        inside = q.inside;
        memory_is = left_beside range;
        opened_is = q.opened_is;
      })

pub beside_line : {m out after left : List ℕ} {run : Run} {r : Line} (k : ℕ) (body p : List ℕ) (ds : List ℤ) → k ≤ LIST → prices_in_range p ≡ true
    → PlanPromise (record_turn (plan_house m) run.lines k body) m run out after left r
    → LinePromise (record_turn (house_of (lent m p ds run.whole)) run.lines k body) (lent m p ds run.whole) out (lent after p ds r.run.whole) left r
beside_line {m} {run = run} k body p ds most range q =
    rw (beside_turn_lem k body most (state_of m) (rows_in p) (ledger_of ds run.whole) run.lines) (beside_promise p ds q range)
