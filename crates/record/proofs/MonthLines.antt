-- The lines of a number, of a call record, of a row of the price list and of the losses, and what they leave of all that is lent.
use Prim.Native.Nat.{ℕ, ◌+◌}
use Rattle.std.specs.Prelude.{Some, None}
use mathlib.Core.Path.{◌≡◌, refl, ap, ap₂, sym, ◌∙◌}
use mathlib.Core.Bool.{Bool, true, false}
use mathlib.Core.List.{List}
use mathlib.Core.Option.{Option, none, some}
use lib.IntN.{ℤ}
use lib.ListN.{length}
use lib.Dec.{eqb}
use borrow.Author.Tests.{eqb-true, eqb-false}
use Rattle.meaning.specs.Sizes.{DIGIT-ROOM, NUMBER-BYTES, CALL-BYTES, PRICE-BODY}
use Rattle.meaning.specs.Basics.{is_zero}
use Rattle.meaning.specs.Calls.{NUMBER, CALL, PRICE, LOSSES, is_call, body_length}
use Rattle.meaning.specs.Prices.{PriceRow, prices_pass, price_refusal, rows_after}
use Rattle.meaning.specs.Ledger.{Ledger, ledger_of}
use Rattle.meaning.specs.Answer.{answer}
use Rattle.meaning.specs.Charges.{charged, ledger_after}
use Rattle.meaning.specs.Records.{accepted_line, number_line, House, house_with, rows_or, record_text, record_house}
use Rattle.meaning.specs.declared.Totals.{Totals}
use Rattle.meaning.proofs.Tests.{is_true, true_is}
use Rattle.plan.specs.State.{sound_of, state_of}
use Rattle.prices.specs.Layout.{prices_image, rows_in, prices_in_range}
use Rattle.prices.proofs.ImageLaws.{passes_parts, passes_of, image_rows, in_range_is}
use Rattle.prices.proofs.Adding.{added_passes}
use Rattle.run.proofs.RunLaws.{memory_kept}
use Rattle.text.specs.Writes.{Writes}
use Rattle.text.proofs.Lines.{front_is}
use Rattle.billing.specs.Parts.{loss_part}
use Rattle.billing.specs.Lines.{AnsweredPromise, PricePromise, next_of, LossPromise}
use Rattle.billing.specs.declared.Reported.{Reported}
use Rattle.record.specs.Numbers.{has_number}
use Rattle.record.specs.Turns.{Turn, wrote, record_part, turn_by, record_turn}
use Rattle.record.specs.Promises.{Lent, lent, house_of, lent_for, InHouse, line_of, LinePromise}
use Rattle.record.specs.declared.Run.{Run}
use Rattle.record.specs.declared.Line.{Line}
use Rattle.record.proofs.NumberLines.{either}

-- A LINE THAT IS WRITTEN, over what is lent as it is left

any_line : {t : Turn} {m after : Lent} {text out last : List ℕ} {n : ℕ} (taken lines : ℕ) (opened : Bool) (whole : Totals) → Writes text out last n
    → t ≡ wrote text taken (house_of after) lines → after ≡ lent_for (house_of after) m → sound_of after.plan ≡ opened
    → LinePromise t m out after last (line_of taken n opened lines whole)
any_line {after = after} taken lines opened whole w t-is memory o =
    rw t-is
    (record {
      turn_is = ap (λ (x : List ℕ). wrote x taken (house_of after) lines) (front_is w);
      output_is = w.buffer_is;
      count_is = w.count_is;
      inside = w.inside;
      memory_is = memory;
      opened_is = o;
    })

-- THE TURNS

number_turn : (h : House) (lines : ℕ) (body : List ℕ) → record_turn h lines NUMBER body ≡ wrote (number_line (answer h.plan DIGIT-ROOM body)) (1 + NUMBER-BYTES) h 0
unfolding record_turn record_part record_text record_house is_call body_length
number_turn h lines body = refl

call_turn : (h : House) (lines : ℕ) (body : List ℕ)
    → record_turn h lines CALL body
    ≡ wrote (number_line (charged h.plan (some h.rows) h.ledger DIGIT-ROOM body)) (1 + CALL-BYTES)
    (house_with h.plan h.rows (ledger_after h.plan (some h.rows) h.ledger DIGIT-ROOM body)) 0
unfolding record_turn record_part record_text record_house is_call body_length
call_turn h lines body = refl

price_turn : (h : House) (lines : ℕ) (body : List ℕ)
    → record_turn h lines PRICE body
    ≡ wrote (accepted_line (price_refusal (some h.rows) body)) (1 + PRICE-BODY) (house_with h.plan (rows_or h.rows (rows_after (some h.rows) body)) h.ledger) 0
unfolding record_turn record_part record_text record_house is_call body_length
price_turn h lines body = refl

-- the last line of the losses takes the kind's byte, and every other none
loss_turn : (h : House) (lines : ℕ) (body : List ℕ) (next : Option ℕ) → next ≡ (loss_part h.ledger lines).next
    → record_turn h lines LOSSES body ≡ turn_by h LOSSES body (loss_part h.ledger lines).text next
unfolding record_turn record_part
loss_turn h lines body next e = rw e

losses_end : (h : House) (body text : List ℕ) → turn_by h LOSSES body text none ≡ wrote text 1 h 0
unfolding record_house is_call body_length
losses_end h body text = refl

-- THE ROWS THAT ARE LEFT PASS

pub passing : (p : List ℕ) → prices_in_range p ≡ true → prices_pass (rows_in p) ≡ true
passing p h = is_true (prices_pass (rows_in p)) (passes_of (rows_in p) (in_range_is p h).passes)

pub rows_pass : (rs : List PriceRow) (body : List ℕ) → prices_pass rs ≡ true → prices_pass (rows_or rs (rows_after (some rs) body)) ≡ true
unfolding rows_after
rows_pass rs body h = go (is_zero (price_refusal (some rs) body)) refl
  where
    go : (b : Bool) → is_zero (price_refusal (some rs) body) ≡ b → prices_pass (rows_or rs (rows_after (some rs) body)) ≡ true
    go true e = rw e (added_passes rs body h (eqb-true (price_refusal (some rs) body) 0 e))
    go false e = rw e h

-- THE LINES

module _ (m p : List ℕ) (ds : List ℤ) (run : Run) (i : InHouse (lent m p ds run.whole) run.opened) where
  abbrev given : Lent
  given = lent m p ds run.whole

  own_prices : p ≡ prices_image (rows_in p)
  own_prices = (in_range_is p i.prices_in).own

  -- the plan stays
  kept : (p' : List ℕ) (ds' : List ℤ) (w : Totals) → p' ≡ prices_image (rows_in p') → lent m p' ds' w ≡ lent_for (house_of (lent m p' ds' w)) given
  kept p' ds' w e = ap₂ (λ (x y : List ℕ). lent x y ds' w) (sym (memory_kept m)) e

  module _ (k : ℕ) (body : List ℕ) where
    abbrev Lines : List ℕ → Lent → List ℕ → Line → Type 0
    Lines out after last r = LinePromise (record_turn (house_of given) run.lines k body) given out after last r

    -- of a number, alone or in a call record: the price list stays
    pub answered_line : {out last : List ℕ} {ds' : List ℤ} {w : Totals} {n : ℕ} {r : Line} (taken : ℕ) (opened : Bool) → has_number k ≡ true
        → AnsweredPromise (eqb k CALL) (state_of m) (rows_in p) (ledger_of ds run.whole) body out (ledger_of ds' w) last n → taken ≡ 1 + body_length k → opened ≡ run.opened
        → r ≡ line_of taken n opened 0 w → Lines out (lent m p ds' r.run.whole) last r
    unfolding body_length
    answered_line {out} {last} {ds'} {w} {n} {r} taken opened h c t-is o_is e = go (eqb k NUMBER) refl
      where
        go : (b : Bool) → eqb k NUMBER ≡ b → Lines out (lent m p ds' r.run.whole) last r
        go true q =
            let is : k ≡ NUMBER = eqb-true k NUMBER q in
            let a = rw is at c in
            let line : List ℕ = number_line (answer (state_of m) DIGIT-ROOM body) in
            let t : record_turn (house_of given) run.lines NUMBER body ≡ wrote line (1 + NUMBER-BYTES) (house_of (lent m p ds' w)) 0 =
            number_turn (house_of given) run.lines body ∙ ap (λ (l : Ledger). wrote line (1 + NUMBER-BYTES) (house_with (state_of m) (rows_in p) l) 0) (sym a.ledger) in
            rw (e, t-is, o_is, is) (any_line (1 + NUMBER-BYTES) 0 run.opened w a.line t (kept p ds' w own_prices) i.plan_in.state)
        go false q =
            let is : k ≡ CALL = either k h (eqb-false k NUMBER q) in
            let a = rw is at c in
            let line : List ℕ = number_line (charged (state_of m) (some (rows_in p)) (ledger_of ds run.whole) DIGIT-ROOM body) in
            let t : record_turn (house_of given) run.lines CALL body ≡ wrote line (1 + CALL-BYTES) (house_of (lent m p ds' w)) 0 =
            call_turn (house_of given) run.lines body ∙ ap (λ (l : Ledger). wrote line (1 + CALL-BYTES) (house_with (state_of m) (rows_in p) l) 0) (sym a.ledger) in
            rw (e, t-is, o_is, is) (any_line (1 + CALL-BYTES) 0 run.opened w a.line t (kept p ds' w own_prices) i.plan_in.state)

  module _ (body : List ℕ) where
    abbrev LinesOf : ℕ → List ℕ → Lent → List ℕ → Line → Type 0
    LinesOf k out after last r = LinePromise (record_turn (house_of given) run.lines k body) given out after last r

    -- of a row: the ledger stays
    pub price_line : {out last p' : List ℕ} {n : ℕ} {r : Line} → length body ≡ PRICE-BODY → PricePromise p body out p' last n
        → r ≡ line_of (1 + length body) n run.opened 0 run.whole → LinesOf PRICE out (lent m p' ds r.run.whole) last r
    price_line {p' = p'} size c e =
        let line : List ℕ = accepted_line (price_refusal (some (rows_in p)) body) in
        let rows : List PriceRow = rows_or (rows_in p) (rows_after (some (rows_in p)) body) in
        let back : rows_in p' ≡ rows = ap rows_in c.memory ∙ image_rows rows (passes_parts rows (true_is (prices_pass rows) (rows_pass (rows_in p) body (passing p i.prices_in)))) in
        let t : record_turn (house_of given) run.lines PRICE body ≡ wrote line (1 + length body) (house_of (lent m p' ds run.whole)) 0 =
        price_turn (house_of given) run.lines body
        ∙ ap₂ (λ (j : ℕ) (rs : List PriceRow). wrote line (1 + j) (house_with (state_of m) rs (ledger_of ds run.whole)) 0) (sym size) (sym back) in
        rw e (any_line (1 + length body) 0 run.opened run.whole c.line t (kept p' ds run.whole (c.memory ∙ ap prices_image (sym back))) i.plan_in.state)

    -- of the losses: all stays
    module _ {out last : List ℕ} {l : Reported} (c : LossPromise (ledger_of ds run.whole) run.lines out last l) where
      abbrev text : List ℕ
      text = (loss_part (ledger_of ds run.whole) run.lines).text

      by : (next : Option ℕ) → next_of l.next ≡ next → record_turn (house_of given) run.lines LOSSES body ≡ turn_by (house_of given) LOSSES body text next
      by next e = loss_turn (house_of given) run.lines body next (sym e ∙ c.next_is)

      pub loss_last : {r : Line} → l.next ≡ None → r ≡ line_of 1 l.written run.opened 0 run.whole → LinesOf LOSSES out (lent m p ds r.run.whole) last r
      loss_last f e =
          let t : record_turn (house_of given) run.lines LOSSES body ≡ wrote text 1 (house_of given) 0 = by none (rw f) ∙ losses_end (house_of given) body text in
          rw e (any_line 1 0 run.opened run.whole c.line t (kept p ds run.whole own_prices) i.plan_in.state)

      pub loss_next : {r : Line} (next : ℕ) → l.next ≡ Some next → r ≡ line_of 0 l.written run.opened next run.whole → LinesOf LOSSES out (lent m p ds r.run.whole) last r
      loss_next next f e = rw e (any_line 0 next run.opened run.whole c.line (by (some next) (rw f)) (kept p ds run.whole own_prices) i.plan_in.state)
