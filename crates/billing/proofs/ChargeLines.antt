-- The lines of a number, alone or in a call record, and of a row.
use Prim.Native.Nat.{ℕ}
use mathlib.Core.Path.{◌≡◌, refl, ap, sym, subst, ◌∙◌}
use mathlib.Core.Logic.{◌≢◌}
use mathlib.Core.Bool.{Bool, true, false}
use mathlib.Core.List.{List}
use mathlib.Core.Option.{Option, none, some}
use native.Mathlib.Omega.{arith}
use lib.ListN.{length, take}
use lib.Seq.{take_all}
use borrow.Author.Tests.{le-ltb}
use Rattle.meaning.specs.Sizes.{NUMBER-BYTES, CALL-BYTES, PRICE-BODY, DIGIT-ROOM}
use Rattle.meaning.specs.Basics.{is_zero}
use Rattle.std.specs.Prelude.{if◌then◌else◌}
use Rattle.meaning.specs.Refusals.{PLAN, RANGE}
use Rattle.meaning.specs.Settings.{number_of, number_in_range}
use Rattle.meaning.specs.Plan.{Plan}
use Rattle.meaning.specs.Prices.{PriceRow, row_given, price_refusal, with_row, rows_after}
use Rattle.meaning.specs.Ledger.{Ledger}
use Rattle.meaning.specs.Answer.{refused, answer_of, answer}
use Rattle.meaning.specs.Charges.{call_record_of, call_in_range, priced_by, due_on, number_in, taking_refusal, charged}
use Rattle.meaning.specs.Records.{no_line, accepted_line, number_line, rows_or}
use Rattle.meaning.specs.declared.Answered.{Answered}
use Rattle.meaning.proofs.Tests.{true_is}
use Rattle.plan.specs.Layout.{plan_of}
use Rattle.plan.specs.State.{sound_of, state_of}
use Rattle.plan.proofs.ImageLaws.{state_some, state_none}
use Rattle.plan.proofs.ReadLaws.{sound_is}
use Rattle.prices.specs.Layout.{prices_image, rows_in, prices_in_range, prices_of}
use Rattle.prices.specs.Promises.{prices_memory, AddsPrice}
use Rattle.prices.proofs.ImageLaws.{prices_some}
use Rattle.number.specs.Answering.{Known}
use Rattle.number.specs.Promises.{HoldsAnswer}
use Rattle.number.proofs.AnswerFacts.{Printable, printable}
use Rattle.charging.specs.Dues.{ChargesIf}
use Rattle.charging.specs.Promises.{Chargeable}
use Rattle.charging.proofs.Taking.{refused_by, answer_itself, taking_unsound, taking_bad_call}
use Rattle.charging.proofs.Charging.{charged_own, holds_own, charged_ledger, charged_refused, charged_answered}
use Rattle.text.specs.Writes.{Writes, answer_in, NumberIn}
use Rattle.text.proofs.Lines.{named}
use Rattle.text.proofs.LineTexts.{refused_is}
use Rattle.billing.specs.Lines.{answered_by, ledger_by, AnsweredPromise, OfRecord, OfPricedRecord, PricePromise}
use Rattle.billing.proofs.NumberTexts.{number_in_lem, line_is}

-- the length of a record's body, and whether it is in range: a call record's, or a number's
abbrev pub body_bytes : Bool → ℕ
body_bytes true = CALL-BYTES
body_bytes false = NUMBER-BYTES

abbrev pub body_in_range : Bool → List ℕ → Bool
body_in_range true body = call_in_range body
body_in_range false body = number_in_range body

-- A REFUSAL, over a plan or none

module _ (m prices : List ℕ) (l : Ledger) (body : List ℕ) where
  refuses : {output left : List ℕ} {n : ℕ} {after : Ledger} (b : Bool) (s : Option Plan) (k : ℕ) → answered_by b s (rows_in prices) l body ≡ refused k
      → after ≡ ledger_by b s (rows_in prices) l body → k ≢ 0 → Writes (no_line k) output left n → AnsweredPromise b s (rows_in prices) l body output after left n
  unfolding refused
  refuses b s k e f h w = record { line = named (refused_is (refused k) h ∙ ap number_line (sym e)) w; ledger = f }

  refuses_call : {output left : List ℕ} {n : ℕ} (s : Option Plan) (k : ℕ) → taking_refusal s (some (rows_in prices)) l DIGIT-ROOM body ≡ k → k ≢ 0 → Writes (no_line k) output left n
      → AnsweredPromise true s (rows_in prices) l body output l left n
  refuses_call s k e h w = let by = refused_by s (some (rows_in prices)) l DIGIT-ROOM body k e h in refuses true s k by.0 (sym by.1) h w

  pub unsound_line : {output left : List ℕ} {n : ℕ} (b : Bool) → length body ≡ body_bytes b → sound_of m ≡ false → Writes (no_line PLAN) output left n
      → AnsweredPromise b (state_of m) (rows_in prices) l body output l left n
  unsound_line true size s w = rw (state_none m s) (refuses_call none PLAN (taking_unsound (some (rows_in prices)) l DIGIT-ROOM body (omega (arith, size))) (λ z. omega (arith, z)) w)
  unsound_line false size s w =
      rw (state_none m s)
      (let is : answer none DIGIT-ROOM body ≡ refused PLAN = rw (le-ltb (length body) NUMBER-BYTES (omega (arith, size))) in
      refuses false none PLAN is refl (λ z. omega (arith, z)) w)

  pub outside_line : {output left : List ℕ} {n : ℕ} (b : Bool) → length body ≡ body_bytes b → sound_of m ≡ true → body_in_range b body ≡ false → Writes (no_line RANGE) output left n
      → AnsweredPromise b (state_of m) (rows_in prices) l body output l left n
  outside_line true size s o w =
      let all : take CALL-BYTES body ≡ body = take_all CALL-BYTES body (omega (arith, size)) in
      rw (state_some m s)
      (refuses_call (some (plan_of m)) RANGE (taking_bad_call (plan_of m) l DIGIT-ROOM body (omega (arith, size)) (omega arith) (rows_in prices) (ap call_in_range all ∙ o)) (λ z. omega (arith, z)) w)
  outside_line false size s o w =
      rw (state_some m s)
      (let is : answer (some (plan_of m)) DIGIT-ROOM body ≡ refused RANGE =
      rw (le-ltb (length body) NUMBER-BYTES (omega (arith, size)), take_all NUMBER-BYTES body (omega (arith, size)), o) in
      refuses false (some (plan_of m)) RANGE is refl (λ z. omega (arith, z)) w)

-- A NUMBER OF A RECORD: what is said of it where no price list is asked for

pub of_record : {call : Bool} {prices body number : List ℕ} {l : Ledger} → OfPricedRecord call prices l body number → OfRecord call l body number
of_record o = record { alone = o.alone; charged_with = λ e. (o.charged_with e).chargeable; in_record = o.in_record }

-- AN ANSWER, over what is known

module _ (m : List ℕ) {number : List ℕ} (sound : sound_of m ≡ true) (k : Known number) where
  fine : Printable (answer_of (plan_of m) (number_of number))
  fine = printable (plan_of m) (sound_is m sound).plan number (true_is (number_in_range number) k.range)

  known : answer (some (plan_of m)) DIGIT-ROOM number ≡ answer_of (plan_of m) (number_of number)
  known = rw (le-ltb (length number) NUMBER-BYTES (omega (arith, k.whole)), take_all NUMBER-BYTES number (omega (arith, k.whole)), k.range)

  module _ {digits : List ℕ} {r : Answered} (h : HoldsAnswer (answer_of (plan_of m) (number_of number)) digits r) where
    pub answered_in : NumberIn r (take r.digits digits)
    answered_in = number_in_lem fine h

    -- a refusal is all that an answer says
    own : r.refusal ≢ 0 → answer_of (plan_of m) (number_of number) ≡ refused r.refusal
    own n =
        let is : (answer_of (plan_of m) (number_of number)).refusal ≡ r.refusal = sym (ap (λ (x : Answered). x.refusal) h.result) in
        sym (answer_itself (plan_of m) (number_of number) (λ e. n (sym is ∙ e))) ∙ ap refused is

    module _ (prices body : List ℕ) (l : Ledger) where
      -- the answer of a call record's number
      in_call : Chargeable l body → number ≡ (call_record_of body).number → HoldsAnswer (answer_of (plan_of m) (number_in body)) digits r
      in_call c e = subst (λ (x : List ℕ). HoldsAnswer (answer_of (plan_of m) (number_of x)) digits r) e h

      pub own_line : {output left : List ℕ} {n : ℕ} (b : Bool) → OfRecord b l body number → r.refusal ≢ 0 → Writes (no_line r.refusal) output left n
          → AnsweredPromise b (state_of m) (rows_in prices) l body output l left n
      own_line true o i w =
          let c = o.charged_with refl in
          let h' = in_call c (o.in_record refl) in
          let same : answer_of (plan_of m) (number_of number) ≡ answer_of (plan_of m) (number_in body) = ap (λ (x : List ℕ). answer_of (plan_of m) (number_of x)) (o.in_record refl) in
          rw (state_some m sound) (refuses m prices l body true (some (plan_of m)) r.refusal (charged_own m prices c h' i ∙ (sym same ∙ own i)) (holds_own m prices c h' i).ledger i w)
      own_line false o i w =
          rw (state_some m sound, ← o.alone refl) (refuses m prices l number false (some (plan_of m)) r.refusal (known ∙ own i) refl i w)

      module _ (given : r.refusal ≡ 0) where
        abbrev due : Option ℕ
        due = due_on (rows_in prices) (call_record_of body).seconds (priced_by r.outcome (number_in body).digits (take r.digits digits))

        pub refused_charge : {output left : List ℕ} {n c : ℕ} {after : Ledger} (b : Bool) → OfRecord b l body number → ChargesIf b due (call_record_of body) l after c → c ≢ 0
            → Writes (no_line c) output left n → AnsweredPromise b (state_of m) (rows_in prices) l body output after left n
        refused_charge {c = c} true o g i w =
            let k' = o.charged_with refl in
            let h' = in_call k' (o.in_record refl) in
            rw (state_some m sound) (refuses m prices l body true (some (plan_of m)) c (charged_refused m prices k' h' given (g.charges refl) i) (charged_ledger m prices k' h' given (g.charges refl)) i w)
        refused_charge false o g i w = absurd (i (g.none_is refl))

        pub answered_written : {output left : List ℕ} {n c : ℕ} {after : Ledger} (b : Bool) → OfRecord b l body number → ChargesIf b due (call_record_of body) l after c → c ≡ 0
            → Writes (number_line (answer_in r (take r.digits digits))) output left n → AnsweredPromise b (state_of m) (rows_in prices) l body output after left n
        answered_written true o g i w =
            let k' = o.charged_with refl in
            let h' = in_call k' (o.in_record refl) in
            let is : answer_of (plan_of m) (number_of number) ≡ charged (some (plan_of m)) (some (rows_in prices)) l DIGIT-ROOM body =
            ap (λ (x : List ℕ). answer_of (plan_of m) (number_of x)) (o.in_record refl) ∙ sym (charged_answered m prices k' h' given (g.charges refl) i) in
            rw (state_some m sound) (record { line = named (line_is fine h ∙ ap number_line is) w; ledger = charged_ledger m prices k' h' given (g.charges refl) })
        answered_written false o g i w =
            rw (state_some m sound, ← o.alone refl) (record { line = named (line_is fine h ∙ ap number_line (sym known)) w; ledger = g.left_is refl })

-- A ROW

rows_left : (rs : List PriceRow) (m body : List ℕ) → prices_memory (rows_after (some rs) body) m ≡ prices_image (rows_or rs (rows_after (some rs) body))
unfolding rows_after
rows_left rs m body = go (is_zero (price_refusal (some rs) body)) (with_row (row_given (take PRICE-BODY body)) rs)
  where
    go : (b : Bool) (new : List PriceRow) → prices_memory (if b then some new else some rs) m ≡ prices_image (rows_or rs (if b then some new else some rs))
    go true new = refl
    go false new = refl

pub price_written : {m body after output left : List ℕ} {number n : ℕ} → prices_in_range m ≡ true → AddsPrice m body after number → Writes (accepted_line number) output left n
    → PricePromise m body output after left n
price_written {m} {body} i a w =
    let rows : prices_of m ≡ some (rows_in m) = prices_some m i in
    record {
      line = named (ap accepted_line (a.number_is ∙ ap (λ (o : Option (List PriceRow)). price_refusal o body) rows)) w;
      memory = a.memory_is ∙ (ap (λ (o : Option (List PriceRow)). prices_memory (rows_after o body) m) rows ∙ rows_left (rows_in m) m body);
    }
