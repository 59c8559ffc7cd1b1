-- Which answer and which ledger each way through charging a call record gives.
use Prim.Native.Nat.{ℕ, ◌*◌, ◌≤◌, ◌<◌}
use mathlib.Core.Path.{◌≡◌, refl, ap, sym, subst, ◌∙◌}
use mathlib.Core.Logic.{◌≢◌}
use mathlib.Core.Bool.{Bool, true, false}
use mathlib.Core.List.{List}
use mathlib.Core.Option.{Option, none, some}
use native.Mathlib.Omega.{arith}
use lib.ListN.{length, take, length-take}
use lib.Seq.{take_all, length-take-le}
use borrow.Author.Tests.{le-ltb}
use Rattle.meaning.specs.Sizes.{DISTRICT-AT, BILLED-AT, CALL-BYTES, DIGIT-ROOM}
use Rattle.meaning.specs.Basics.{word, quad}
use Rattle.std.specs.Prelude.{if◌then◌else◌}
use Rattle.meaning.specs.Refusals.{CUT, PLAN, ROOM, RANGE, NO-PRICE, LEDGER-FULL}
use Rattle.meaning.specs.Plan.{Plan}
use Rattle.meaning.specs.Prices.{PriceRow}
use Rattle.meaning.specs.Ledger.{UNITS, Ledger, ledger_in_range, is_full, Entry, entered}
use Rattle.meaning.specs.Answer.{Answer, refused, answer_of}
use Rattle.meaning.specs.Answers.{answered_as}
use Rattle.meaning.specs.Charges.{CallRecord, call_record_of, call_in_range, priced_by, priced_on, due_on, due_of, number_in, due_by, entry_of, taking_refusal, charged, ledger_after}
use Rattle.meaning.specs.declared.Answered.{Answered}
use Rattle.meaning.proofs.Tests.{true_is}
use Rattle.plan.specs.Layout.{plan_of}
use Rattle.plan.specs.State.{sound_of, state_of}
use Rattle.plan.proofs.ImageLaws.{state_some, state_none}
use Rattle.prices.specs.Layout.{rows_in, prices_in_range, prices_of}
use Rattle.prices.proofs.ImageLaws.{prices_some, prices_none}
use Rattle.ledger.specs.Entries.{entry_for}
use Rattle.number.specs.Promises.{HoldsAnswer, GivesAnswer}
use Rattle.number.proofs.Answering.{gives_refused, holds_count, holds_refused}
use Rattle.charging.specs.Dues.{GivesDue, entry_due, due_refusal, due_ledger, Charges, ChargesIf}
use Rattle.std.specs.Prelude.{Option as Optional, Some, None}
use Rattle.plan.specs.declared.SoundPlan.{SoundPlan}
use Rattle.prices.specs.declared.PriceList.{PriceList}
use Rattle.charging.specs.Promises.{Chargeable, HoldsTaken, TakesKnown, Takes}
use Rattle.charging.proofs.Taking.{refused_by, accepted_by, answer_itself, taking_cut, taking_unsound, taking_no_room, taking_no_list, taking_bad_call, taking_bad_ledger, taking_own, taking_no_price, taking_full, taking_accepted}

-- A RECORD ON THE LEDGER, OR NOT

module _ (c : CallRecord) (due : ℕ) (l : Ledger) where
  pub enters_full : {r : ℕ} → is_full l ≡ true → r ≡ LEDGER-FULL → Charges (some due) c l l r
  enters_full f q = record { refusal_is = rw f q; ledger_is = rw f }

  pub enters : {after : Ledger} → is_full l ≡ false → after ≡ entered (entry_due c due) l → Charges (some due) c l after 0
  enters f q = record { refusal_is = rw f; ledger_is = rw f q }

-- by what was given as due
pub charges_none : {o : Option ℕ} {d : Optional ℕ} (c : CallRecord) (l : Ledger) → GivesDue o d → d ≡ None → Charges o c l l NO-PRICE
charges_none c l g e = rw (← g.is, e) (record { refusal_is = refl; ledger_is = refl })

pub charges_some : {o : Option ℕ} {d : Optional ℕ} {c : CallRecord} {l after : Ledger} {r : ℕ} (due : ℕ) → GivesDue o d → d ≡ Some due → Charges (some due) c l after r → Charges o c l after r
charges_some due g e x = rw (← g.is, e) x

-- where the number is a call record's, or not
module _ {b : Bool} {due : Option ℕ} {c : CallRecord} {l : Ledger} where
  pub charges_call : {after : Ledger} {r : ℕ} → b ≡ true → Charges due c l after r → ChargesIf b due c l after r
  charges_call e x = record { charges = λ h. x; none_is = λ h. absurd (true_is false (sym h ∙ e)); left_is = λ h. absurd (true_is false (sym h ∙ e)) }

  pub charges_number : b ≡ false → ChargesIf b due c l l 0
  charges_number e = record { charges = λ h. absurd (true_is false (sym e ∙ h)); none_is = λ h. refl; left_is = λ h. refl }

-- the fields as they are read
pub entry_is : (body : List ℕ) {district billed : ℕ} (due : ℕ) → district ≡ word body DISTRICT-AT → billed ≡ quad body BILLED-AT
    → entry_for district due (billed * UNITS) ≡ entry_due (call_record_of body) due
unfolding call_record_of
entry_is body due e f = rw (e, f)

-- the digits that an answer counts stand in the buffer
pub holds_inside : {a : Answer} {after : List ℕ} {r : Answered} → HoldsAnswer a after r → r.digits ≤ length after
holds_inside {a} {after} h =
    let e : length (take (length a.digits) after) ≡ length a.digits = ap length h.digits in
    let f : length a.digits ≤ length after = omega (arith, rw length-take at e) in
    omega (arith, holds_count h, f)

-- OVER WHAT IS KNOWN

module _ (m prices : List ℕ) {body : List ℕ} {l : Ledger} (k : Chargeable l body) where
  abbrev p : Plan
  p = plan_of m

  abbrev rs : List PriceRow
  rs = rows_in prices

  all_body : take CALL-BYTES body ≡ body
  all_body = take_all CALL-BYTES body (omega (arith, k.whole))

  long : CALL-BYTES ≤ length body
  long = omega (arith, k.whole)

  ranged : call_in_range (take CALL-BYTES body) ≡ true
  ranged = ap call_in_range all_body ∙ k.range

  module _ {digits : List ℕ} {r : Answered} (h : HoldsAnswer (answer_of p (number_in body)) digits r) where
    refusal_is : (answer_of p (number_in (take CALL-BYTES body))).refusal ≡ r.refusal
    refusal_is = ap (λ (b : List ℕ). (answer_of p (number_in b)).refusal) all_body ∙ sym (ap (λ (x : Answered). x.refusal) h.result)

    -- the number's own refusal
    module _ (n : r.refusal ≢ 0) where
      own : (answer_of p (number_in (take CALL-BYTES body))).refusal ≢ 0
      own e = n (sym refusal_is ∙ e)

      own_by : (charged (some p) (some rs) l DIGIT-ROOM body ≡ refused (answer_of p (number_in (take CALL-BYTES body))).refusal) × (ledger_after (some p) (some rs) l DIGIT-ROOM body ≡ l)
      own_by = refused_by (some p) (some rs) l DIGIT-ROOM body _ (taking_own p l DIGIT-ROOM body long (omega arith) rs ranged k.ledger_in own) own

      pub charged_own : charged (some p) (some rs) l DIGIT-ROOM body ≡ answer_of p (number_in body)
      charged_own = own_by.0 ∙ (answer_itself p (number_in (take CALL-BYTES body)) own ∙ ap (λ (b : List ℕ). answer_of p (number_in b)) all_body)

      pub holds_own : HoldsTaken m prices l body l digits r
      holds_own = record { answer = subst (λ (x : Answer). HoldsAnswer x digits r) (sym charged_own) h; ledger = sym own_by.1 }

    module _ (given : r.refusal ≡ 0) where
      given_is : (answer_of p (number_in (take CALL-BYTES body))).refusal ≡ 0
      given_is = refusal_is ∙ given

      abbrev due : Option ℕ
      due = due_on rs (call_record_of body).seconds (priced_by r.outcome (number_in body).digits (take r.digits digits))

      -- the digits that the call is priced on are the definition's
      due_is : due_by p rs (take CALL-BYTES body) ≡ due
      unfolding due_of priced_on
      due_is =
          let out : take r.digits digits ≡ (answer_of p (number_in body)).digits = rw (holds_count h) h.digits in
          let outcome : r.outcome ≡ (answer_of p (number_in body)).outcome = ap (λ (x : Answered). x.outcome) h.result in
          ap (due_by p rs) all_body ∙ sym (rw (out, outcome))

      -- the refusal is the definition's, and so is the ledger
      taking_is : (o : Option ℕ) → due_by p rs (take CALL-BYTES body) ≡ o → taking_refusal (some p) (some rs) l DIGIT-ROOM body ≡ due_refusal o l
      taking_is none e = taking_no_price p l DIGIT-ROOM body long (omega arith) rs ranged k.ledger_in given_is e
      taking_is (some d) e = go (is_full l) refl
        where
          go : (b : Bool) → is_full l ≡ b → taking_refusal (some p) (some rs) l DIGIT-ROOM body ≡ (if b then LEDGER-FULL else 0)
          go true f = taking_full p l DIGIT-ROOM body long (omega arith) rs ranged k.ledger_in given_is d e f
          go false f = taking_accepted p l DIGIT-ROOM body long (omega arith) rs ranged k.ledger_in given_is d e f

      entered_is : (d : ℕ) → due_by p rs (take CALL-BYTES body) ≡ some d → entry_of p rs (take CALL-BYTES body) ≡ entry_due (call_record_of body) d
      unfolding entry_of
      entered_is d e = rw e (ap (λ (b : List ℕ). entry_due (call_record_of b) d) all_body)

      ledger_by_lem : (o : Option ℕ) → due_by p rs (take CALL-BYTES body) ≡ o → due_ledger (call_record_of body) o l ≡ ledger_after (some p) (some rs) l DIGIT-ROOM body
      ledger_by_lem none e = sym (refused_by (some p) (some rs) l DIGIT-ROOM body NO-PRICE (taking_is none e) (λ z. omega (arith, z))).1
      ledger_by_lem (some d) e = go (is_full l) refl
        where
          go : (b : Bool) → is_full l ≡ b → (if b then l else entered (entry_due (call_record_of body) d) l) ≡ ledger_after (some p) (some rs) l DIGIT-ROOM body
          go true f = sym (refused_by (some p) (some rs) l DIGIT-ROOM body LEDGER-FULL (taking_full p l DIGIT-ROOM body long (omega arith) rs ranged k.ledger_in given_is d e f) (λ z. omega (arith, z))).1
          go false f =
              let by = accepted_by (some p) (some rs) l DIGIT-ROOM body (taking_accepted p l DIGIT-ROOM body long (omega arith) rs ranged k.ledger_in given_is d e f) in
              ap (λ (x : Entry). entered x l) (sym (entered_is d e)) ∙ sym by.1

      module _ {after : Ledger} {n : ℕ} (g : Charges due (call_record_of body) l after n) where
        pub charged_ledger : after ≡ ledger_after (some p) (some rs) l DIGIT-ROOM body
        charged_ledger = g.ledger_is ∙ ledger_by_lem due due_is

        charged_refusal : taking_refusal (some p) (some rs) l DIGIT-ROOM body ≡ n
        charged_refusal = taking_is due due_is ∙ sym g.refusal_is

        pub charged_refused : n ≢ 0 → charged (some p) (some rs) l DIGIT-ROOM body ≡ refused n
        charged_refused i = (refused_by (some p) (some rs) l DIGIT-ROOM body n charged_refusal i).0

        pub charged_answered : n ≡ 0 → charged (some p) (some rs) l DIGIT-ROOM body ≡ answer_of p (number_in body)
        charged_answered i = (accepted_by (some p) (some rs) l DIGIT-ROOM body (charged_refusal ∙ i)).0 ∙ ap (λ (b : List ℕ). answer_of p (number_in b)) all_body

        pub holds_refusal : {t : Answered} → n ≢ 0 → t ≡ answered_as (refused n) → HoldsTaken m prices l body after digits t
        holds_refusal {t} i q = record { answer = holds_refused (charged (some p) (some rs) l DIGIT-ROOM body) n digits t (charged_refused i) q; ledger = charged_ledger }

        pub holds_answer : n ≡ 0 → HoldsTaken m prices l body after digits r
        holds_answer i = record { answer = subst (λ (x : Answer). HoldsAnswer x digits r) (sym (charged_answered i)) h; ledger = charged_ledger }

-- THE CALL

module _ (m prices : List ℕ) (l : Ledger) (body out : List ℕ) where
  refuses : {r : Answered} (k : ℕ) → taking_refusal (state_of m) (prices_of prices) l (length out) body ≡ k → k ≢ 0 → r ≡ answered_as (refused k) → Takes m prices l body out l out r
  refuses {r} k e h q =
      let by = refused_by (state_of m) (prices_of prices) l (length out) body k e h in
      record { answer = gives_refused (charged (state_of m) (prices_of prices) l (length out) body) k out r by.0 q; ledger = sym by.1 }

  pub takes_cut : {r : Answered} → length body < CALL-BYTES → r ≡ answered_as (refused CUT) → Takes m prices l body out l out r
  takes_cut h q = refuses CUT (taking_cut (state_of m) (prices_of prices) l (length out) body h) (λ z. omega (arith, z)) q

  module _ (whole : CALL-BYTES ≤ length body) where
    pub takes_unsound : {r : Answered} → sound_of m ≡ false → r ≡ answered_as (refused PLAN) → Takes m prices l body out l out r
    takes_unsound s q =
        refuses PLAN (ap (λ (o : Option Plan). taking_refusal o (prices_of prices) l (length out) body) (state_none m s) ∙ taking_unsound (prices_of prices) l (length out) body whole) (λ z. omega (arith, z))
        q

    module _ (p : SoundPlan) (same : p.memory.now ≡ m) where
      s : sound_of m ≡ true
      s = rw (← same) p.sound

      over : (k : ℕ) → taking_refusal (some (plan_of m)) (prices_of prices) l (length out) body ≡ k → taking_refusal (state_of m) (prices_of prices) l (length out) body ≡ k
      over k e = ap (λ (o : Option Plan). taking_refusal o (prices_of prices) l (length out) body) (state_some m s) ∙ e

      pub takes_no_room : {r : Answered} → length out < DIGIT-ROOM → r ≡ answered_as (refused ROOM) → Takes m prices l body out l out r
      takes_no_room h q = refuses ROOM (over ROOM (taking_no_room (prices_of prices) l (length out) body whole (plan_of m) h)) (λ z. omega (arith, z)) q

      module _ (room : DIGIT-ROOM ≤ length out) where
        listed : prices_in_range prices ≡ true → taking_refusal (some (plan_of m)) (some (rows_in prices)) l (length out) body ≡ RANGE → taking_refusal (some (plan_of m)) (prices_of prices) l (length out) body ≡ RANGE
        listed f e = ap (λ (o : Option (List PriceRow)). taking_refusal (some (plan_of m)) o l (length out) body) (prices_some prices f) ∙ e

        unlisted : prices_in_range prices ≡ false → taking_refusal (some (plan_of m)) (prices_of prices) l (length out) body ≡ RANGE
        unlisted f = ap (λ (o : Option (List PriceRow)). taking_refusal (some (plan_of m)) o l (length out) body) (prices_none prices f) ∙ taking_no_list (plan_of m) l (length out) body whole room

        -- whatever the price list is
        either_list : taking_refusal (some (plan_of m)) (some (rows_in prices)) l (length out) body ≡ RANGE → taking_refusal (some (plan_of m)) (prices_of prices) l (length out) body ≡ RANGE
        either_list e = go (prices_in_range prices) refl
          where
            go : (b : Bool) → prices_in_range prices ≡ b → taking_refusal (some (plan_of m)) (prices_of prices) l (length out) body ≡ RANGE
            go true f = listed f e
            go false f = unlisted f

        pub takes_bad_call : {r : Answered} → call_in_range (take CALL-BYTES body) ≡ false → r ≡ answered_as (refused RANGE) → Takes m prices l body out l out r
        takes_bad_call n q = refuses RANGE (over RANGE (either_list (taking_bad_call (plan_of m) l (length out) body whole room (rows_in prices) n))) (λ z. omega (arith, z)) q

        module _ (range : call_in_range (take CALL-BYTES body) ≡ true) where
          pub takes_bad_ledger : {r : Answered} → ledger_in_range l ≡ false → r ≡ answered_as (refused RANGE) → Takes m prices l body out l out r
          takes_bad_ledger n q = refuses RANGE (over RANGE (either_list (taking_bad_ledger (plan_of m) l (length out) body whole room (rows_in prices) range n))) (λ z. omega (arith, z)) q

          pub takes_no_list : {r : Answered} → prices_in_range prices ≡ false → r ≡ answered_as (refused RANGE) → Takes m prices l body out l out r
          takes_no_list n q = refuses RANGE (over RANGE (unlisted n)) (λ z. omega (arith, z)) q

          pub chargeable : ledger_in_range l ≡ true → Chargeable l (take CALL-BYTES body)
          chargeable n = record { ledger_in = n; whole = length-take-le CALL-BYTES body whole; range = range }

          -- neither the size of a buffer that has room nor bytes behind the body are looked at
          same_refusal : (p : Plan) (rs : List PriceRow)
              → taking_refusal (some p) (some rs) l DIGIT-ROOM (take CALL-BYTES body) ≡ taking_refusal (some p) (some rs) l (length out) body
          unfolding taking_refusal
          same_refusal p rs =
              let twice : take CALL-BYTES (take CALL-BYTES body) ≡ take CALL-BYTES body = take_all CALL-BYTES (take CALL-BYTES body) (omega (arith, length-take-le CALL-BYTES body whole)) in
              rw (length-take-le CALL-BYTES body whole, twice, le-ltb (length body) CALL-BYTES whole, le-ltb (length out) DIGIT-ROOM room)

          pub takes_known : {after : Ledger} {left : List ℕ} {r : Answered} (ps : PriceList) → ps.memory.now ≡ prices → TakesKnown p.memory.now ps.memory.now l (take CALL-BYTES body) out after left r
              → Takes m prices l body out after left r
          unfolding charged ledger_after
          takes_known {after} {left} {r} ps list k =
              let f : prices_in_range prices ≡ true = rw (← list) ps.in_range in
              let twice : take CALL-BYTES (take CALL-BYTES body) ≡ take CALL-BYTES body = take_all CALL-BYTES (take CALL-BYTES body) (omega (arith, length-take-le CALL-BYTES body whole)) in
              let a : charged (some (plan_of p.memory.now)) (some (rows_in ps.memory.now)) l DIGIT-ROOM (take CALL-BYTES body) ≡ charged (state_of m) (prices_of prices) l (length out) body =
              rw (same, list, same_refusal (plan_of m) (rows_in prices), twice, state_some m s, prices_some prices f) in
              let b : ledger_after (some (plan_of p.memory.now)) (some (rows_in ps.memory.now)) l DIGIT-ROOM (take CALL-BYTES body) ≡ ledger_after (state_of m) (prices_of prices) l (length out) body =
              rw (same, list, same_refusal (plan_of m) (rows_in prices), twice, state_some m s, prices_some prices f) in
              record { answer = subst (λ (x : Answer). GivesAnswer x out left r) a k.answer; ledger = k.ledger ∙ b }
