-- A record that has a number: where that stands, and its line.
use Prim.Native.Nat.{ℕ, ◌+◌, ◌-◌, ◌≤◌, ◌<◌}
use mathlib.Core.Path.{◌≡◌, refl, ap, sym, subst, ◌∙◌}
use mathlib.Core.Logic.{◌≢◌}
use mathlib.Core.Bool.{Bool, true, false}
use mathlib.Core.List.{List}
use native.Mathlib.Omega.{arith}
use lib.ListN.{length, take, drop, length-drop}
use lib.Seq.{drop-drop, take-take, length-take-le}
use lib.Dec.{eqb}
use Rattle.std.specs.Prelude.{Option, Some, None, Result, Ok, Err}
use borrow.Author.Tests.{eqb-true, eqb-false, ne_eqb}
use Rattle.meaning.specs.Sizes.{NUMBER-BYTES, CALL-HEAD, CALL-BYTES}
use Rattle.meaning.specs.Basics.{part}
use Rattle.meaning.specs.Settings.{number_in_range}
use Rattle.meaning.specs.Refusals.{PLAN, RANGE}
use Rattle.meaning.specs.Calls.{NUMBER, CALL, is_kind, body_length}
use Rattle.meaning.specs.Ledger.{Ledger, ledger_in_range}
use Rattle.meaning.specs.Answers.{number_of_refusal}
use Rattle.meaning.specs.declared.Refusal.{Refusal}
use Rattle.meaning.specs.Charges.{call_record_of}
use Rattle.meaning.specs.Records.{no_line}
use Rattle.meaning.proofs.Tests.{true_is}
use Rattle.plan.specs.State.{sound_of, state_of}
use Rattle.prices.specs.Layout.{rows_in, prices_in_range}
use Rattle.buffer.proofs.ListLaws.{drop_take}
use Rattle.charging.specs.Promises.{head_in_range}
use Rattle.charging.proofs.Ranges.{head_out, number_decides}
use Rattle.text.specs.Writes.{Writes}
use Rattle.billing.specs.Lines.{AnsweredPromise, OfRecord, OfPricedRecord}
use Rattle.billing.proofs.ChargeLines.{body_bytes, body_in_range, unsound_line, outside_line}
use Rattle.record.specs.Numbers.{has_number, body_at, NumberAt, alone, called, RefusedAt, no_plan, outside, GivesPlace}

-- THE KINDS

pub either : (k : ℕ) → has_number k ≡ true → k ≢ NUMBER → k ≡ CALL
either k h n = eqb-true k CALL (rw (ne_eqb k NUMBER n) at h)

pub number_kind : (k : ℕ) → has_number k ≡ true → is_kind k ≡ true
unfolding is_kind
number_kind k h = go (eqb k NUMBER) refl
  where
    go : (b : Bool) → eqb k NUMBER ≡ b → is_kind k ≡ true
    go true e = rw (eqb-true k NUMBER e)
    go false e = rw (either k h (eqb-false k NUMBER e))

-- WHERE IT STANDS

abbrev pub number_at : ℕ → List ℕ → List ℕ
number_at at input = take (at + NUMBER-BYTES - at) (drop at input)

pub at_fits : {k at : ℕ} {input : List ℕ} → NumberAt k input at → at + NUMBER-BYTES ≤ length input
at_fits (alone h) = omega (arith, h)
at_fits (called h i) = omega (arith, h)

pub at_some : {k at : ℕ} {input : List ℕ} → NumberAt k input at → 1 ≤ at
at_some (alone h) = omega arith
at_some (called h i) = omega arith

pub at_few : {k at : ℕ} {input : List ℕ} → NumberAt k input at → at ≤ 1 + CALL-HEAD
at_few (alone h) = omega arith
at_few (called h i) = omega arith

pub at_end : {k at : ℕ} {input : List ℕ} → NumberAt k input at → at + NUMBER-BYTES ≡ 1 + body_length k
unfolding body_length
at_end (alone h) = refl
at_end (called h i) = refl

pub at_body : {k at : ℕ} {input : List ℕ} → NumberAt k input at → take (at + NUMBER-BYTES - 1) (drop 1 input) ≡ body_at k input
unfolding body_length
at_body (alone h) = refl
at_body (called h i) = refl

pub at_long : {k : ℕ} (at : ℕ) (input : List ℕ) → NumberAt k input at → length (number_at at input) ≡ NUMBER-BYTES
at_long at input p =
    let n : at + NUMBER-BYTES - at ≡ NUMBER-BYTES = omega arith in
    rw n (length-take-le NUMBER-BYTES (drop at input) (rw (length-drop at input) (omega (arith, at_fits p))))

in_call : (input : List ℕ) → take NUMBER-BYTES (drop (1 + CALL-HEAD) input) ≡ part CALL-HEAD NUMBER-BYTES (take CALL-BYTES (drop 1 input))
in_call input =
    let xs : List ℕ = drop 1 input in
    sym (ap (take NUMBER-BYTES) (drop_take CALL-HEAD CALL-BYTES xs (omega arith)) ∙ (take-take NUMBER-BYTES (CALL-BYTES - CALL-HEAD) (drop CALL-HEAD xs) (omega arith) ∙ ap (take NUMBER-BYTES) (drop-drop CALL-HEAD 1 input)))

pub body_size : (k : ℕ) (input : List ℕ) → has_number k ≡ true → 1 + body_length k ≤ length input → length (body_at k input) ≡ body_bytes (eqb k CALL)
unfolding body_length
body_size k input h l = go (eqb k NUMBER) refl
  where
    long : length (body_at k input) ≡ body_length k
    long = length-take-le (body_length k) (drop 1 input) (rw (length-drop 1 input) (omega (arith, l)))

    go : (b : Bool) → eqb k NUMBER ≡ b → length (body_at k input) ≡ body_bytes (eqb k CALL)
    go true e = long ∙ (let is : k ≡ NUMBER = eqb-true k NUMBER e in rw is)
    go false e = long ∙ (let is : k ≡ CALL = either k h (eqb-false k NUMBER e) in rw is)

pub at_size : {k at : ℕ} {input : List ℕ} → NumberAt k input at → length (body_at k input) ≡ body_bytes (eqb k CALL)
unfolding body_length
at_size {input = input} (alone h) = body_size NUMBER input refl h
at_size {input = input} (called h i) = body_size CALL input refl h

pub at_outside : {k at : ℕ} {input : List ℕ} → NumberAt k input at → number_in_range (number_at at input) ≡ false → body_in_range (eqb k CALL) (body_at k input) ≡ false
unfolding body_length
at_outside (alone h) e = e
at_outside {input = input} (called h i) e = number_decides (body_at CALL input) i ∙ (ap number_in_range (sym (in_call input)) ∙ e)

pub at_record : {k at : ℕ} {input : List ℕ} {l : Ledger} → NumberAt k input at → ledger_in_range l ≡ true → number_in_range (number_at at input) ≡ true
    → OfRecord (eqb k CALL) l (body_at k input) (number_at at input)
unfolding body_length call_record_of
at_record (alone h) l e = record { alone = λ z. refl; charged_with = λ z. absurd (true_is false z); in_record = λ z. absurd (true_is false z) }
at_record {input = input} (called h i) l e =
    record {
      alone = λ z. absurd (true_is false (sym z));
      charged_with = λ z. record { ledger_in = l; whole = body_size CALL input refl h; range = number_decides (body_at CALL input) i ∙ (ap number_in_range (sym (in_call input)) ∙ e) };
      in_record = λ z. in_call input;
    }

-- the same beside a price list that is in range
pub at_priced : {k at : ℕ} {input prices : List ℕ} {l : Ledger} → NumberAt k input at → prices_in_range prices ≡ true → ledger_in_range l ≡ true → number_in_range (number_at at input) ≡ true
    → OfPricedRecord (eqb k CALL) prices l (body_at k input) (number_at at input)
at_priced n p l e =
    let o = at_record n l e in
    record { alone = o.alone; charged_with = λ z. record { prices_in = p; chargeable = o.charged_with z }; in_record = o.in_record }

-- REFUSED BEFORE ITS NUMBER IS LOOKED AT

pub refused_at : {k n written : ℕ} {input output left : List ℕ} {opened : Bool} (m prices : List ℕ) (l : Ledger) → has_number k ≡ true → RefusedAt opened k input n → sound_of m ≡ opened
    → Writes (no_line n) output left written → AnsweredPromise (eqb k CALL) (state_of m) (rows_in prices) l (body_at k input) output l left written
unfolding body_length
refused_at {k} {input = input} m prices l h (no_plan fits) s w = unsound_line m prices l (body_at k input) (eqb k CALL) (body_size k input h fits) s w
refused_at {input = input} m prices l h (outside fits i) s w =
    outside_line m prices l (body_at CALL input) true (body_size CALL input refl fits) s (head_out (body_at CALL input) i) w

pub refused_fits : {opened : Bool} {k n : ℕ} {input : List ℕ} → RefusedAt opened k input n → 1 + body_length k ≤ length input
unfolding body_length
refused_fits (no_plan h) = h
refused_fits (outside h i) = h

-- WHAT PLACE IS GIVEN

module _ (opened : Bool) (k : ℕ) (input : List ℕ) {r : Result (Option ℕ) Refusal} (g : GivesPlace opened k input r) where
  pub place_cut : r ≡ Ok None → length input < 1 + body_length k
  place_cut e = subst (GivesPlace opened k input) e g

  pub place_refused : (n : Refusal) → r ≡ Err n → RefusedAt opened k input (number_of_refusal n)
  place_refused n e = subst (GivesPlace opened k input) e g

  pub place_at : (n : ℕ) → r ≡ Ok (Some n) → (opened ≡ true) × NumberAt k input n
  place_at n e = subst (GivesPlace opened k input) e g

module _ {k : ℕ} (input : List ℕ) where
  pub number_cut : k ≡ NUMBER → length input < 1 + NUMBER-BYTES → length input < 1 + body_length k
  unfolding body_length
  number_cut e h = rw e h

  pub number_refused : {opened : Bool} → k ≡ NUMBER → 1 + NUMBER-BYTES ≤ length input → opened ≡ false → RefusedAt opened k input PLAN
  unfolding body_length
  number_refused e h o = rw (e, o) (no_plan h)

  pub number_at_lem : k ≡ NUMBER → 1 + NUMBER-BYTES ≤ length input → NumberAt k input 1
  number_at_lem e h = rw e (alone h)

  module _ (h : has_number k ≡ true) (n : k ≢ NUMBER) where
    pub call_cut : length input < 1 + CALL-BYTES → length input < 1 + body_length k
    unfolding body_length
    call_cut l = rw (either k h n) l

    module _ (l : 1 + CALL-BYTES ≤ length input) where
      pub call_refused : {opened : Bool} → opened ≡ false → RefusedAt opened k input PLAN
      unfolding body_length
      call_refused o = rw (either k h n, o) (no_plan l)

      pub call_outside : {opened : Bool} → opened ≡ true → head_in_range (take CALL-BYTES (drop 1 input)) ≡ false → RefusedAt opened k input RANGE
      unfolding body_length
      call_outside o i = rw (either k h n, o) (outside l i)

      pub call_at : head_in_range (take CALL-BYTES (drop 1 input)) ≡ true → NumberAt k input (1 + CALL-HEAD)
      unfolding body_length
      call_at i = rw (either k h n) (called l i)
