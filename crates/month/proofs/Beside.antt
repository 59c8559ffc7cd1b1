-- Beside the claim: LEDGER FULL comes exactly at the limit, a refusal loses nothing, and a loss is rounded once.
use Prim.Native.Nat.{ℕ, ◌≤◌, ◌<◌}
use mathlib.Core.Path.{◌≡◌, refl, ap, sym, ◌∙◌}
use mathlib.Core.Logic.{◌≢◌}
use mathlib.Core.Bool.{Bool, true, false}
use mathlib.Core.List.{List}
use mathlib.Core.Option.{Option, none, some}
use native.Mathlib.Omega.{arith}
use borrow.Author.Tests.{le-leb, lt-leb, leb-true, leb-false, ne_eqb, eq-eqb}
use lib.Dec.{leb}
use lib.ListN.{length, take}
use Rattle.meaning.specs.Sizes.{CALL-BYTES}
use Rattle.meaning.specs.Basics.{is_some}
use Rattle.meaning.specs.Refusals.{LEDGER-FULL}
use Rattle.meaning.specs.Calls.{lacks_bytes, refusal, after}
use Rattle.meaning.specs.Prices.{PriceRow, price_refusal, rows_after}
use Rattle.meaning.specs.Ledger.{LEDGER-LIMIT, Ledger, ledger_in_range, is_full, Entry, cents}
use Rattle.meaning.specs.Charges.{taking_refusal, due_by}
use Rattle.meaning.specs.declared.Answered.{Answered}
use Rattle.plan.specs.State.{state_of}
use Rattle.changes.specs.Promise.{memory_after}
use Rattle.prices.specs.Layout.{prices_of}
use Rattle.prices.specs.Promises.{prices_memory}
use Rattle.prices.proofs.ImageLaws.{prices_image_lem}
use Rattle.charging.proofs.Taking.{refused_by, taking_full, taking_accepted}
use Rattle.month.specs.Entries.{ledger_over}
use Rattle.month.specs.Events.{Event, plan_call, price, call, Month, month_number, MonthLent, lent_of, Meets, provides, adds_price, takes_call}
use Rattle.month.specs.Claim.{month_over}
use Rattle.month.specs.Beside.{BeforeFull, FullAt, FullExactly, NothingLost, NothingWritten, RoundedOnce}
use Rattle.month.proofs.Records.{charged_number}
use Rattle.month.proofs.EveryMonth.{month_behind, few_records}

-- LEDGER FULL

-- the ledger of some records is full exactly if they are as many as it takes
full_is : (es : List Entry) → is_full (ledger_over es) ≡ leb LEDGER-LIMIT (length es)
unfolding ledger_over
full_is es = refl

due_given_lem : (o : Option ℕ) → is_some o ≡ true → (n : ℕ) × (o ≡ some n)
due_given_lem none e = absurd (let z : ◌≡◌ {A = ℕ} 0 1 = cc in omega arith)
due_given_lem (some n) e = (n, refl)

module _ (size : ℕ) (m : Month) (room : ℕ) (b : List ℕ) (c : BeforeFull m room b) (range : ledger_in_range (ledger_over m.entries) ≡ true) where
  number_full : LEDGER-LIMIT ≤ length m.entries → month_number size m (call room b) ≡ LEDGER-FULL
  number_full h =
      let due = due_given_lem (due_by c.plan c.rows (take CALL-BYTES b)) c.priced in
      rw (c.plan_is, c.rows_are)
      (taking_full c.plan (ledger_over m.entries) room b c.whole c.buffer c.rows c.range range c.answered due.0 due.1
      (full_is m.entries ∙ le-leb LEDGER-LIMIT (length m.entries) h))

  number_accepted : length m.entries < LEDGER-LIMIT → month_number size m (call room b) ≡ 0
  number_accepted h =
      let due = due_given_lem (due_by c.plan c.rows (take CALL-BYTES b)) c.priced in
      rw (c.plan_is, c.rows_are)
      (taking_accepted c.plan (ledger_over m.entries) room b c.whole c.buffer c.rows c.range range c.answered due.0 due.1
      (full_is m.entries ∙ lt-leb LEDGER-LIMIT (length m.entries) h))

  at_full : FullAt size m (call room b)
  at_full = record {
    full = (λ e. go (leb LEDGER-LIMIT (length m.entries)) refl e, number_full);
    at_limit = (λ h. omega (arith, h, few_records m.entries range), λ e. omega (arith, e));
    room_left = number_accepted;
  }
    where
      go : (t : Bool) → leb LEDGER-LIMIT (length m.entries) ≡ t → month_number size m (call room b) ≡ LEDGER-FULL → LEDGER-LIMIT ≤ length m.entries
      go true q e = leb-true LEDGER-LIMIT (length m.entries) q
      go false q e = absurd (omega (arith, e, number_accepted (leb-false LEDGER-LIMIT (length m.entries) q)))

pub full_exactly : FullExactly
full_exactly before behind es numbers empty ts room b c =
    at_full (length before.plan) (month_over before es) room b c (month_behind before behind es numbers empty ts).holds.in_range

-- A REFUSAL LOSES NOTHING

pub nothing_lost : NothingLost
unfolding after rows_after
nothing_lost size m (plan_call c) h = rw (ne_eqb (refusal (lacks_bytes size) m.plan c) 0 h)
nothing_lost size m (price b) h = rw (ne_eqb (price_refusal m.rows b) 0 h)
nothing_lost size m (call room b) h = rw (ne_eqb (taking_refusal m.plan m.rows (ledger_over m.entries) room b) 0 h)

-- the bytes of a price list as they were, where no row is added
same_prices : (m : List ℕ) (o : Option (List PriceRow)) → prices_of m ≡ o → prices_memory o m ≡ m
same_prices m none e = refl
same_prices m (some rs) e = sym (prices_image_lem m rs e).0

pub nothing_written : NothingWritten
unfolding memory_after rows_after
nothing_written l between e n t h = go t h
  where
    go : {l between : MonthLent} {e : Event} {n : ℕ} → Meets l e n between → n ≢ 0 → between ≡ l
    go (provides {m} {prices = prices} {l} {c} p) h =
        let f = ne_eqb (refusal (lacks_bytes (length m)) (state_of m) c) 0 (λ z. h (p.number_is ∙ z)) in
        let same : memory_after c m ≡ m = rw f in
        ap (λ (x : List ℕ). lent_of x prices l) (p.memory_is ∙ same)
    go (adds_price {m} {prices} {b = b} {l} a) h =
        let f = ne_eqb (price_refusal (prices_of prices) b) 0 (λ z. h (a.number_is ∙ z)) in
        let rows : rows_after (prices_of prices) b ≡ prices_of prices = rw f in
        ap (λ (x : List ℕ). lent_of m x l) (a.memory_is ∙ (ap (λ (o : Option (List PriceRow)). prices_memory o prices) rows ∙ same_prices prices (prices_of prices) refl))
    go (takes_call {m} {prices} {b} {out} {l = l} t) h =
        let number = ap (λ (x : Answered). x.refusal) t.answer.result ∙ charged_number (state_of m) (prices_of prices) l (length out) b in
        let left = refused_by (state_of m) (prices_of prices) l (length out) b (taking_refusal (state_of m) (prices_of prices) l (length out) b) refl (λ z. h (number ∙ z)) in
        ap (λ (x : Ledger). lent_of m prices x) (t.ledger ∙ left.1)

-- ROUNDED ONCE

pub rounded_once : RoundedOnce
unfolding cents
rounded_once d = let e = eq-eqb d d refl in (rw e, rw e)
