-- The claim of C-11: it holds of every list of plan calls, price rows and call records from an empty ledger.
use Prim.Native.Nat.{ℕ, ◌≤◌, ◌<◌, ◌^◌}
use mathlib.Core.Path.{◌≡◌, refl, ap, sym, subst, ◌∙◌}
use mathlib.Core.Bool.{true}
use mathlib.Core.List.{List, [], ◌∷◌, ◌++◌}
use mathlib.Core.Option.{Option, none, some}
use native.Mathlib.Omega.{arith}
use borrow.Author.Tests.{lt-ltb, lt-leb}
use lib.IntN.{ℤ, pos}
use lib.ListN.{length}
use Rattle.meaning.specs.Sizes.{DISTRICTS}
use Rattle.meaning.specs.Basics.{is_empty}
use Rattle.std.specs.Prelude.{if◌then◌else◌}
use Rattle.meaning.specs.Ledger.{LEDGER-LIMIT, Ledger, empty_ledger, totals_at, ledger_in_range, has_records, Entry, loss_in, loss_read, total_read}
use Rattle.meaning.specs.declared.Totals.{Totals}
use Rattle.meaning.proofs.Ledgers.{whole_natural, sums_fit, empty_in_range}
use Rattle.changes.specs.Promise.{Chain, done, next}
use Rattle.month.specs.Entries.{dues, bills, of_district, totals_over, ledger_over}
use Rattle.month.specs.Events.{Event, plan_calls, plan_numbers, MonthLent, provides, adds_price, takes_call, Events, done as no-event, next as and_then}
use Rattle.month.specs.Claim.{losses_over, month_before, month_over, Stands, EveryMonth}
use Rattle.month.proofs.Sums.{ledger_none, ledger_at, ledger_whole}
use Rattle.month.proofs.Steps.{Behind, events_behind}

-- THE PLAN'S OWN CALLS

plan_chain : {l behind : MonthLent} {es : List Event} {numbers : List ℕ} → Events l es numbers behind → Chain l.plan (plan_calls es) (plan_numbers es numbers) behind.plan
plan_chain no-event = done
plan_chain (and_then (provides p) ts) = next p (plan_chain ts)
plan_chain (and_then (adds_price a) ts) = plan_chain ts
plan_chain (and_then (takes_call t) ts) = plan_chain ts

-- A LIST IN TWO PARTS

pub record Parts (before : MonthLent) (front back : List Event) (numbers : List ℕ) (behind : MonthLent) : Type 0 where
  pub first : List ℕ
  pub rest : List ℕ
  pub between : MonthLent
  pub numbers_are : numbers ≡ first ++ rest
  pub front_met : Events before front first between
  pub back_met : Events between back rest behind

pub events_parts : {l behind : MonthLent} {numbers : List ℕ} (front back : List Event) → Events l (front ++ back) numbers behind → Parts l front back numbers behind
events_parts {l} {behind} {numbers} [] back ts = record { first = []; rest = numbers; between = l; numbers_are = refl; front_met = no-event; back_met = ts }
events_parts (e ∷ front) back (and_then {n = n} t ts) =
    let p = events_parts front back ts in
    record {
      first = n ∷ p.first;
      rest = p.rest;
      between = p.between;
      numbers_are = ap (λ (ns : List ℕ). n ∷ ns) p.numbers_are;
      front_met = and_then t p.front_met;
      back_met = p.back_met;
    }

-- FROM AN EMPTY LEDGER

module _ (before behind : MonthLent) (es : List Event) (numbers : List ℕ) (empty : before.ledger ≡ empty_ledger) (ts : Events before es numbers behind) where
  pub month_behind : Behind (length before.plan) (month_before before) es numbers behind
  month_behind =
      events_behind (length before.plan) (month_before before)
      (record { plan_is = refl; rows_are = refl; ledger_is = empty ∙ sym ledger_none; in_range = ap ledger_in_range ledger_none ∙ empty_in_range; size_is = refl })
      ts

  month_stands : Stands before es numbers behind
  month_stands =
      let b = month_behind in
      record { numbers_are = b.numbers_are; plan_is = b.holds.plan_is; rows_are = b.holds.rows_are; demand_3 = plan_chain ts }

-- WHAT THE LEDGER OF SOME RECORDS SAYS, where it is in range

module _ (es : List Entry) (r : ledger_in_range (ledger_over es) ≡ true) where
  -- the records are few, and every sum fits
  pub few_records : length es ≤ LEDGER-LIMIT
  few_records =
      let n = whole_natural (ledger_over es) r in
      let c : pos (length es) ≡ pos n.records = ap (λ (t : Totals). t.count) (sym (ledger_whole es) ∙ n.is) in
      let same : length es ≡ n.records = cc in
      omega (arith, same, n.few)

  dues_small : dues es < 2 ^ 63
  dues_small =
      let n = whole_natural (ledger_over es) r in
      let c : pos (dues es) ≡ pos n.due = ap (λ (t : Totals). t.due) (sym (ledger_whole es) ∙ n.is) in
      let same : dues es ≡ n.due = cc in
      rw same (sums_fit (ledger_over es).whole n).0

  bills_small : bills es < 2 ^ 63
  bills_small =
      let n = whole_natural (ledger_over es) r in
      let c : pos (bills es) ≡ pos n.billed = ap (λ (t : Totals). t.billed) (sym (ledger_whole es) ∙ n.is) in
      let same : bills es ≡ n.billed = cc in
      rw same (sums_fit (ledger_over es).whole n).1

  -- the losses read
  district_read : (d : ℕ) → d < DISTRICTS → loss_read (ledger_over es) d ≡ (0, (if is_empty (of_district d es) then none else some (losses_over (of_district d es))))
  unfolding loss_read loss_in
  district_read d h = rw (lt-ltb d DISTRICTS h, r) (ap given (ledger_at es d h) ∙ go (of_district d es))
    where
      given : Totals → ℕ × Option (ℤ × ℤ)
      given t = if has_records t then (0, some (loss_in t)) else (0, none)

      go : (xs : List Entry) → given (totals_over xs) ≡ (0, (if is_empty xs then none else some (losses_over xs)))
      go [] = refl
      go (x ∷ xs) = rw (lt-leb (length (x ∷ xs)) 0 (omega arith))

  whole_read : total_read (ledger_over es) ≡ (0, some (losses_over es))
  unfolding total_read loss_in
  whole_read = rw (r, ledger_whole es)

-- THE CLAIM

pub every_month : EveryMonth
every_month before behind es numbers empty ts =
    let h = (month_behind before behind es numbers empty ts).holds in
    let entries : List Entry = (month_over before es).entries in
    let range : ledger_in_range (ledger_over entries) ≡ true = h.in_range in
    record {
      stands = month_stands before behind es numbers empty ts;
      before_each = λ front back e.
          let p = events_parts front back (subst (λ (l : List Event). Events before l numbers behind) e ts) in
          (p.first, p.rest, p.between, p.numbers_are, p.front_met, p.back_met, month_stands before p.between front p.first empty p.front_met);
      districts_are = λ d k. ap (λ (l : Ledger). totals_at l.districts d) h.ledger_is ∙ ledger_at entries d k;
      whole_is = ap (λ (l : Ledger). l.whole) h.ledger_is ∙ ledger_whole entries;
      losses_are = λ d k r q. q ∙ (ap (λ (l : Ledger). loss_read l d) h.ledger_is ∙ district_read entries range d k);
      total_is = λ r q. q ∙ (ap total_read h.ledger_is ∙ whole_read entries range);
      in_range = ap ledger_in_range h.ledger_is ∙ range;
      few = few_records entries range;
      dues_fit = dues_small entries range;
      bills_fit = bills_small entries range;
    }
