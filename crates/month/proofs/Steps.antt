-- One event: by the promise of its call the number is the one that the list alone gives, and what is lent holds the month that the list comes to.
use Prim.Native.Nat.{ℕ}
use mathlib.Core.Path.{◌≡◌, refl, ap, ap₂, ◌∙◌}
use mathlib.Core.Bool.{true}
use mathlib.Core.List.{List, ◌∷◌}
use mathlib.Core.Option.{Option, none, some}
use lib.ListN.{length}
use Rattle.meaning.specs.Plan.{Plan}
use Rattle.meaning.specs.Calls.{Call, lacks_bytes, refusal, after}
use Rattle.meaning.specs.Prices.{PriceRow, price_refusal, rows_after}
use Rattle.meaning.specs.Ledger.{Ledger, ledger_in_range}
use Rattle.meaning.specs.Charges.{taking_refusal, ledger_after}
use Rattle.meaning.specs.declared.Answered.{Answered}
use Rattle.plan.specs.State.{state_of}
use Rattle.changes.specs.Promise.{Provides}
use Rattle.changes.proofs.Chains.{after_call, keeps_length}
use Rattle.prices.specs.Layout.{prices_of}
use Rattle.prices.specs.Promises.{AddsPrice}
use Rattle.prices.proofs.ImageLaws.{prices_image_lem}
use Rattle.prices.proofs.Adding.{rows_adds}
use Rattle.charging.specs.Promises.{Takes}
use Rattle.month.specs.Entries.{ledger_over}
use Rattle.month.specs.Events.{Event, plan_call, price, call, Month, month_number, month_after, month_from, month_numbers, MonthLent, lent_of, Meets, provides, adds_price, takes_call, Events, done, next}
use Rattle.month.proofs.Records.{PassIf, charged_number, ledger_behind, behind_in_range}

-- what is lent holds a month, over a plan memory of `size` bytes
pub record Holds (size : ℕ) (m : Month) (l : MonthLent) : Type 0 where
  pub plan_is : state_of l.plan ≡ m.plan
  pub rows_are : prices_of l.prices ≡ m.rows
  pub ledger_is : l.ledger ≡ ledger_over m.entries
  pub in_range : ledger_in_range (ledger_over m.entries) ≡ true
  pub size_is : length l.plan ≡ size

-- the rows that a list in range has pass
pass_if : (prices : List ℕ) (o : Option (List PriceRow)) → prices_of prices ≡ o → PassIf o
pass_if prices none e = tt
pass_if prices (some rs) e = (prices_image_lem prices rs e).1

pub record Step (size : ℕ) (m : Month) (e : Event) (n : ℕ) (between : MonthLent) : Type 0 where
  pub number_is : n ≡ month_number size m e
  pub holds : Holds size (month_after size m e) between

module _ (size : ℕ) (m : Month) where
  plan_step : {memory left prices : List ℕ} {l : Ledger} {c : Call} {n : ℕ} → Holds size m (lent_of memory prices l) → Provides c memory left n
      → Step size m (plan_call c) n (lent_of left prices l)
  plan_step {memory} {left} {c = c} {n} h p =
      record {
        number_is = p.number_is ∙ ap₂ (λ (k : ℕ) (s : Option Plan). refusal (lacks_bytes k) s c) h.size_is h.plan_is;
        holds = record {
          plan_is = ap state_of p.memory_is ∙ ((after_call c memory).state ∙ ap₂ (λ (k : ℕ) (s : Option Plan). after (lacks_bytes k) s c) h.size_is h.plan_is);
          rows_are = h.rows_are;
          ledger_is = h.ledger_is;
          in_range = h.in_range;
          size_is = keeps_length c memory left n p ∙ h.size_is;
        };
      }

  price_step : {memory prices left b : List ℕ} {l : Ledger} {n : ℕ} → Holds size m (lent_of memory prices l) → AddsPrice prices b left n
      → Step size m (price b) n (lent_of memory left l)
  price_step {prices = prices} {left} {b} {n = n} h a =
      record {
        number_is = a.number_is ∙ ap (λ (o : Option (List PriceRow)). price_refusal o b) h.rows_are;
        holds = record {
          plan_is = h.plan_is;
          rows_are = rows_adds prices b left n a ∙ ap (λ (o : Option (List PriceRow)). rows_after o b) h.rows_are;
          ledger_is = h.ledger_is;
          in_range = h.in_range;
          size_is = h.size_is;
        };
      }

  call_step : {memory prices b out left : List ℕ} {l behind : Ledger} {r : Answered} → Holds size m (lent_of memory prices l) → Takes memory prices l b out behind left r
      → Step size m (call (length out) b) r.refusal (lent_of memory prices behind)
  call_step {memory} {prices} {b} {out} {l = l} {behind} {r} h t =
      let room : ℕ = length out in
      let number : r.refusal ≡ taking_refusal (state_of memory) (prices_of prices) l room b =
      ap (λ (x : Answered). x.refusal) t.answer.result ∙ charged_number (state_of memory) (prices_of prices) l room b in
      let left : behind ≡ ledger_after m.plan m.rows (ledger_over m.entries) room b = t.ledger ∙ rw (h.plan_is, h.rows_are, h.ledger_is) in
      record {
        number_is = number ∙ rw (h.plan_is, h.rows_are, h.ledger_is);
        holds = record {
          plan_is = h.plan_is;
          rows_are = h.rows_are;
          ledger_is = left ∙ ledger_behind m.plan m.rows m.entries room b;
          in_range = behind_in_range m.plan m.rows m.entries room b (pass_if prices m.rows h.rows_are) h.in_range;
          size_is = h.size_is;
        };
      }

  pub one_event : {l between : MonthLent} {e : Event} {n : ℕ} → Holds size m l → Meets l e n between → Step size m e n between
  one_event h (provides p) = plan_step h p
  one_event h (adds_price a) = price_step h a
  one_event h (takes_call t) = call_step h t

-- A LIST OF EVENTS

pub record Behind (size : ℕ) (m : Month) (es : List Event) (numbers : List ℕ) (behind : MonthLent) : Type 0 where
  pub numbers_are : numbers ≡ month_numbers size m es
  pub holds : Holds size (month_from size m es) behind

pub events_behind : {l behind : MonthLent} {es : List Event} {numbers : List ℕ} (size : ℕ) (m : Month) → Holds size m l → Events l es numbers behind → Behind size m es numbers behind
events_behind size m h done = record { numbers_are = refl; holds = h }
events_behind size m h (next {e = e} {es} t ts) =
    let s = one_event size m h t in
    let rest = events_behind size (month_after size m e) s.holds ts in
    record { numbers_are = ap₂ ◌∷◌ s.number_is rest.numbers_are; holds = rest.holds }
