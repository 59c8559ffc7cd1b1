-- What is lent and was cleared holds no plan, no row and no record.
use Prim.Native.Nat.{ℕ, ◌+◌, ◌-◌, ◌≤◌}
use mathlib.Core.Path.{◌≡◌, refl, ap, sym, ◌∙◌}
use mathlib.Core.Bool.{false}
use mathlib.Core.List.{List, []}
use native.Mathlib.Omega.{arith}
use lib.IntN.{ℤ, pos}
use lib.ListN.{length, take, replicate, length-replicate}
use Rattle.meaning.specs.Sizes.{ROOMS-BYTES, ROOMS-AT, SETTINGS-AT, LEDGER-NUMBERS, RUN-BYTES}
use Rattle.meaning.specs.Basics.{part}
use Rattle.meaning.specs.Settings.{rooms_in_range}
use Rattle.meaning.specs.Plan.{sound_rules, sound}
use Rattle.meaning.specs.Ledger.{empty_ledger}
use Rattle.meaning.proofs.Tests.{is_true, all_false}
use Rattle.meaning.proofs.Ledgers.{empty_in_range}
use Rattle.buffer.specs.Zeros.{zeros}
use Rattle.buffer.proofs.ZeroLaws.{length_zeros, take_zeros, drop_zeros}
use Rattle.plan.specs.Layout.{plan_of}
use Rattle.plan.specs.State.{sound_tests, sound_of}
use Rattle.prices.specs.Layout.{prices_image, prices_in_range}
use Rattle.prices.proofs.ImageLaws.{Passes, image_in_range, empty_image}
use Rattle.run.specs.Runs.{InRun}
use Rattle.record.specs.Promises.{lent, InHouse, start, new_lent}

rooms_zero : (n : ℕ) → RUN-BYTES ≤ n → part ROOMS-AT ROOMS-BYTES (zeros n) ≡ zeros ROOMS-BYTES
rooms_zero n h =
    let k : ℕ = n - SETTINGS-AT in
    let e : n ≡ ROOMS-AT + (ROOMS-BYTES + k) = omega arith in
    ap (λ (x : ℕ). part ROOMS-AT ROOMS-BYTES (zeros x)) e ∙ (ap (take ROOMS-BYTES) (drop_zeros ROOMS-AT (ROOMS-BYTES + k)) ∙ take_zeros ROOMS-BYTES k)

none_in_range : rooms_in_range (zeros ROOMS-BYTES) ≡ false
unfolding zeros rooms_in_range
none_in_range = refl

pub no_plan : (n : ℕ) → RUN-BYTES ≤ n → InRun (zeros n) false
unfolding plan_of sound_of sound
no_plan n h =
    let rooms : rooms_in_range (plan_of (zeros n)).rooms ≡ false = ap rooms_in_range (rooms_zero n h) ∙ none_in_range in
    let unsound : sound (plan_of (zeros n)) ≡ false = all_false 1 (sound_rules (plan_of (zeros n))) rooms in
    record { room = rw (length_zeros n) h; state = all_false 2 (sound_tests (zeros n)) unsound }

-- the whole's totals that a run begins with
pub new_whole : {plan prices : List ℕ} {districts : List ℤ} → lent plan prices districts start.whole ≡ lent plan prices districts empty_ledger.whole
unfolding empty_ledger
new_whole = refl

empty_size : length empty_ledger.districts ≡ LEDGER-NUMBERS
unfolding empty_ledger
empty_size = length-replicate LEDGER-NUMBERS (pos 0)

pub cleared : (n : ℕ) → RUN-BYTES ≤ n → InHouse (new_lent (zeros n)) false
cleared n h =
    record {
      plan_in = no_plan n h;
      prices_in = ap prices_in_range (sym empty_image) ∙ is_true (prices_in_range (prices_image [])) (image_in_range [] no_rows);
      size = empty_size;
      ledger_in = empty_in_range;
    }
  where
    no_rows : Passes []
    no_rows = record { few = omega arith; rows = tt; order = tt }

pub no_records : {n : ℕ} {ns : List ℤ} → ns ≡ replicate n (pos 0) → n ≡ LEDGER-NUMBERS → ns ≡ empty_ledger.districts
unfolding empty_ledger
no_records e size = e ∙ ap (λ (n : ℕ). replicate n (pos 0)) size
