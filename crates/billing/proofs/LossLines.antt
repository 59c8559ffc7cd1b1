-- The lines of the losses.
use Prim.Native.Nat.{ℕ, zero, suc, ◌+◌, ◌-◌, ◌≤◌, ◌<◌}
use mathlib.Core.Path.{◌≡◌, refl, ap, sym, subst, ◌∙◌}
use mathlib.Core.Bool.{Bool, true, false}
use mathlib.Core.List.{List, [], ◌∷◌}
use native.Mathlib.Omega.{arith}
use lib.IntN.{ℤ}
use mir.Syntax.{w64}
use mir.ValLaws.{to_z-of_z}
use Rattle.std.specs.Prelude.{Some, None}
use Rattle.meaning.specs.Sizes.{DISTRICTS}
use Rattle.std.specs.Prelude.{if◌then◌else◌}
use Rattle.meaning.specs.Ledger.{Ledger, totals_at, loss_of, cents, loss_in, has_records}
use Rattle.meaning.specs.Records.{decimal, signed_decimal, line, loss_line, total_line}
use Rattle.meaning.specs.declared.Totals.{Totals}
use Rattle.meaning.specs.declared.Loss.{Loss}
use Rattle.ledger.specs.Losses.{Sized, next_from}
use Rattle.ledger.proofs.Losses.{loss_sized, sized_fits}
use Rattle.text.specs.Writes.{Writes, Printable}
use Rattle.text.proofs.Lines.{named}
use Rattle.text.proofs.Losses.{as_read, cents_few}
use Rattle.billing.specs.Parts.{Part, last_part, part_before, loss_part_from, loss_part}
use Rattle.billing.specs.Lines.{LossPromise}
use Rattle.billing.specs.declared.Reported.{Reported}

-- the cents of a loss that was worked out
cents_are : (t : Totals) (r : Loss) → loss_in t ≡ (r.units, r.cents) → cents (loss_of t) ≡ r.cents
unfolding loss_in
cents_are t r e = ap (λ (x : ℤ × ℤ). x.1) e

-- as they are read from their bits
module _ (t : Totals) (r : Loss) (s : Sized t) (e : loss_in t ≡ (r.units, r.cents)) where
  fine : Printable (cents (loss_of t))
  fine = cents_few (loss_of t) (loss_sized t s).size

  back : as_read (cents (loss_of t)) ≡ cents (loss_of t)
  back = to_z-of_z w64 (cents (loss_of t)) (sized_fits (cents (loss_of t)) (record { size = omega (arith, fine.size) }))

  pub read_cents : cents (loss_of t) ≡ as_read r.cents
  read_cents = sym back ∙ ap as_read (cents_are t r e)

  pub read_printable : Printable (as_read r.cents)
  read_printable = subst Printable read_cents fine

pub district_written : {out left : List ℕ} {n : ℕ} (d : ℕ) (t : Totals) (c : ℤ) → cents (loss_of t) ≡ c → Writes (line (decimal d ∷ signed_decimal c ∷ [])) out left n → Writes (loss_line d t) out left n
unfolding loss_line
district_written d t c e w = named (ap (λ (x : ℤ). line (decimal d ∷ signed_decimal x ∷ [])) (sym e)) w

pub total_written : {out left : List ℕ} {n : ℕ} (t : Totals) (c : ℤ) → cents (loss_of t) ≡ c
    → Writes (line ((116 ∷ 111 ∷ 116 ∷ 97 ∷ 108 ∷ []) ∷ signed_decimal c ∷ [])) out left n → Writes (total_line t) out left n
unfolding total_line
total_written t c e w = named (ap (λ (x : ℤ). line ((116 ∷ 111 ∷ 116 ∷ 97 ∷ 108 ∷ []) ∷ signed_decimal x ∷ [])) (sym e)) w

-- the next district that has records is the one whose line is next
module _ (l : Ledger) where
  part_is : (d n : ℕ) → (next_from l.districts d n < d + n → loss_part_from l d n ≡ part_before (next_from l.districts d n + 1) (loss_line (next_from l.districts d n) (totals_at l.districts (next_from l.districts d n))))
      × (d + n ≤ next_from l.districts d n → loss_part_from l d n ≡ last_part (total_line l.whole))
  part_is d zero = (λ h. absurd (omega (arith, h)), λ h. refl)
  part_is d (suc n) = go (has_records (totals_at l.districts d)) (part_is (d + 1) n)
    where
      go : (b : Bool)
          → (next_from l.districts (d + 1) n < d + 1 + n → loss_part_from l (d + 1) n ≡ part_before (next_from l.districts (d + 1) n + 1) (loss_line (next_from l.districts (d + 1) n) (totals_at l.districts (next_from l.districts (d + 1) n))))
          × (d + 1 + n ≤ next_from l.districts (d + 1) n → loss_part_from l (d + 1) n ≡ last_part (total_line l.whole))
          → ((if b then d else next_from l.districts (d + 1) n) < d + suc n
          → (if b then part_before (d + 1) (loss_line d (totals_at l.districts d)) else loss_part_from l (d + 1) n)
          ≡ part_before ((if b then d else next_from l.districts (d + 1) n) + 1) (loss_line (if b then d else next_from l.districts (d + 1) n) (totals_at l.districts (if b then d else next_from l.districts (d + 1) n))))
          × (d + suc n ≤ (if b then d else next_from l.districts (d + 1) n)
          → (if b then part_before (d + 1) (loss_line d (totals_at l.districts d)) else loss_part_from l (d + 1) n) ≡ last_part (total_line l.whole))
      go true later = (λ h. refl, λ h. absurd (omega (arith, h)))
      go false later = (λ h. later.0 (omega (arith, h)), λ h. later.1 (omega (arith, h)))

  pub next_line : {out left : List ℕ} {r : Reported} (lines d : ℕ) → lines < DISTRICTS → d ≡ next_from l.districts lines (DISTRICTS - lines) → d < DISTRICTS
      → Writes (loss_line d (totals_at l.districts d)) out left r.written → r.next ≡ Some (d + 1) → LossPromise l lines out left r
  next_line {out} {left} {r} lines d few is h w next =
      let all : lines + (DISTRICTS - lines) ≡ DISTRICTS = omega (arith, few) in
      let part : loss_part l lines ≡ part_before (d + 1) (loss_line d (totals_at l.districts d)) = rw is ((part_is lines (DISTRICTS - lines)).0 (omega (arith, all, is, h))) in
      record {
        line = named (ap (λ (x : Part). x.text) (sym part)) w;
        next_is = rw next (ap (λ (x : Part). x.next) (sym part));
      }

  last_part_lem : {out left : List ℕ} {r : Reported} (lines : ℕ) → loss_part l lines ≡ last_part (total_line l.whole) → Writes (total_line l.whole) out left r.written → r.next ≡ None → LossPromise l lines out left r
  last_part_lem lines part w next = record { line = named (ap (λ (x : Part). x.text) (sym part)) w; next_is = rw next (ap (λ (x : Part). x.next) (sym part)) }

  pub none_left : {out left : List ℕ} {r : Reported} (lines d : ℕ) → lines < DISTRICTS → d ≡ next_from l.districts lines (DISTRICTS - lines) → DISTRICTS ≤ d
      → Writes (total_line l.whole) out left r.written → r.next ≡ None → LossPromise l lines out left r
  none_left lines d few is h w next =
      let all : lines + (DISTRICTS - lines) ≡ DISTRICTS = omega (arith, few) in
      last_part_lem lines ((part_is lines (DISTRICTS - lines)).1 (omega (arith, all, is, h))) w next

  pub all_counted : {out left : List ℕ} {r : Reported} (lines : ℕ) → DISTRICTS ≤ lines → Writes (total_line l.whole) out left r.written → r.next ≡ None → LossPromise l lines out left r
  all_counted lines h w next = let None-more : DISTRICTS - lines ≡ 0 = omega (arith, h) in last_part_lem lines (rw None-more) w next
