-- What the loop over steps needs of one: its line has a byte at least, so that steps over an output come to an end, and the plan's memory keeps its size.
use Prim.Native.Nat.{ℕ, zero, suc, ◌+◌, ◌-◌, ◌≤◌}
use mathlib.Core.Path.{◌≡◌, refl, ap, ap₂, sym, subst, ◌∙◌}
use mathlib.Core.Bool.{Bool, true, false}
use mathlib.Core.List.{List, [], ◌∷◌, ◌++◌}
use mathlib.Core.Option.{Option, none, some}
use native.Mathlib.Omega.{arith}
use lib.ListN.{length, take, get_elem?, length-append}
use lib.Dec.{eqb}
use Rattle.meaning.specs.Sizes.{DIGIT-ROOM, DISTRICTS}
use Rattle.meaning.specs.Basics.{is_zero, word}
use Rattle.std.specs.Prelude.{if◌then◌else◌}
use Rattle.meaning.specs.Refusals.{PLAN}
use Rattle.meaning.specs.Plan.{Plan}
use Rattle.meaning.specs.Answer.{Answer, answer}
use Rattle.meaning.specs.Reads.{Count, referrer_count, Listed, listing}
use Rattle.meaning.specs.Prices.{PriceRow, prices_pass, price_refusal, rows_after}
use Rattle.meaning.specs.Ledger.{Ledger, totals_at, loss_of, cents, has_records}
use Rattle.meaning.specs.Charges.{charged, ledger_after}
use Rattle.meaning.specs.Calls.{NUMBER, REFS, LIST, CALL, PRICE, LOSSES, is_call, body_length, refusal, after, call_of}
use Rattle.meaning.specs.Records.{House, house_with, with_plan, rows_or, decimal, digits_text, prefix_text, length_text, line, ok_line, no_line, accepted_line, number_line, refs_line, listed_line, listed_lines, end_line, list_text, signed_decimal, loss_line, total_line, loss_lines, loss_text, lacks_program_room, record_text, record_house}
use Rattle.meaning.specs.declared.Totals.{Totals}
use Rattle.meaning.proofs.Tests.{true_is, either}
use Rattle.plan.specs.State.{state_of}
use Rattle.changes.specs.Promise.{memory_of}
use Rattle.prices.specs.Layout.{prices_image, rows_in}
use Rattle.prices.proofs.ImageLaws.{passes_parts, image_rows}
use Rattle.run.proofs.RunLaws.{memory_kept, run_state}
use Rattle.billing.specs.Parts.{last_part, part_before, loss_part_from, loss_part}
use Rattle.record.specs.Turns.{Turn, wrote, wants, full, ends, listed_part, list_part, record_part, turn}
use Rattle.record.specs.Promises.{Lent, house_of, lent_for, InHouse, text_of, lent_after, StepPromise}
use Rattle.record.specs.declared.Line.{Line}
use Rattle.record.specs.declared.Stepped.{Stepped}
use Rattle.record.specs.declared.Stepped.TheVariants.{Wrote}
use Rattle.record.proofs.EachTurn.{each_line, each_turn}
use Rattle.record.proofs.Steps.{HouseIn, house_in, record_in, Leaves, turn_leaves}

behind : (xs ys : List ℕ) → 1 ≤ length ys → 1 ≤ length (xs ++ ys)
behind xs ys h = rw (length-append xs ys) (omega (arith, h))

line_long : (ws : List (List ℕ)) → 1 ≤ length (line ws)
line_long [] = omega arith
line_long (w ∷ []) = behind w (10 ∷ []) (omega arith)
line_long (w ∷ v ∷ ws) = behind w (32 ∷ line (v ∷ ws)) (omega arith)

no_long : (n : ℕ) → 1 ≤ length (no_line n)
unfolding no_line
no_long n = line_long ((110 ∷ 111 ∷ []) ∷ decimal n ∷ [])

accepted_long : (n : ℕ) → 1 ≤ length (accepted_line n)
unfolding ok_line
accepted_long zero = line_long ((111 ∷ 107 ∷ []) ∷ [])
accepted_long (suc n) = no_long (suc n)

number_long : (a : Answer) → 1 ≤ length (number_line a)
unfolding number_line
number_long a =
    let words : List (List ℕ) = decimal a.outcome ∷ decimal a.class ∷ decimal a.response ∷ decimal a.count ∷ digits_text a.digits ∷ [] in
    either (λ (l : List ℕ). 1 ≤ length l) (is_zero a.refusal) (line words) (no_line a.refusal) (line_long words) (no_long a.refusal)

refs_long : (c : Count) → 1 ≤ length (refs_line c)
unfolding refs_line
refs_long c =
    let words : List (List ℕ) = (114 ∷ 101 ∷ 102 ∷ 115 ∷ []) ∷ decimal c.number ∷ [] in
    either (λ (l : List ℕ). 1 ≤ length l) (is_zero c.refusal) (line words) (no_line c.refusal) (line_long words) (no_long c.refusal)

listed_long : (l : Listed) → 1 ≤ length (listed_line l)
unfolding listed_line
listed_long l = line_long (decimal l.filter.class ∷ prefix_text l.filter.prefix ∷ length_text l.filter.len ∷ decimal l.set ∷ [])

end_long : (n : ℕ) → 1 ≤ length (end_line n)
unfolding end_line
end_long n = line_long ((101 ∷ 110 ∷ 100 ∷ []) ∷ decimal n ∷ [])

list_long : (s : Option Plan) → 1 ≤ length (list_text s)
list_long none = no_long PLAN
list_long (some p) = behind (listed_lines (listing p)) (end_line (length (listing p))) (end_long (length (listing p)))

loss_long : (d : ℕ) (t : Totals) → 1 ≤ length (loss_line d t)
unfolding loss_line
loss_long d t = line_long (decimal d ∷ signed_decimal (cents (loss_of t)) ∷ [])

total_long : (t : Totals) → 1 ≤ length (total_line t)
unfolding total_line
total_long t = line_long ((116 ∷ 111 ∷ 116 ∷ 97 ∷ 108 ∷ []) ∷ signed_decimal (cents (loss_of t)) ∷ [])

losses_long : (l : Ledger) → 1 ≤ length (loss_text l)
unfolding loss_text
losses_long l = behind (loss_lines l.districts 0 DISTRICTS) (total_line l.whole) (total_long l.whole)

record_long : (s : House) (k : ℕ) (body : List ℕ) → 1 ≤ length (record_text s k body)
unfolding record_text
record_long s k body = go (is_call k) (eqb k NUMBER) (eqb k REFS) (eqb k LIST) (eqb k CALL) (eqb k PRICE)
  where
    go : (a b c d e f : Bool)
        → 1 ≤ length (if a then accepted_line (refusal lacks_program_room s.plan (call_of k body)) else if b then number_line (answer s.plan DIGIT-ROOM body) else
        if c then refs_line (referrer_count s.plan (word body 0)) else if d then list_text s.plan else
        if e then number_line (charged s.plan (some s.rows) s.ledger DIGIT-ROOM body) else
        if f then accepted_line (price_refusal (some s.rows) body) else loss_text s.ledger)
    go true b c d e f = accepted_long (refusal lacks_program_room s.plan (call_of k body))
    go false true c d e f = number_long (answer s.plan DIGIT-ROOM body)
    go false false true d e f = refs_long (referrer_count s.plan (word body 0))
    go false false false true e f = list_long s.plan
    go false false false false true f = number_long (charged s.plan (some s.rows) s.ledger DIGIT-ROOM body)
    go false false false false false true = accepted_long (price_refusal (some s.rows) body)
    go false false false false false false = losses_long s.ledger

-- a line of a listing, or of the losses
list_part_long : (o : Option Plan) (lines : ℕ) → 1 ≤ length (list_part o lines).text
list_part_long none lines = no_long PLAN
list_part_long (some p) lines = go (get_elem? (listing p) lines)
  where
    go : (o : Option Listed) → 1 ≤ length (listed_part p lines o).text
    go none = end_long (length (listing p))
    go (some l) = listed_long l

loss_part_long : (l : Ledger) (d n : ℕ) → 1 ≤ length (loss_part_from l d n).text
loss_part_long l d zero = total_long l.whole
loss_part_long l d (suc n) = go (has_records (totals_at l.districts d)) (loss_part_long l (d + 1) n)
  where
    go : (b : Bool) → 1 ≤ length (loss_part_from l (d + 1) n).text
        → 1 ≤ length (if b then part_before (d + 1) (loss_line d (totals_at l.districts d)) else loss_part_from l (d + 1) n).text
    go true h = loss_long d (totals_at l.districts d)
    go false h = h

part_long : (s : House) (lines k : ℕ) (body : List ℕ) → 1 ≤ length (record_part s lines k body).text
unfolding record_part
part_long s lines k body = go (eqb k LIST) (eqb k LOSSES)
  where
    go : (a b : Bool) → 1 ≤ length (if a then list_part s.plan lines else if b then loss_part s.ledger lines else last_part (record_text s k body)).text
    go true b = list_part_long s.plan lines
    go false true = loss_part_long s.ledger lines (DISTRICTS - lines)
    go false false = record_long s k body

-- a turn that writes a line writes a byte at least
abbrev Long : Turn → Type 0
Long (wrote text taken s lines) = 1 ≤ length text
Long wants = Unit {0}
Long full = Unit {0}
Long (ends text refusal) = Unit {0}

turn_long : (s : House) (lines : ℕ) (ended : Bool) (part : List ℕ) (room : ℕ) → Long (turn s lines ended part room)
turn_long s lines ended part room =
    each_turn Long s lines ended part room tt tt (λ text refusal. tt)
    (λ k bytes e h. let body : List ℕ = take (body_length k) bytes in each_line Long s lines k body (part_long s lines k body) (λ more q. part_long s lines k body))

pub writes_some : {m after : Lent} {input output written : List ℕ} {lines : ℕ} {ended : Bool} {l : Line} → StepPromise m lines ended input output after written (Wrote l)
    → 1 ≤ l.written
writes_some {m} {after} {input} {output} {written} {lines} {ended} {l} p =
    let t : Turn = turn (house_of m) lines ended input (length output) in
    let same : length (take l.written written) ≡ length (text_of t) = ap_text p.turn_is in
    let long : 1 ≤ length (take l.written written) = subst Long (sym p.turn_is) (turn_long (house_of m) lines ended input (length output)) in
    omega (arith, p.count_is, same, long)
  where
    ap_text : {a b : Turn} → a ≡ b → length (text_of a) ≡ length (text_of b)
    ap_text {a} {b} e = subst (λ (x : Turn). length (text_of a) ≡ length (text_of x)) e refl

-- WHAT IS LENT holds the state that the turn leaves, and the plan's memory keeps its size

module _ (m : Lent) {opened : Bool} (i : InHouse m opened) where
  abbrev KeepsPlan : Option Plan → Type 0
  KeepsPlan s = (state_of (memory_of s m.plan) ≡ s) × (length (memory_of s m.plan) ≡ length m.plan)

  abbrev pub KeepsHouse : House → Type 0
  KeepsHouse h = (house_of (lent_for h m) ≡ h) × (length (memory_of h.plan m.plan) ≡ length m.plan)

  keeps_house : (h : House) → KeepsPlan h.plan → HouseIn h → KeepsHouse h
  keeps_house h k j =
      let rows : rows_in (prices_image h.rows) ≡ h.rows = image_rows h.rows (passes_parts h.rows (true_is (prices_pass h.rows) j.rows_pass)) in
      (ap₂ (λ (s : Option Plan) (rs : List PriceRow). house_with s rs h.ledger) k.0 rows, k.1)

  kept : KeepsPlan (state_of m.plan)
  kept = (ap state_of (memory_kept m.plan), ap length (memory_kept m.plan))

  record_keeps : (k : ℕ) (body : List ℕ) → KeepsPlan (record_house (house_of m) k body).plan
  unfolding record_house
  record_keeps k body = go (is_call k) (eqb k CALL) (eqb k PRICE)
    where
      h : House
      h = house_of m

      go : (a b c : Bool)
          → KeepsPlan (if a then with_plan (after lacks_program_room (state_of m.plan) (call_of k body)) (house_of m) else
          if b then house_with (state_of m.plan) h.rows (ledger_after (state_of m.plan) (some h.rows) h.ledger DIGIT-ROOM body) else
          if c then house_with (state_of m.plan) (rows_or h.rows (rows_after (some h.rows) body)) h.ledger else house_of m).plan
      go true b c =
          run_state (call_of k body) m.plan (memory_of (after lacks_program_room (state_of m.plan) (call_of k body)) m.plan) (refusal lacks_program_room (state_of m.plan) (call_of k body)) i.plan_in.room
          (record { number_is = refl; memory_is = refl })
      go false true c = kept
      go false false true = kept
      go false false false = kept

  pub turn_keeps : (lines : ℕ) (ended : Bool) (part : List ℕ) (room : ℕ) → Leaves KeepsHouse (turn (house_of m) lines ended part room)
  turn_keeps =
      turn_leaves KeepsHouse (house_of m) (keeps_house (house_of m) kept (house_in i))
      (λ k body. keeps_house (record_house (house_of m) k body) (record_keeps k body) (record_in (house_of m) k body (house_in i)))

  left_size : (t : Turn) → Leaves KeepsHouse t → length (lent_after t m).plan ≡ length m.plan
  left_size (wrote text taken s lines) k = k.1
  left_size wants k = refl
  left_size full k = refl
  left_size (ends text refusal) k = refl

  pub step_size : {after : Lent} {input output written : List ℕ} {lines : ℕ} {ended : Bool} {r : Stepped} → StepPromise m lines ended input output after written r
      → length after.plan ≡ length m.plan
  step_size {input = input} {output = output} {lines = lines} {ended = ended} p =
      let t : Turn = turn (house_of m) lines ended input (length output) in
      ap (λ (x : Lent). length x.plan) p.memory_is ∙ left_size t (turn_keeps lines ended input (length output))
