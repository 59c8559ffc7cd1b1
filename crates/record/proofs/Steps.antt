-- For callers of steps: a run of them writes the meaning's text of the whole file and ends as it does; what a step takes and leaves is within bounds; and when it must go on.
use Prim.Native.Nat.{ℕ, ◌+◌, ◌-◌, ◌≤◌, ◌<◌}
use mathlib.Core.Path.{◌≡◌, refl, ap, ap₂, sym, subst, ◌∙◌}
use mathlib.Core.Logic.{◌⊎◌, inl, inr}
use mathlib.Core.Bool.{Bool, true, false, not}
use mathlib.Core.List.{List, [], ◌∷◌}
use mathlib.Core.Option.{Option, none, some}
use native.Mathlib.Omega.{arith}
use lib.ListN.{length, take, drop, length-append, length-drop, length-map, get_or-eq_default}
use lib.Dec.{ltb, eqb}
use borrow.Author.Tests.{ltb-true, ltb-false, le-ltb, leb-true, leb-false}
use Rattle.meaning.specs.Sizes.{LONGEST-RECORD, DIGIT-ROOM, PRICES-BYTES, DISTRICTS, LEDGER-NUMBERS}
use Rattle.std.specs.Prelude.{if◌then◌else◌}
use Rattle.meaning.specs.Refusals.{KIND, CUT}
use Rattle.meaning.specs.Settings.{bytes_needed}
use Rattle.meaning.specs.Plan.{Plan, rooms_in}
use Rattle.meaning.specs.Calls.{LIST, CALL, PRICE, LOSSES, is_kind, is_call, body_lengths, body_length, call_of, after}
use Rattle.meaning.specs.Reads.{listed, listing}
use Rattle.meaning.specs.Prices.{PriceRow, prices_pass, rows_after}
use Rattle.meaning.specs.Ledger.{empty_ledger, ledger_in_range}
use Rattle.meaning.specs.Charges.{ledger_after}
use Rattle.meaning.specs.Records.{House, house_with, with_plan, rows_or, new_house, lacks_program_room, no_line, record_house, end_here}
use Rattle.meaning.proofs.Tests.{is_true, true_is, at_below}
use Rattle.buffer.specs.Zeros.{zeros}
use Rattle.plan.specs.Layout.{image, plan_of}
use Rattle.plan.specs.State.{sound_of, state_of}
use Rattle.plan.proofs.ImageLaws.{image_size, state_some, state_none}
use Rattle.changes.specs.Promise.{memory_of}
use Rattle.changes.proofs.Chains.{HoldsIf, state_holds}
use Rattle.prices.specs.Layout.{prices_image, rows_in, prices_in_range}
use Rattle.prices.proofs.ImageLaws.{passes_parts, image_rows, image_in_range, empty_image}
use Rattle.charging.proofs.Keeping.{ledger_after_in_range}
use Rattle.run.specs.Runs.{InRun}
use Rattle.text.specs.Writes.{LONGEST}
use Rattle.record.specs.Turns.{Turn, wrote, wants, full, ends, record_turn, turn_at, turn, is_whole}
use Rattle.record.specs.Cuts.{Steps, line, wanting, filled, over}
use Rattle.record.specs.Promises.{Lent, house_of, InHouse, ending_number, turn_of, lent_after, StepPromise, Runs, next, again, emptied, last, RunEnd, end_of, new_lent, AnyRun}
use Rattle.record.specs.declared.Run.{Run}
use Rattle.record.specs.declared.Line.{Line}
use Rattle.record.specs.declared.Last.{Last}
use Rattle.record.specs.declared.Stepped.{Stepped}
use Rattle.record.specs.declared.Stepped.TheVariants.{Wrote, Wants, Full, Ends}
use Rattle.record.proofs.Cuts.{lines_in, most_lines, counts_more, any_cut}
use Rattle.record.proofs.EachTurn.{each_line, each_turn}
use Rattle.record.proofs.ReadLines.{rules_few}
use Rattle.record.proofs.MonthLines.{passing, rows_pass}

-- WHAT A STEP LEAVES

module _ {m after : Lent} {input output written : List ℕ} {lines : ℕ} {ended : Bool} {r : Stepped} (p : StepPromise m lines ended input output after written r) where
  -- all that is lent, by the answer
  left_is : after ≡ lent_after (turn_of r written (house_of after)) m
  left_is = p.memory_is ∙ ap (λ (t : Turn). lent_after t m) (sym p.turn_is)

-- it stays, where nothing is written
module _ {m after : Lent} {input output written : List ℕ} {lines : ℕ} {ended : Bool} where
  pub wants_keeps : StepPromise m lines ended input output after written Wants → after ≡ m
  wants_keeps p = left_is p

  pub full_keeps : StepPromise m lines ended input output after written Full → after ≡ m
  full_keeps p = left_is p

  pub ends_keeps : {l : Last} → StepPromise m lines ended input output after written (Ends l) → after ≡ m
  ends_keeps p = left_is p

-- a plan that its memory holds leaves no fewer bytes
no_smaller : (m after : List ℕ) (s : Option Plan) → HoldsIf (length after) s → after ≡ memory_of s m → length m ≤ length after
no_smaller m after none h e = omega (arith, ap length e)
no_smaller m after (some q) h e =
    let size : length after ≡ bytes_needed (rooms_in q) + (length m - bytes_needed (rooms_in q)) =
    ap length e ∙ rw (length-append (image q) (drop (bytes_needed (rooms_in q)) m), image_size q h.is_sound, length-drop (bytes_needed (rooms_in q)) m) in
    omega (arith, size)

-- PRICE LIST AND LEDGER STAY IN RANGE

pub record HouseIn (h : House) : Type 0 where
  pub rows_pass : prices_pass h.rows ≡ true
  pub size : length h.ledger.districts ≡ LEDGER-NUMBERS
  pub ledger_in : ledger_in_range h.ledger ≡ true

pub house_in : {m : Lent} {opened : Bool} → InHouse m opened → HouseIn (house_of m)
house_in {m} i = record { rows_pass = passing m.prices i.prices_in; size = i.size; ledger_in = i.ledger_in }

-- whatever record is carried out
pub record_in : (h : House) (k : ℕ) (body : List ℕ) → HouseIn h → HouseIn (record_house h k body)
unfolding record_house
record_in h k body i = go (is_call k) (eqb k CALL) (eqb k PRICE)
  where
    kept : (s : Option Plan) → HouseIn (with_plan s h)
    kept s = record { rows_pass = i.rows_pass; size = i.size; ledger_in = i.ledger_in }

    go : (a b c : Bool)
        → HouseIn (if a then with_plan (after lacks_program_room h.plan (call_of k body)) h else
        if b then house_with h.plan h.rows (ledger_after h.plan (some h.rows) h.ledger DIGIT-ROOM body) else
        if c then house_with h.plan (rows_or h.rows (rows_after (some h.rows) body)) h.ledger else h)
    go true b c = kept (after lacks_program_room h.plan (call_of k body))
    go false true c =
        let l = ledger_after_in_range h.plan h.rows i.rows_pass h.ledger DIGIT-ROOM body i.ledger_in i.size in
        record { rows_pass = i.rows_pass; size = l.1; ledger_in = l.0 }
    go false false true = record { rows_pass = rows_pass h.rows body i.rows_pass; size = i.size; ledger_in = i.ledger_in }
    go false false false = i

abbrev pub Leaves : (House → Type 0) → Turn → Type 0
Leaves P (wrote text taken t lines) = P t
Leaves P wants = Unit {0}
Leaves P full = Unit {0}
Leaves P (ends text refusal) = Unit {0}

-- what holds of a state, and behind each record, holds behind each turn
pub turn_leaves : (P : House → Type 0) (s : House) → P s → ((k : ℕ) (body : List ℕ) → P (record_house s k body)) → (lines : ℕ) (ended : Bool) (part : List ℕ) (room : ℕ)
    → Leaves P (turn s lines ended part room)
turn_leaves P s now behind lines ended part room =
    each_turn (Leaves P) s lines ended part room tt tt (λ text refusal. tt)
    (λ k bytes e h. each_line (Leaves P) s lines k (take (body_length k) bytes) (behind k (take (body_length k) bytes)) (λ more e. now))

-- so what a step leaves is a run's, with the flag that is handed on
pub next_in_house : {m after : Lent} {input output written : List ℕ} {lines : ℕ} {ended opened : Bool} {l : Line} → InHouse m opened
    → StepPromise m lines ended input output after written (Wrote l) → InHouse after l.run.opened
next_in_house {m} {after} {input} {output} {written} {lines} {ended} i p =
    let now : HouseIn (house_of after) =
    subst (Leaves HouseIn) (sym p.turn_is) (turn_leaves HouseIn (house_of m) (house_in i) (λ k body. record_in (house_of m) k body (house_in i)) lines ended input (length output)) in
    let rows : List PriceRow = rows_in after.prices in
    let own : after.prices ≡ prices_image rows = ap (λ (x : Lent). x.prices) (left_is p) in
    let more : length m.plan ≤ length after.plan =
    no_smaller m.plan after.plan (state_of after.plan) (state_holds after.plan) (ap (λ (x : Lent). x.plan) (left_is p)) in
    record {
      plan_in = record { room = omega (arith, more, i.plan_in.room); state = p.opened_is };
      prices_in = ap prices_in_range own ∙ is_true (prices_in_range (prices_image rows)) (image_in_range rows (passes_parts rows (true_is (prices_pass rows) now.rows_pass)));
      size = now.size;
      ledger_in = now.ledger_in;
    }

-- A RUN OF STEPS

run_steps : {m : Lent} {left text : List ℕ} {run : Run} {e : RunEnd} → Runs m run left text e → Steps (house_of m) run.lines left text (end_of e)
run_steps (next {output = o} c p r) = line (length o) c (sym p.turn_is) (run_steps r)
run_steps (again {m = m} {left = left} {output = o} {texts = texts} {run = run} {e = e} c p r) =
    wanting (length o) c (sym p.turn_is) (subst (λ (x : Lent). Steps (house_of x) run.lines left texts (end_of e)) (wants_keeps p) (run_steps r))
run_steps (emptied {m = m} {left = left} {output = o} {texts = texts} {run = run} {e = e} c p r) =
    filled (length o) c (sym p.turn_is) (subst (λ (x : Lent). Steps (house_of x) run.lines left texts (end_of e)) (full_keeps p) (run_steps r))
run_steps (last {m = m} {left = left} {output = o} {written = w} {run = run} {l = l} c p) =
    subst (λ (x : Lent). Steps (house_of m) run.lines left (take l.written w) (end_here (ending_number l.refusal) (house_of x))) (sym (ends_keeps p))
    (over (length o) c (sym p.turn_is))

-- no plan, an empty price list and an empty ledger
new_house_lem : (m : List ℕ) → InRun m false → house_of (new_lent m) ≡ new_house
unfolding prices_pass
new_house_lem m i =
    let rows : rows_in (zeros PRICES-BYTES) ≡ [] = ap rows_in (sym empty_image) ∙ image_rows [] (passes_parts [] tt) in
    ap₂ (λ (s : Option Plan) (rs : List PriceRow). house_with s rs empty_ledger) (state_none m i.state) rows

-- "the meaning's text of the whole file", and its end
pub any_run : AnyRun
any_run m file text e i r = any_cut file text (end_of e) (rw (new_house_lem m i) at (run_steps r))

-- WHEN A STEP MUST GO ON

abbrev IsLine : Turn → Type 0
IsLine (wrote text taken t lines) = Unit {0}
IsLine wants = ⊥
IsLine full = ⊥
IsLine (ends text refusal) = ⊥

-- a whole record writes a line
record_line : (s : House) (lines k : ℕ) (body : List ℕ) → IsLine (record_turn s lines k body)
record_line s lines k body = each_line IsLine s lines k body tt (λ more e. tt)

abbrev NotWants : Turn → Type 0
NotWants (wrote text taken t lines) = Unit {0}
NotWants wants = ⊥
NotWants full = Unit {0}
NotWants (ends text refusal) = Unit {0}

abbrev NotFull : Turn → Type 0
NotFull (wrote text taken t lines) = Unit {0}
NotFull wants = Unit {0}
NotFull full = ⊥
NotFull (ends text refusal) = Unit {0}

line_goes : (t : Turn) → IsLine t → NotWants t × NotFull t
line_goes (wrote text taken t lines) u = (tt, tt)
line_goes wants u = absurd u
line_goes full u = absurd u
line_goes (ends text refusal) u = absurd u

body_most : (k : ℕ) → body_length k < LONGEST-RECORD
unfolding body_length
body_most k = go (ltb k (length body_lengths)) refl
  where
    go : (b : Bool) → ltb k (length body_lengths) ≡ b → body_length k < LONGEST-RECORD
    go true e =
        ltb-true (body_length k) LONGEST-RECORD
        (is_true (ltb (body_length k) LONGEST-RECORD) (at_below (λ (j : ℕ). ltb (body_length j) LONGEST-RECORD) (length body_lengths) tt k (ltb-true k (length body_lengths) e)))
    go false e = rw (get_or-eq_default {A = ℕ} body_lengths 0 {n = k} (ltb-false k (length body_lengths) e)) (omega arith)

-- there is a byte for a kind, and the bytes of the longest body
pub not_whole_few : (part : List ℕ) → is_whole part ≡ false → length part < LONGEST-RECORD
not_whole_few [] e = omega arith
not_whole_few (k ∷ bytes) e = omega (arith, leb-false (body_length k) (length bytes) e, body_most k)

module _ (s : House) (lines : ℕ) where
  module _ (k : ℕ) (bytes : List ℕ) where
    goes : NotWants (record_turn s lines k (take (body_length k) bytes)) × NotFull (record_turn s lines k (take (body_length k) bytes))
    goes = line_goes (record_turn s lines k (take (body_length k) bytes)) (record_line s lines k (take (body_length k) bytes))

    kind_ended : NotWants (turn_at s lines true k bytes)
    unfolding turn_at
    kind_ended = go (is_kind k) (ltb (length bytes) (body_length k))
      where
        go : (a b : Bool) → NotWants (if not a then ends (no_line KIND) KIND else if b then ends (no_line CUT) CUT else record_turn s lines k (take (body_length k) bytes))
        go false b = tt
        go true true = tt
        go true false = goes.0

    kind_whole : (ended : Bool) → body_length k ≤ length bytes → NotWants (turn_at s lines ended k bytes)
    unfolding turn_at
    kind_whole ended h = rw (le-ltb (length bytes) (body_length k) h) (go (is_kind k))
      where
        go : (a : Bool) → NotWants (if not a then ends (no_line KIND) KIND else record_turn s lines k (take (body_length k) bytes))
        go false = tt
        go true = goes.0

    kind_not_full : (ended : Bool) → NotFull (turn_at s lines ended k bytes)
    unfolding turn_at
    kind_not_full ended = go (is_kind k) (ltb (length bytes) (body_length k)) ended
      where
        go : (a b c : Bool)
            → NotFull (if not a then ends (no_line KIND) KIND else if b then (if c then ends (no_line CUT) CUT else wants) else record_turn s lines k (take (body_length k) bytes))
        go false b c = tt
        go true true true = tt
        go true true false = tt
        go true false c = goes.1

  -- the input has ended
  ended_goes : (part : List ℕ) (room : ℕ) → NotWants (turn s lines true part room)
  ended_goes [] room = tt
  ended_goes (k ∷ bytes) room = go (ltb room LONGEST)
    where
      go : (b : Bool) → NotWants (if b then full else turn_at s lines true k bytes)
      go true = tt
      go false = kind_ended k bytes

  -- there is a whole record
  whole_goes : (ended : Bool) (part : List ℕ) (room : ℕ) → is_whole part ≡ true → NotWants (turn s lines ended part room)
  whole_goes ended [] room h = absurd (let z : ◌≡◌ {A = ℕ} 0 1 = cc in omega arith)
  whole_goes ended (k ∷ bytes) room h = go (ltb room LONGEST)
    where
      go : (b : Bool) → NotWants (if b then full else turn_at s lines ended k bytes)
      go true = tt
      go false = kind_whole k bytes ended (leb-true (body_length k) (length bytes) h)

  -- there is room for a line
  room_goes : (ended : Bool) (part : List ℕ) (room : ℕ) → LONGEST ≤ room → NotFull (turn s lines ended part room)
  room_goes true [] room h = tt
  room_goes false [] room h = tt
  room_goes ended (k ∷ bytes) room h = rw (le-ltb room LONGEST h) (kind_not_full k bytes ended)

-- of a turn: it does not want more where the input has ended or has a whole record, and has room where a line has
pub ended_turn_goes : (s : House) (lines : ℕ) (part : List ℕ) (room : ℕ) → turn s lines true part room ≡ wants → ⊥
ended_turn_goes s lines part room e = subst NotWants e (ended_goes s lines part room)

pub whole_turn_goes : (s : House) (lines : ℕ) (ended : Bool) (part : List ℕ) (room : ℕ) → is_whole part ≡ true → turn s lines ended part room ≡ wants → ⊥
whole_turn_goes s lines ended part room h e = subst NotWants e (whole_goes s lines ended part room h)

pub room_turn_goes : (s : House) (lines : ℕ) (ended : Bool) (part : List ℕ) (room : ℕ) → LONGEST ≤ room → turn s lines ended part room ≡ full → ⊥
room_turn_goes s lines ended part room h e = subst NotFull e (room_goes s lines ended part room h)

-- the same of a step
module _ {m after : Lent} {input output written : List ℕ} {lines : ℕ} {ended : Bool} where
  pub ended_no_wants : ended ≡ true → StepPromise m lines ended input output after written Wants → ⊥
  ended_no_wants e p = ended_turn_goes (house_of m) lines input (length output) (rw e at (sym p.turn_is))

  pub whole_no_wants : is_whole input ≡ true → StepPromise m lines ended input output after written Wants → ⊥
  whole_no_wants h p = whole_turn_goes (house_of m) lines ended input (length output) h (sym p.turn_is)

  pub room_no_full : LONGEST ≤ length output → StepPromise m lines ended input output after written Full → ⊥
  room_no_full h p = room_turn_goes (house_of m) lines ended input (length output) h (sym p.turn_is)

-- WHAT A LINE TAKES: a byte at least, or more lines of its record are counted

abbrev Takes : ℕ → ℕ → Turn → Type 0
Takes lines size (wrote text taken t more) = (taken ≤ size) × ((1 ≤ taken) ⊎ ((lines < more) × (more ≤ 4096)))
Takes lines size wants = Unit {0}
Takes lines size full = Unit {0}
Takes lines size (ends text refusal) = Unit {0}

turn_takes : (s : House) → ((k : ℕ) → most_lines s k ≤ 4096) → (lines : ℕ) (ended : Bool) (part : List ℕ) (room : ℕ) → Takes lines (length part) (turn s lines ended part room)
turn_takes s few lines ended part room =
    each_turn (Takes lines (length part)) s lines ended part room tt tt (λ text refusal. tt)
    (λ k bytes e h.
    let long : 1 + body_length k ≤ length part = rw e (omega arith) in
    each_line (Takes lines (length part)) s lines k (take (body_length k) bytes) (long, inl (omega arith))
    (λ more q. let c = counts_more s lines k (take (body_length k) bytes) more q in (omega arith, inr (c.0, omega (arith, c.1, few k)))))

lines_most : (m : Lent) (k : ℕ) → most_lines (house_of m) k ≤ 4096
unfolding listing
lines_most m k = go (eqb k LIST) (eqb k LOSSES)
  where
    listed_most : (b : Bool) → sound_of m.plan ≡ b → lines_in (state_of m.plan) ≤ 4096
    listed_most true e = rw (state_some m.plan e, length-map (plan_of m.plan).rules listed) (rules_few m.plan e)
    listed_most false e = rw (state_none m.plan e) (omega arith)

    go : (a b : Bool) → (if a then lines_in (state_of m.plan) else if b then DISTRICTS else 0) ≤ 4096
    go true b = listed_most (sound_of m.plan) refl
    go false true = omega arith
    go false false = omega arith

module _ {m after : Lent} {input output written : List ℕ} {lines : ℕ} {ended : Bool} {l : Line} (p : StepPromise m lines ended input output after written (Wrote l)) where
  takes : Takes lines (length input) (turn_of (Wrote l) written (house_of after))
  takes = subst (Takes lines (length input)) (sym p.turn_is) (turn_takes (house_of m) (lines_most m) lines ended input (length output))

  pub taken_inside : l.taken ≤ length input
  taken_inside = takes.0

  -- so a run of steps over a file comes to its end
  pub goes_on : (1 ≤ l.taken) ⊎ ((lines < l.run.lines) × (l.run.lines ≤ 4096))
  goes_on = takes.1
