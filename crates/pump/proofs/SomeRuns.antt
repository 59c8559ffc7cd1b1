-- There is a run of steps over all that is a run's and every input.
use Prim.Native.Nat.{ℕ, zero, suc, ◌+◌, ◌-◌, ◌*◌, ◌≤◌, ◌<◌}
use mathlib.Core.Path.{◌≡◌, refl, ap, ap₂, sym, ◌∙◌}
use mathlib.Core.Logic.{◌⊎◌, inl, inr}
use mathlib.Core.Bool.{Bool, true}
use mathlib.Core.List.{List, [], ◌∷◌, ◌++◌}
use native.Mathlib.Nat.{not-suc-le-zero}
use native.Mathlib.Omega.{arith}
use lib.ListN.{length, take, drop, length-drop}
use lib.Seq.{take_at}
use borrow.Author.Tests.{le-ltb}
use Rattle.std.specs.Prelude.{if◌then◌else◌, Option as Optional, Some, None}
use lib.Dec.{eqb}
use Rattle.meaning.specs.Basics.{is_zero, written_over}
use Rattle.meaning.specs.Refusals.{KIND, CUT}
use Rattle.meaning.specs.declared.Refusal.{Refusal}
use Rattle.meaning.specs.declared.Refusal.TheVariants.{Cut as CutShort, Kind as NoKind}
use Rattle.meaning.specs.Records.{House, no_line}
use Rattle.buffer.specs.Zeros.{zeros}
use Rattle.buffer.proofs.ZeroLaws.{length_zeros}
use Rattle.plan.specs.State.{sound_of}
use Rattle.text.specs.Writes.{LONGEST}
use Rattle.record.specs.Turns.{Turn, wrote, wants, full, ends, turn}
use Rattle.record.specs.Promises.{Lent, house_of, InHouse, line_of, last_of, ending_number, turn_of, written_by, text_of, lent_after, OpenedRight, StepPromise, RunEnd, run_end_here, run_end_behind, Runs, next, last}
use Rattle.record.specs.declared.Run.{Run}
use Rattle.record.specs.declared.Stepped.{Stepped}
use Rattle.record.specs.declared.Stepped.TheVariants.{Wrote, Wants, Full, Ends}
use Rattle.record.proofs.Cuts.{whole_cut, nothing_after}
use Rattle.record.proofs.Steps.{Leaves, next_in_house, ended_no_wants, room_no_full, taken_inside, goes_on}
use Rattle.pump.proofs.StepFacts.{KeepsHouse, turn_keeps}

-- A STEP, by its turn

-- a turn ends reading with one of two refusals, or none
abbrev refusal_numbered : ℕ → Optional Refusal
refusal_numbered n = if is_zero n then None else if eqb n CUT then Some CutShort else Some NoKind

abbrev Told : Turn → Type 0
Told (wrote text taken s lines) = Unit {0}
Told wants = Unit {0}
Told full = Unit {0}
Told (ends text refusal) = ending_number (refusal_numbered refusal) ≡ refusal

turn_told : (s : House) (lines : ℕ) (ended : Bool) (part : List ℕ) (room : ℕ) → Told (turn s lines ended part room)
turn_told s lines ended part room = go (turn s lines ended part room) refl
  where
    go : (t : Turn) → turn s lines ended part room ≡ t → Told t
    go (wrote text taken h later) e = tt
    go wants e = tt
    go full e = tt
    go (ends text refusal) e = one (nothing_after s lines ended part room text refusal e)
      where
        one : ((text ≡ no_line KIND) × (refusal ≡ KIND)) ⊎ (((text ≡ no_line CUT) × (refusal ≡ CUT) × (ended ≡ true)) ⊎ ((text ≡ []) × (refusal ≡ 0) × (part ≡ []) × (ended ≡ true)))
            → ending_number (refusal_numbered refusal) ≡ refusal
        one (inl k) = rw k.1
        one (inr (inl k)) = rw k.1
        one (inr (inr k)) = rw k.1

abbrev answer : Turn → Lent → Stepped
answer (wrote text taken s lines) after = Wrote (line_of taken (length text) (sound_of after.plan) lines after.whole)
answer wants after = Wants
answer full after = Full
answer (ends text refusal) after = Ends (last_of (length text) (refusal_numbered refusal))

counts : (t : Turn) (after : Lent) → written_by (answer t after) ≡ length (text_of t)
counts (wrote text taken p lines) after = refl
counts wants after = refl
counts full after = refl
counts (ends text refusal) after = refl

opened_right : (t : Turn) (after : Lent) → OpenedRight (answer t after) after
opened_right (wrote text taken p lines) after = refl
opened_right wants after = tt
opened_right full after = tt
opened_right (ends text refusal) after = tt

-- a turn asks only whether there is room for a line
same_turn : (s : House) (lines : ℕ) (left : List ℕ) (room : ℕ) → LONGEST ≤ room → turn s lines true left room ≡ turn s lines true left LONGEST
same_turn s lines [] room h = refl
same_turn s lines (k ∷ bytes) room h = rw (le-ltb room LONGEST h)

module _ (m : Lent) {opened : Bool} (i : InHouse m opened) (lines : ℕ) (left : List ℕ) where
  says : (t : Turn) (out : List ℕ) → Leaves (KeepsHouse m i) t → Told t → turn_of (answer t (lent_after t m)) (written_over (text_of t) out) (house_of (lent_after t m)) ≡ t
  says (wrote text taken p lines) out k a = ap₂ (λ (x : List ℕ) (q : House). wrote x taken q lines) (take_at text (drop (length text) out) (length text) refl) k.0
  says wants out k a = refl
  says full out k a = refl
  says (ends text refusal) out k a = ap₂ ends (take_at text (drop (length text) out) (length text) refl) a

  abbrev t : Turn
  t = turn (house_of m) lines true left LONGEST

  abbrev out : List ℕ
  out = zeros (LONGEST + length (text_of t))

  abbrev after : Lent
  after = lent_after t m

  out_long : length out ≡ LONGEST + length (text_of t)
  out_long = length_zeros (LONGEST + length (text_of t))

  room : LONGEST ≤ length out
  room = omega (arith, out_long)

  same : turn (house_of m) lines true left (length out) ≡ t
  same = same_turn (house_of m) lines left (length out) room

  some_step : StepPromise m lines true left out after (written_over (text_of t) out) (answer t after)
  some_step =
      record {
        turn_is = says t out (turn_keeps m i lines true left LONGEST) (turn_told (house_of m) lines true left LONGEST) ∙ sym same;
        output_is = ap (λ (x : Turn). written_over (text_of x) out) (sym same);
        count_is = counts t after ∙ ap (λ (x : Turn). length (text_of x)) (sym same);
        inside = omega (arith, counts t after, out_long);
        memory_is = ap (λ (x : Turn). lent_after x m) (sym same);
        opened_is = opened_right t after;
      }

-- A RUN: each line takes a byte, or counts more lines of its record

pub record SomeRun (m : Lent) (run : Run) (left : List ℕ) : Type 0 where
  pub text : List ℕ
  pub end : RunEnd
  pub runs : Runs m run left text end

abbrev most : ℕ → ℕ → ℕ
most bytes lines = bytes * 4098 + (4097 - lines)

abbrev Less : List ℕ → Run → ℕ → Type 0
Less left run fuel = most (length left) run.lines < fuel

-- a step, and a run over what it leaves
one_more : {m after : Lent} {opened : Bool} {left out written : List ℕ} {run : Run} → InHouse m opened → LONGEST ≤ length out
    → ((m' : Lent) (opened' : Bool) (run' : Run) (left' : List ℕ) → InHouse m' opened' → Less left' run' (most (length left) run.lines) → SomeRun m' run' left')
    → (r : Stepped) → StepPromise m run.lines true left out after written r → SomeRun m run left
one_more {after = after} {left = left} {written = written} {run = run} i room behind (Wrote l) p =
    let r : SomeRun after l.run (drop l.taken left) = behind after l.run.opened l.run (drop l.taken left) (next_in_house i p) less in
    record { text = take l.written written ++ r.text; end = run_end_behind l.taken r.end; runs = next (whole_cut left) p r.runs }
  where
    less : Less (drop l.taken left) l.run (most (length left) run.lines)
    less = go (goes_on p)
      where
        go : (1 ≤ l.taken) ⊎ ((run.lines < l.run.lines) × (l.run.lines ≤ 4096)) → Less (drop l.taken left) l.run (most (length left) run.lines)
        go (inl some) = omega (arith, some, taken_inside p, length-drop l.taken left)
        go (inr more) = omega (arith, more.0, more.1, length-drop l.taken left)
one_more i room behind Wants p = absurd (ended_no_wants refl p)
one_more i room behind Full p = absurd (room_no_full room p)
one_more {after = after} {written = written} i room behind (Ends l) p = record { text = take l.written written; end = run_end_here (ending_number l.refusal) after; runs = last (whole_cut _) p }

some_from : (fuel : ℕ) (m : Lent) (opened : Bool) (run : Run) (left : List ℕ) → InHouse m opened → Less left run fuel → SomeRun m run left
some_from zero m opened run left i b = absurd (not-suc-le-zero b)
some_from (suc fuel) m opened run left i b =
    one_more i (room m i run.lines left) (λ m' opened' run' left' i' less. some_from fuel m' opened' run' left' i' (omega (arith, less, b)))
    (answer (t m i run.lines left) (after m i run.lines left)) (some_step m i run.lines left)

pub some_run : (m : Lent) {opened : Bool} (run : Run) (left : List ℕ) → InHouse m opened → SomeRun m run left
some_run m {opened} run left i = some_from (suc (most (length left) run.lines)) m opened run left i (omega arith)
