-- Chains of turns: what they wrote is document 01's text of what they were given.
use Prim.Native.Nat.{ℕ, zero, suc, ◌+◌, ◌-◌, ◌≤◌}
use mathlib.Core.Path.{◌≡◌, refl, ap, ap₂, sym, subst, ◌∙◌}
use mathlib.Core.Logic.{◌⊎◌, inl, inr}
use mathlib.Core.Bool.{Bool, true, false}
use mathlib.Core.List.{List, [], ◌++◌, append_assoc, append-nil}
use native.Mathlib.Omega.{arith}
use lib.IntN.{ℤ}
use lib.ListN.{length, length-append}
use Rattle.meaning.specs.Sizes.{RUN-BYTES}
use Rattle.meaning.specs.Records.{file_text, file_end}
use Rattle.buffer.specs.Zeros.{zeros}
use Rattle.buffer.proofs.ZeroLaws.{length_zeros}
use Rattle.record.specs.Promises.{Lent, house_of, Runs, RunEnd, run_end_here, run_end_behind, end_of, start, new_lent}
use Rattle.record.proofs.Steps.{any_run}
use Rattle.pump.proofs.Pumping.{none_before, both_before}
use Rattle.pump.proofs.SomeRuns.{SomeRun, some_run}
use Rattle.descriptors.specs.Moves.{sent}
use Rattle.pump.specs.Pumps.{is_over, refusal_of}
use Rattle.stream.specs.Turnings.{left_in, rest_by, ending_by, Turnable, Turning}
use Rattle.stream.specs.Copies.{given_in, written_in, Chain, begun, turned, CopyPromise, WholeFile, Begins, AnyCopy, AnyFront, AnyUnwritten, FewTurns, EachMoves}
use Rattle.stream.specs.declared.Rest.{Rest}
use Rattle.stream.specs.declared.Turned.{Turned}
use Rattle.stream.specs.declared.Turned.TheVariants.{Goes, Done, NotWritten}
use Rattle.stream.proofs.Beginning.{no_plan}
use Rattle.stream.proofs.TurnLaws.{ending_is, place_of, as_turned, goes_on, ends, none_behind, moves, place_on, given_on, written_long}

-- every run over what is left, and whatever comes behind, makes one over all that was given and the same behind
abbrev Extends : ℕ → List ℕ → List ℕ → Lent → List ℕ → Rest → Type 0
Extends size given written m input rest =
    (more texts : List ℕ) (e : RunEnd) → (rest.source.ended ≡ true → more ≡ []) → Runs m rest.run (left_in rest input ++ more) texts e
    → Runs (new_lent (zeros size)) start (given ++ more) (written ++ texts) (run_end_behind (place_of rest) e)

extends_on : (size : ℕ) (given written : List ℕ) {m after : Lent} {input output input_left output_left : List ℕ} {rest next : Rest} → Extends size given written m input rest
    → Turnable m rest (length input) (length output) → (w : Turning m rest input output after input_left output_left (Goes next))
    → Extends size (given ++ given_in w) (written ++ written_in w) after input_left next
extends_on size given written {m} {after} {input} {output} {input_left} {output_left} {rest} {next} so ready w =
    subst (Extends size (given ++ given_in w) (written ++ written_in w) after input_left) (sym (as_turned w).1) step
  where
    taken : ℕ
    taken = w.so.pumped.taken

    step : Extends size (given ++ given_in w) (written ++ written_in w) after input_left (rest_by w.hand w.so.pumped (sent rest.sink w.so.pumped.written true))
    step more texts e last r =
        let all : Runs (new_lent (zeros size)) start (given ++ (given_in w ++ more)) (written ++ (written_in w ++ texts)) (run_end_behind (place_of rest) (run_end_behind taken e)) =
        so (given_in w ++ more) (written_in w ++ texts) (run_end_behind taken e) (none_behind ready w more last) (goes_on ready w (as_turned w).0 more texts e last r) in
        rw (append_assoc given (given_in w) more, append_assoc written (written_in w) texts, ← place_on ready w, both_before (place_of rest) taken e) all

module _ {from to : ℤ} {size : ℕ} {first_input first_output : List ℕ} where
  -- the source counts what was given, the sink what was written
  all_given : {n : ℕ} {given written : List ℕ} {m : Lent} {input output : List ℕ} {rest : Rest} → Chain from to size first_input first_output n given written m rest input output
      → rest.source.given ≡ length given
  all_given begun = refl
  all_given (turned {given = given} c ready w) =
      rw (as_turned w).1 (given_on ready w ∙ (ap (λ (k : ℕ). k + length (given_in w)) (all_given c) ∙ sym (length-append given (given_in w))))

  all_written : {n : ℕ} {given written : List ℕ} {m : Lent} {input output : List ℕ} {rest : Rest} → Chain from to size first_input first_output n given written m rest input output
      → rest.sink.written ≡ length written
  all_written begun = refl
  all_written (turned {written = written} c ready w) =
      rw (as_turned w).1
      (ap (λ (k : ℕ). k + w.so.pumped.written) (all_written c)
      ∙ (ap (λ (k : ℕ). length written + k) (sym (written_long ready w)) ∙ sym (length-append written (written_in w))))

  turns_most : {n : ℕ} {given written : List ℕ} {m : Lent} {input output : List ℕ} {rest : Rest} → Chain from to size first_input first_output n given written m rest input output
      → n ≤ length given + length written
  turns_most begun = omega arith
  turns_most (turned {n} {given} {written} c ready w) =
      rw (length-append given (given_in w), length-append written (written_in w)) (omega (arith, turns_most c, moves ready w (as_turned w).0))

  -- the memory keeps its size
  memory_size : {n : ℕ} {given written : List ℕ} {m : Lent} {input output : List ℕ} {rest : Rest} → Chain from to size first_input first_output n given written m rest input output → length m.plan ≡ size
  memory_size begun = length_zeros size
  memory_size (turned c ready w) = w.so.steps.memory_size ∙ memory_size c

  extends : {n : ℕ} {given written : List ℕ} {m : Lent} {input output : List ℕ} {rest : Rest} → Chain from to size first_input first_output n given written m rest input output
      → Extends size given written m input rest
  extends begun = λ more texts e last r. subst (Runs (new_lent (zeros size)) start more texts) (sym (none_before e)) r
  extends (turned {given = given} {written = written} c ready w) = extends_on size given written (extends c) ready w

  -- so a run over all that was given ends with its text and its end
  module _ {after : Lent} {input_left output_left : List ℕ} {t : Turned} (c : CopyPromise from to size first_input first_output after input_left output_left t) where
    enough : RUN-BYTES ≤ size
    enough = omega (arith, c.ready.in_house.plan_in.room, memory_size c.chain)

    all_of : (more texts : List ℕ) (e : RunEnd) → (c.rest.source.ended ≡ true → more ≡ []) → Runs c.memory c.rest.run (left_in c.rest c.input ++ more) texts e
        → (c.written ++ texts ≡ file_text (c.given ++ more)) × (end_of (run_end_behind (place_of c.rest) e) ≡ file_end (c.given ++ more))
    all_of more texts e last r =
        any_run (zeros size) (c.given ++ more) (c.written ++ texts) (run_end_behind (place_of c.rest) e) (no_plan size enough) (extends c.chain more texts e last r)

-- THE THEOREMS

module _ (from to : ℤ) (size : ℕ) (first_input first_output : List ℕ) (after : Lent) (input_left output_left : List ℕ) where
  pub any_copy : AnyCopy from to size first_input first_output after input_left output_left
  any_copy e c = subst (WholeFile (c.given ++ given_in c.ends) (c.written ++ written_in c.ends) after) (sym (as_turned w).1) so
    where
      w : Turning c.memory c.rest c.input c.output after input_left output_left (Done e)
      w = c.ends

      end : RunEnd
      end = run_end_behind w.so.pumped.taken (run_end_here (refusal_of w.so.pumped.stop) after)

      all : (more : List ℕ) → (w.hand.source.ended ≡ true → more ≡ [])
          → (c.written ++ written_in w ≡ file_text (c.given ++ (given_in w ++ more))) × (end_of (run_end_behind (place_of c.rest) end) ≡ file_end (c.given ++ (given_in w ++ more)))
      all more last = all_of c (given_in w ++ more) (written_in w) end (none_behind c.ready w more last) (ends c.ready w (as_turned w).0 more last)

      place : w.hand.source.given - (w.hand.end - w.so.pumped.taken) ≡ place_of c.rest + end.place
      place = omega (arith, place_on c.ready w)

      so : WholeFile (c.given ++ given_in w) (c.written ++ written_in w) after (ending_by w.hand w.so.pumped (sent c.rest.sink w.so.pumped.written true))
      so =
          record {
            text_is = λ more last. (all more last).0 ∙ ap file_text (sym (append_assoc c.given (given_in w) more));
            end_is = λ more last.
                ap₂ (λ (r k : ℕ). record { refusal = r; place = k; house = house_of after }) (ending_is w.so.pumped.stop) place
                ∙ ((all more last).1 ∙ ap file_end (sym (append_assoc c.given (given_in w) more)));
            all_given = given_on c.ready w ∙ (ap (λ (k : ℕ). k + length (given_in w)) (all_given c.chain) ∙ sym (length-append c.given (given_in w)));
            all_written =
                ap (λ (k : ℕ). k + w.so.pumped.written) (all_written c.chain)
                ∙ (ap (λ (k : ℕ). length c.written + k) (sym (written_long c.ready w)) ∙ sym (length-append c.written (written_in w)));
          }

  pub any_front : AnyFront from to size first_input first_output after input_left output_left
  any_front t c more last =
      let left : List ℕ = left_in c.rest c.input ++ more in
      let r : SomeRun c.memory c.rest.run left = some_run c.memory c.rest.run left c.ready.in_house in
      record { behind = r.text; is = sym (all_of c more r.text r.end last r.runs).0 }

  pub any_unwritten : AnyUnwritten from to size first_input first_output after input_left output_left
  any_unwritten u c more ended = go (is_over w.so.pumped.stop) refl
    where
      w : Turning c.memory c.rest c.input c.output after input_left output_left (NotWritten u)
      w = c.ends

      last : w.hand.source.ended ≡ true → more ≡ []
      last e = ended (ap (λ (x : Rest). x.source.ended) (as_turned w) ∙ e)

      at_hand_lem : List ℕ
      at_hand_lem = left_in c.rest c.input ++ (given_in w ++ more)

      -- the text of the turn, and what the file goes on with
      with_text : (texts : List ℕ) (e : RunEnd) → Runs c.memory c.rest.run at_hand_lem (written_in w ++ texts) e
          → Begins (file_text ((c.given ++ given_in w) ++ more)) (c.written ++ written_in w)
      with_text texts e r =
          let all = (all_of c (given_in w ++ more) (written_in w ++ texts) e (none_behind c.ready w more last) r).0 in
          record { behind = texts; is = ap file_text (append_assoc c.given (given_in w) more) ∙ (sym all ∙ sym (append_assoc c.written (written_in w) texts)) }

      end : RunEnd
      end = run_end_behind w.so.pumped.taken (run_end_here (refusal_of w.so.pumped.stop) after)

      go : (b : Bool) → is_over w.so.pumped.stop ≡ b → Begins (file_text ((c.given ++ given_in w) ++ more)) (c.written ++ written_in w)
      go true o = with_text [] end (subst (λ (x : List ℕ). Runs c.memory c.rest.run at_hand_lem x end) (sym (append-nil (written_in w))) (ends c.ready w o more last))
      go false o =
          let left : List ℕ = left_in (rest_by w.hand w.so.pumped (sent c.rest.sink w.so.pumped.written true)) input_left ++ more in
          let r : SomeRun after w.so.pumped.run left = some_run after w.so.pumped.run left w.so.steps.in_house in
          with_text r.text (run_end_behind w.so.pumped.taken r.end) (goes_on c.ready w o more r.text r.end last r.runs)

  pub few_turns : FewTurns from to size first_input first_output after input_left output_left
  few_turns t c = turns_most c.chain

pub each_moves : EachMoves
each_moves m rest input output after input_left output_left next ready w = either (length (given_in w)) (length (written_in w)) (moves ready w (as_turned w).0)
  where
    either : (a b : ℕ) → 1 ≤ a + b → (1 ≤ a) ⊎ (1 ≤ b)
    either zero b h = inr (omega (arith, h))
    either (suc a) b h = inl (omega arith)
