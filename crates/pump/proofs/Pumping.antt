-- How the steps over the input at hand go on: every run of steps over what is left makes one over all of it.
use Prim.Native.Nat.{ℕ, ◌+◌, ◌-◌, ◌≤◌, ◌<◌, zero-le}
use mathlib.Core.Path.{◌≡◌, refl, ap, ap₂, sym, subst, ◌∙◌}
use mathlib.Core.Bool.{Bool, true, false, true≢false, false≢true}
use mathlib.Core.List.{List, [], ◌++◌, append_assoc}
use native.Mathlib.Nat.{zero-add, add_assoc}
use native.Mathlib.Omega.{arith}
use lib.IntN.{ℤ}
use lib.ListN.{length, take, drop, length-append, length-drop}
use lib.Seq.{take_at, drop_at, take-add, drop-drop, drop-append-le, length-take-le}
use borrow.Rule.Slice.PartMut.{mid_of, put_mid}
use Rattle.meaning.specs.Basics.{written_over}
use Rattle.std.specs.Prelude.{if◌then◌else◌}
use Rattle.buffer.proofs.ListLaws.{rest_is, rest_back}
use Rattle.blocks.proofs.OverLaws.{length_over}
use Rattle.prices.proofs.ImageLaws.{in_range_is}
use Rattle.record.specs.Turns.{turn}
use Rattle.record.specs.Cuts.{Cut}
use Rattle.record.specs.Promises.{Lent, lent, house_of, InHouse, ending_number, written_by, whole_behind, text_of, StepPromise, Runs, next, last, RunEnd, run_end_here, run_end_behind}
use Rattle.record.specs.declared.Run.{Run}
use Rattle.record.specs.declared.Line.{Line}
use Rattle.record.specs.declared.Last.{Last}
use Rattle.record.specs.declared.Stepped.{Stepped}
use Rattle.record.specs.declared.Stepped.TheVariants.{Wrote, Wants, Full, Ends}
use Rattle.record.proofs.Steps.{wants_keeps, full_keeps, ends_keeps, next_in_house, taken_inside}
use Rattle.pump.proofs.StepFacts.{writes_some, step_size}
use Rattle.pump.specs.Pumps.{pumped_as, is_full, is_over, refusal_of, PumpPromise}
use Rattle.pump.specs.declared.Stop.{Stop}
use Rattle.pump.specs.declared.Stop.TheVariants.{Wants as Wanting, Full as Filled, Over}

-- THE PARTS THAT ARE LENT

-- what was written, and the bytes behind it
module _ (text part back : List ℕ) (is : back ≡ written_over text part) (fits : length text ≤ length part) where
  lent_long : length back ≡ length part
  lent_long = ap length is ∙ length_over text part fits

  lent_behind : drop (length text) back ≡ drop (length text) part
  lent_behind = ap (drop (length text)) is ∙ drop_at text (drop (length text) part) (length text) refl

module _ (out back : List ℕ) (end : ℕ) (h : end ≤ length out) where
  front_long : length (take end out) ≡ end
  front_long = length-take-le end out h

  -- the front of the output grows by what was written
  front_grows : (w : ℕ) → take (end + w) (take end out ++ back) ≡ take end out ++ take w back
  front_grows w =
      take-add end w (take end out ++ back)
      ∙ ap₂ (λ (a b : List ℕ). a ++ take w b) (take_at (take end out) back end front_long) (drop_at (take end out) back end front_long)

  behind_is : (w : ℕ) → drop (end + w) (take end out ++ back) ≡ drop w back
  behind_is w = sym (drop-drop w end (take end out ++ back)) ∙ ap (drop w) (drop_at (take end out) back end front_long)

-- an end behind no bytes, and behind the bytes of two steps
pub none_before : (e : RunEnd) → run_end_behind 0 e ≡ e
none_before e = rw (zero-add e.place)

pub both_before : (a b : ℕ) (e : RunEnd) → run_end_behind (a + b) e ≡ run_end_behind a (run_end_behind b e)
both_before a b e = rw (add_assoc a b e.place)

-- no step could be taken: there is no room for a line, or no whole record is left
abbrev stopped : Bool → Stepped
stopped full = if full then Full else Wants

abbrev stop : Bool → Stop
stop full = if full then Filled else Wanting

record StopsAs (full : Bool) : Type 0 where
  pub fills : is_full (stop full) ≡ full
  pub goes : is_over (stop full) ≡ false
  pub none : refusal_of (stop full) ≡ 0

stops_as : (full : Bool) → StopsAs full
stops_as true = record { fills = refl; goes = refl; none = refl }
stops_as false = record { fills = refl; goes = refl; none = refl }

stopped_none : (full : Bool) → written_by (stopped full) ≡ 0
stopped_none true = refl
stopped_none false = refl

-- the price list keeps its size
list_stays : {m after : Lent} {opened : Bool} {input output written : List ℕ} {lines : ℕ} {ended : Bool} (r : Stepped) → InHouse m opened
    → StepPromise m lines ended input output after written r → length after.prices ≡ length m.prices
list_stays {m} {after} (Wrote l) i p = (in_range_is after.prices (next_in_house i p).prices_in).size ∙ sym (in_range_is m.prices i.prices_in).size
list_stays Wants i p = ap (λ (x : Lent). length x.prices) (wants_keeps p)
list_stays Full i p = ap (λ (x : Lent). length x.prices) (full_keeps p)
list_stays (Ends l) i p = ap (λ (x : Lent). length x.prices) (ends_keeps p)

stopped_keeps : (full : Bool) {m after : Lent} {input output written : List ℕ} {lines : ℕ} {ended : Bool} → StepPromise m lines ended input output after written (stopped full) → after ≡ m
stopped_keeps true p = full_keeps p
stopped_keeps false p = wants_keeps p

-- THE LOOP

pub record Going (m : Lent) (run : Run) (ended : Bool) (input out : List ℕ) (now : Lent) (so : Run) (at end : ℕ) (left : List ℕ) : Type 0 where
  pub in_house : InHouse now so.opened
  pub size : length now.plan ≡ length m.plan
  pub list_size : length now.prices ≡ length m.prices
  pub inside : at ≤ length input
  pub room : end ≤ length out
  pub long : length left ≡ length out
  pub behind : drop end left ≡ drop end out
  pub idle : end ≡ 0 → (now ≡ m) × (at ≡ 0) × (so ≡ run)
  pub extends : (rest texts : List ℕ) (e : RunEnd) → (ended ≡ true → rest ≡ []) → Runs now so (drop at (input ++ rest)) texts e
      → Runs m run (input ++ rest) (take end left ++ texts) (run_end_behind at e)

pub going_start : (m : Lent) (run : Run) (ended : Bool) (input out : List ℕ) → InHouse m run.opened → Going m run ended input out m run 0 0 out
going_start m run ended input out h =
    record {
      in_house = h;
      size = refl;
      list_size = refl;
      inside = zero-le;
      room = zero-le;
      long = refl;
      behind = refl;
      idle = λ z. (refl, refl, refl);
      extends = λ rest texts e l r. rw (none_before e) r;
    }

module _ {m now : Lent} {run so : Run} {ended : Bool} {input out left : List ℕ} {at end : ℕ} (g : Going m run ended input out now so at end left) where
  -- the part of the input at hand, in any file that goes on with `rest`
  cut : (rest : List ℕ) → (ended ≡ true → rest ≡ []) → Cut (drop at (input ++ rest)) (drop at input) rest ended
  cut rest e = record { joins = drop-append-le at input rest g.inside; last = e }

  -- a step over the parts that are lent to it, and the output with its part given back
  abbrev pub Step : Lent → List ℕ → Stepped → Type 0
  Step after back r = StepPromise now so.lines ended (take (length input - at) (drop at input)) (mid_of end (length left - end) left) after back r

  abbrev pub given : List ℕ → List ℕ
  given back = put_mid end (length left - end) left back

  room_left : length out - end ≡ length (drop end left)
  room_left = sym (length-drop end left ∙ ap (λ (n : ℕ). n - end) g.long)

  here : end ≤ length left
  here = omega (arith, g.room, g.long)

  module _ {after : Lent} {back : List ℕ} {r : Stepped} (p : Step after back r) where
    step : StepPromise now so.lines ended (drop at input) (drop end left) after back r
    step = rw (← rest_is at input, ← rest_is end left) p

    abbrev said : List ℕ
    said = text_of (turn (house_of now) so.lines ended (drop at input) (length (drop end left)))

    fits : length said ≤ length (drop end left)
    fits = rw (← step.count_is) step.inside

    back_long : length (take end left ++ back) ≡ length left
    back_long =
        let l = lent_long said (drop end left) back step.output_is fits in
        length-append (take end left) back ∙ rw (front_long left back end here, l, length-drop end left) (omega (arith, here))

    pub fits_behind : end + written_by r ≤ length out
    fits_behind = omega (arith, step.inside, length-drop end left, g.long, here)

    back_behind : drop (end + written_by r) (take end left ++ back) ≡ drop (end + written_by r) out
    back_behind =
        behind_is left back end here (written_by r)
        ∙ (rw step.count_is (lent_behind said (drop end left) back step.output_is fits)
        ∙ (ap (drop (written_by r)) g.behind ∙ drop-drop (written_by r) end out))

    -- the same bytes of output, and the text behind those that were there
    front_now : take (end + written_by r) (take end left ++ back) ≡ take end left ++ take (written_by r) back
    front_now = front_grows left back end here (written_by r)

    after_plan : length after.plan ≡ length m.plan
    after_plan = step_size now g.in_house step ∙ g.size

    after_list : length after.prices ≡ length m.prices
    after_list = list_stays r g.in_house step ∙ g.list_size

  -- a line was written
  going_more : {after : Lent} {back : List ℕ} {l : Line} → Step after back (Wrote l)
      → Going m run ended input out after l.run (at + l.taken) (end + l.written) (given back)
  going_more {after} {back} {l} q =
      let p = step q in
      let taken : l.taken ≤ length (drop at input) = taken_inside p in
      rw (rest_back end left back here)
      (record {
        in_house = next_in_house g.in_house p;
        size = after_plan q;
        list_size = after_list q;
        inside = omega (arith, taken, length-drop at input, g.inside);
        room = fits_behind q;
        long = back_long q ∙ g.long;
        behind = back_behind q;
        idle = λ z. absurd (omega (arith, writes_some p));
        extends = λ rest texts e o r.
            let next-left : Runs after l.run (drop l.taken (drop at (input ++ rest))) texts e =
            subst (λ (x : List ℕ). Runs after l.run x texts e) (sym (drop-drop l.taken at (input ++ rest))) r in
            rw (front_now q, append_assoc (take end left) (take l.written back) texts, both_before at l.taken e)
            (g.extends rest (take l.written back ++ texts) (run_end_behind l.taken e) o (next (cut rest o) p next-left));
      })

  -- nothing was written, and the memory is as it was
  going_stops : (full : Bool) {after : Lent} {back : List ℕ} → Step after back (stopped full)
      → PumpPromise m run ended input out after (given back) (pumped_as at end so (stop full))
  going_stops full {after} {back} q =
      let p = step q in
      let kind = stops_as full in
      let none : end + written_by (stopped full) ≡ end = omega (arith, stopped_none full) in
      let still = ap (turn (house_of now) so.lines ended (drop at input)) room_left ∙ sym p.turn_is in
      rw (rest_back end left back here, stopped_keeps full p)
      (record {
        goes_on = λ o rest texts e l r. rw (take_at (take end left) back end (front_long left back end here)) (g.extends rest texts e l r);
        ends = λ o. absurd (false≢true (sym kind.goes ∙ o));
        none_yet = λ o. kind.none;
        idle = λ o. g.idle;
        behind = rw none at (back_behind q);
        same_size = back_long q ∙ g.long;
        memory_size = g.size;
        inside = g.inside;
        room = g.room;
        in_house = g.in_house;
        stops_wanting = λ o f. let is : full ≡ false = sym kind.fills ∙ f in rw is at still;
        stops_full = λ f. let is : full ≡ true = sym kind.fills ∙ f in rw is at still;
      })

  -- reading has ended, with the last line
  going_ends : {after : Lent} {back : List ℕ} {l : Last} → Step after back (Ends l)
      → PumpPromise m run ended input out after (given back) (pumped_as at (end + l.written) so (Over l.refusal))
  going_ends {after} {back} {l} q =
      let p = step q in
      let kept : after ≡ now = ends_keeps p in
      rw (rest_back end left back here)
      (record {
        goes_on = λ o. absurd (true≢false o);
        ends = λ o rest e. rw (front_now q) (g.extends rest (take l.written back) (run_end_here (ending_number l.refusal) after) e (last (cut rest e) p));
        none_yet = λ o. absurd (true≢false o);
        idle = λ o. absurd (true≢false o);
        behind = back_behind q;
        same_size = back_long q ∙ g.long;
        memory_size = after_plan q;
        inside = g.inside;
        room = fits_behind q;
        in_house = rw kept g.in_house;
        stops_wanting = λ o. absurd (true≢false o);
        stops_full = λ f. absurd (false≢true f);
      })

  -- by the answer of the step, which tells the whole's totals behind it
  module _ {plan prices back : List ℕ} {districts : List ℤ} {r : Stepped} (q : Step (lent plan prices districts (whole_behind so.whole r)) back r) where
    told : {x : Stepped} → r ≡ x → Step (lent plan prices districts (whole_behind so.whole x)) back x
    told e = subst (λ (x : Stepped). Step (lent plan prices districts (whole_behind so.whole x)) back x) e q

    pub line_goes : {l : Line} → r ≡ Wrote l
        → Going m run ended input out (lent plan prices districts l.run.whole) l.run (at + l.taken) (end + l.written) (given back)
    line_goes e = going_more (told e)

    pub line_takes : {l : Line} → r ≡ Wrote l → at + l.taken ≤ length input
    line_takes e = omega (arith, taken_inside (step (told e)), length-drop at input, g.inside)

    pub line_fits : {l : Line} → r ≡ Wrote l → end + l.written ≤ length out
    line_fits e = fits_behind (told e)

    pub line_less : {l : Line} → r ≡ Wrote l → length out - (end + l.written) < length out - end
    line_less e = omega (arith, writes_some (step (told e)), fits_behind (told e))

    pub wants_stops : r ≡ Wants → PumpPromise m run ended input out (lent plan prices districts so.whole) (given back) (pumped_as at end so Wanting)
    wants_stops e = going_stops false (told e)

    pub full_stops : r ≡ Full → PumpPromise m run ended input out (lent plan prices districts so.whole) (given back) (pumped_as at end so Filled)
    full_stops e = going_stops true (told e)

    pub end_stops : {l : Last} → r ≡ Ends l
        → PumpPromise m run ended input out (lent plan prices districts so.whole) (given back) (pumped_as at (end + l.written) so (Over l.refusal))
    end_stops e = going_ends (told e)

    pub end_fits : {l : Last} → r ≡ Ends l → end + l.written ≤ length out
    end_fits e = fits_behind (told e)

    -- plan, price list and output keep their sizes
    pub output_size : length (given back) ≡ length out
    output_size = rw (rest_back end left back here) (back_long q ∙ g.long)

    pub plan_size : length plan ≡ length m.plan
    plan_size = after_plan q

    pub list_size : length prices ≡ length m.prices
    list_size = after_list q
