-- One turn: every run of steps over what it leaves, and whatever comes behind, makes one over what was left, what was given and the same behind.
use Prim.Native.Nat.{ℕ, ◌+◌, ◌-◌, ◌≤◌}
use mathlib.Core.Path.{◌≡◌, refl, ap, ap₂, sym, subst, ◌∙◌}
use mathlib.Core.Logic.{◌⊎◌, inl, inr}
use mathlib.Core.Bool.{Bool, true, false}
use mathlib.Core.List.{List, [], ◌++◌, append_assoc}
use native.Mathlib.Omega.{arith}
use lib.IntN.{ℤ}
use lib.ListN.{length, take, drop, length-drop, take-append-drop, drop_of_length-le}
use lib.Dec.{ltb}
use borrow.Author.Tests.{ltb-true, ltb-false}
use lib.Seq.{take-take, drop-append-le, length-take-le}
use Rattle.std.specs.Prelude.{if◌then◌else◌}
use Rattle.buffer.proofs.ListLaws.{drop_take}
use Rattle.text.specs.Writes.{LONGEST}
use Rattle.record.specs.Turns.{wants, turn, is_whole}
use Rattle.record.specs.declared.Run.{Run}
use Rattle.record.specs.Promises.{Lent, lent, house_of, ending_number, Runs, RunEnd, run_end_here, run_end_behind}
use Rattle.record.proofs.Steps.{room_turn_goes, ended_turn_goes, whole_turn_goes}
use Rattle.pump.specs.Pumps.{PumpPromise, is_full, is_over, refusal_of}
use Rattle.pump.specs.declared.Stop.{Stop}
use Rattle.pump.specs.declared.Stop.TheVariants.{Wants, Full, Over}
use Rattle.pump.specs.declared.Pumped.{Pumped}
use Rattle.descriptors.specs.Moves.{MOST, sent}
use Rattle.descriptors.specs.declared.Sink.{Sink}
use Rattle.descriptors.specs.declared.AtHand.{AtHand}
use Rattle.stream.specs.Turnings.{left_of, left_in, GatherPromise, rest_by, ending_of, ending_by, turned_by, rest_in, Advanceable, Turnable, Turning}
use Rattle.stream.specs.Copies.{given_in, written_in}
use Rattle.stream.specs.declared.Rest.{Rest}
use Rattle.stream.specs.declared.Turned.{Turned}
use Rattle.stream.specs.declared.Turned.TheVariants.{Goes, Done, NotRead, NotWritten, Spent}
use Rattle.stream.proofs.Answers.{front_is}
use Rattle.stream.proofs.HandFacts.{Hand, hand_facts}

-- the place in the file where what is left begins
abbrev pub place_of : Rest → ℕ
place_of rest = rest.source.given - left_of rest

-- HOW IT ENDED, by the answer

-- its refusal's number is that of the stop
pub ending_is : (s : Stop) → ending_number (ending_of s) ≡ refusal_of s
ending_is Wants = refl
ending_is Full = refl
ending_is (Over r) = refl

module _ (hand : AtHand) (pumped : Pumped) (sink : Sink) (n : ℕ) where
  abbrev TurnedAs : Turned → Type 0
  TurnedAs (Goes next) = (is_over pumped.stop ≡ false) × (next ≡ rest_by hand pumped (sent sink n true))
  TurnedAs (Done e) = (is_over pumped.stop ≡ true) × (e ≡ ending_by hand pumped (sent sink n true))
  TurnedAs (NotRead r) = ⊥
  TurnedAs (NotWritten r) = r ≡ rest_by hand pumped (sent sink n false)
  TurnedAs (Spent r) = ⊥

  turned_as : (done : Bool) → TurnedAs (turned_by hand pumped (sent sink n done))
  turned_as true = go (is_over pumped.stop) refl
    where
      go : (o : Bool) → is_over pumped.stop ≡ o → TurnedAs (if o then Done (ending_by hand pumped (sent sink n true)) else Goes (rest_by hand pumped (sent sink n true)))
      go true e = (e, refl)
      go false e = (e, refl)
  turned_as false = refl

-- WHAT WAS AT HAND

pub hand_of : {m : Lent} {rest : Rest} {room : ℕ} (input input_left : List ℕ) (h : AtHand) → Turnable m rest (length input) room → GatherPromise rest input input_left h
    → Hand rest input input_left h
hand_of {rest = rest} input input_left h r s = hand_facts rest input input_left h r.left.placed r.left.inside s

module _ {m after : Lent} {rest : Rest} {input output input_left output_left : List ℕ} {t : Turned} (ready : Turnable m rest (length input) (length output))
    (w : Turning m rest input output after input_left output_left t) where
  abbrev h : AtHand
  h = w.hand

  abbrev p : Pumped
  p = w.so.pumped

  pub at_hand_lem : Hand rest input input_left w.hand
  at_hand_lem = hand_of input input_left w.hand ready w.gathers

  hand_long : length (take h.end input_left) ≡ h.end
  hand_long = length-take-le h.end input_left (omega (arith, at_hand_lem.inside, at_hand_lem.long))

  taken_inside : p.taken ≤ h.end
  taken_inside = omega (arith, w.so.steps.inside, hand_long)

  -- what was left, and what was given behind it
  joined : left_in rest input ++ given_in w ≡ take h.end input_left
  joined =
      ap (λ (l : List ℕ). l ++ given_in w) (sym at_hand_lem.kept ∙ sym (take-take (left_of rest) h.end input_left at_hand_lem.more))
      ∙ take-append-drop (left_of rest) (take h.end input_left)

  whole : (more : List ℕ) → take h.end input_left ++ more ≡ left_in rest input ++ (given_in w ++ more)
  whole more = ap (λ (l : List ℕ). l ++ more) (sym joined) ∙ append_assoc (left_in rest input) (given_in w) more

  given_long : length (given_in w) ≡ h.end - left_of rest
  given_long = length-drop (left_of rest) (take h.end input_left) ∙ ap (λ (n : ℕ). n - left_of rest) hand_long

  pub written_long : length (written_in w) ≡ p.written
  written_long = length-take-le p.written output_left (omega (arith, w.so.steps.room, w.so.steps.same_size))

  -- behind the end nothing is given, and it stays the end
  pub none_behind : (more : List ℕ) → (h.source.ended ≡ true → more ≡ []) → rest.source.ended ≡ true → given_in w ++ more ≡ []
  none_behind more e t =
      let n = at_hand_lem.ended_none t in
      let none : length (given_in w) ≤ 0 = omega (arith, given_long, n.0) in
      ap₂ (λ (a b : List ℕ). a ++ b) (drop_of_length-le (given_in w) none) (e n.1)

  -- IT GOES ON

  module _ (over : is_over p.stop ≡ false) where
    abbrev next : Rest
    next = rest_by h p (sent rest.sink p.written true)

    pub goes_on : (more texts : List ℕ) (e : RunEnd) → (h.source.ended ≡ true → more ≡ []) → Runs after p.run (left_in next input_left ++ more) texts e
        → Runs m rest.run (left_in rest input ++ (given_in w ++ more)) (written_in w ++ texts) (run_end_behind p.taken e)
    goes_on more texts e last runs =
        let behind : left_in next input_left ++ more ≡ drop p.taken (take h.end input_left ++ more) =
        ap (λ (l : List ℕ). l ++ more) (sym (drop_take p.taken h.end input_left taken_inside))
        ∙ sym (drop-append-le p.taken (take h.end input_left) more w.so.steps.inside) in
        subst (λ (l : List ℕ). Runs m rest.run l (written_in w ++ texts) (run_end_behind p.taken e)) (whole more)
        (w.so.steps.goes_on over more texts e last (subst (λ (l : List ℕ). Runs after p.run l texts e) behind runs))

    -- what the next turn asks for, as long as the counts have room
    pub next_ready : h.source.given + length input ≤ MOST → rest.sink.written + p.written + length output ≤ MOST → Turnable after next (length input_left) (length output_left)
    next_ready c d =
        record {
          in_house = w.so.steps.in_house;
          left =
              record {
                placed = taken_inside;
                inside = omega (arith, at_hand_lem.inside, at_hand_lem.long);
                enough = omega (arith, ready.left.enough, at_hand_lem.long);
                not_failed = w.so.read;
                counted = omega (arith, c, at_hand_lem.long);
              };
          left_given = omega (arith, at_hand_lem.counted, ready.left_given, at_hand_lem.more, taken_inside);
          room = omega (arith, ready.room, w.so.steps.same_size);
          not_failed = refl;
          counted = omega (arith, d, w.so.steps.same_size);
        }

    -- a byte was given, or one was written
    pub moves : 1 ≤ length (given_in w) + length (written_in w)
    moves = go (ltb 0 (length (given_in w) + length (written_in w))) refl
      where
        stuck : h.end ≡ left_of rest → p.written ≡ 0 → ⊥
        stuck none idle = kind (is_full p.stop) refl
          where
            same : (after ≡ m) × (p.taken ≡ 0) × (p.run ≡ rest.run)
            same = w.so.steps.idle over idle

            room : LONGEST ≤ length output - p.written
            room = omega (arith, idle, ready.room)

            -- all that was left is at hand, and nothing more
            part_is : drop p.taken (take h.end input_left) ≡ left_in rest input
            part_is = ap₂ (λ (a e : ℕ). drop a (take e input_left)) same.1 none ∙ at_hand_lem.kept

            kind : (b : Bool) → is_full p.stop ≡ b → ⊥
            kind true f = room_turn_goes (house_of after) p.run.lines h.source.ended (drop p.taken (take h.end input_left)) (length output - p.written) room (w.so.steps.stops_full f)
            kind false f = why (at_hand_lem.idle_why w.so.read none)
              where
                wanting : turn (house_of after) p.run.lines h.source.ended (drop p.taken (take h.end input_left)) (length output - p.written) ≡ wants
                wanting = w.so.steps.stops_wanting over f

                why : (h.source.ended ≡ true) ⊎ (is_whole (left_in rest input) ≡ true) → ⊥
                why (inl e) =
                    ended_turn_goes (house_of after) p.run.lines (drop p.taken (take h.end input_left)) (length output - p.written)
                    (subst (λ (b : Bool). turn (house_of after) p.run.lines b (drop p.taken (take h.end input_left)) (length output - p.written) ≡ wants) e wanting)
                why (inr e) =
                    whole_turn_goes (house_of after) p.run.lines h.source.ended (drop p.taken (take h.end input_left)) (length output - p.written) (rw part_is e) wanting

        go : (b : Bool) → ltb 0 (length (given_in w) + length (written_in w)) ≡ b → 1 ≤ length (given_in w) + length (written_in w)
        go true t = omega (arith, ltb-true 0 (length (given_in w) + length (written_in w)) t)
        go false t =
            let few = ltb-false 0 (length (given_in w) + length (written_in w)) t in
            absurd (stuck (omega (arith, few, given_long, at_hand_lem.more)) (omega (arith, few, written_long)))

  -- READING HAS ENDED

  pub ends : is_over p.stop ≡ true → (more : List ℕ) → (h.source.ended ≡ true → more ≡ [])
      → Runs m rest.run (left_in rest input ++ (given_in w ++ more)) (written_in w) (run_end_behind p.taken (run_end_here (refusal_of p.stop) after))
  ends over more last =
      subst (λ (l : List ℕ). Runs m rest.run l (written_in w) (run_end_behind p.taken (run_end_here (refusal_of p.stop) after))) (whole more) (w.so.steps.ends over more last)

  -- THE COUNTS

  pub place_on : place_of rest + p.taken ≡ h.source.given - (h.end - p.taken)
  place_on = omega (arith, at_hand_lem.counted, ready.left_given, at_hand_lem.more, taken_inside)

  pub given_on : h.source.given ≡ rest.source.given + length (given_in w)
  given_on = at_hand_lem.counted ∙ ap (λ (n : ℕ). rest.source.given + n) (sym given_long)

-- BY THE ANSWER

module _ {m after : Lent} {rest : Rest} {input output input_left output_left : List ℕ} where
  pub as_turned : {t : Turned} (w : Turning m rest input output after input_left output_left t) → TurnedAs w.hand w.so.pumped rest.sink w.so.pumped.written t
  as_turned w =
      subst (TurnedAs w.hand w.so.pumped rest.sink w.so.pumped.written) (sym w.so.is)
      (turned_as w.hand w.so.pumped rest.sink w.so.pumped.written w.so.done)

-- FOR THE FUNCTIONS

-- however a turn ended, the state is the one that the steps left
turned_run : (h : AtHand) (p : Pumped) (sink : Sink) → (rest_in (turned_by h p sink)).run ≡ p.run
turned_run h p sink = go sink.failed (is_over p.stop)
  where
    go : (a b : Bool)
        → (rest_in (if a then NotWritten (rest_by h p sink) else if b then Done (ending_by h p sink) else Goes (rest_by h p sink))).run ≡ p.run
    go true b = refl
    go false true = refl
    go false false = refl

-- steps over the input that is lent are steps over what is at hand
pub steps_at_hand : {m : Lent} {plan prices output output_left : List ℕ} {districts : List ℤ} {run : Run} {ended said : Bool} {p : Pumped} {t : Turned} (h : AtHand) (sink : Sink)
    (input : List ℕ) → said ≡ ended → t ≡ turned_by h p sink
    → PumpPromise m run said (take (h.end - 0) input) output (lent plan prices districts p.run.whole) output_left p
    → PumpPromise m run ended (take h.end input) output (lent plan prices districts (rest_in t).run.whole) output_left p
steps_at_hand {p = p} {t} h sink input i is q =
    let same : (rest_in t).run ≡ p.run = ap (λ (x : Turned). (rest_in x).run) is ∙ turned_run h p sink in
    rw same (rw (front_is h.end input, i) at q)

pub may_conclude : {m after : Lent} {rest : Rest} {output output_left : List ℕ} {run : Run} {ended : Bool} {p : Pumped} (input : List ℕ) (h : AtHand) (room : ℕ)
    → Advanceable m rest h (length input) room → PumpPromise m run ended (take (h.end - 0) input) output after output_left p → (p.taken ≤ h.end) × (h.end - p.taken ≤ h.source.given)
may_conclude {p = p} input h room r q =
    let long : length (take (h.end - 0) input) ≡ h.end - 0 = length-take-le (h.end - 0) input (omega (arith, r.inside)) in
    (omega (arith, q.inside, long), omega (arith, r.hand_given))

pub may_advance : {m : Lent} {rest : Rest} {room : ℕ} (input input_left : List ℕ) (h : AtHand) → Turnable m rest (length input) room → GatherPromise rest input input_left h
    → Advanceable m rest h (length input_left) room
may_advance input input_left h r s =
    let f = hand_of input input_left h r s in
    record {
      in_house = r.in_house;
      inside = omega (arith, f.inside, f.long);
      hand_given = omega (arith, f.counted, r.left_given, f.more);
      not_failed = r.not_failed;
      counted = r.counted;
    }
