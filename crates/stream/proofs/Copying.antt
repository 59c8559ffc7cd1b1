-- Between two turns of a copy a chain of them has been taken.
use Prim.Native.Nat.{ℕ, ◌+◌, ◌-◌, ◌*◌, ◌≤◌, ◌<◌}
use mathlib.Core.Path.{◌≡◌, refl, ap, sym, subst, ◌∙◌}
use mathlib.Core.Logic.{◌⊎◌, inl, inr}
use mathlib.Core.Bool.{true}
use mathlib.Core.List.{List, [], ◌++◌}
use native.Mathlib.Omega.{arith}
use lib.IntN.{ℤ}
use lib.ListN.{length}
use mir.Syntax.{w32}
use mir.Val.{SFits, to_z, of_z}
use mir.ValLaws.{to_z-of_z}
use Rattle.meaning.specs.Sizes.{LONGEST-RECORD, PRICES-BYTES, RUN-BYTES}
use Rattle.meaning.specs.Ledger.{empty_ledger}
use Rattle.buffer.specs.Zeros.{zeros}
use Rattle.buffer.proofs.ZeroLaws.{length_zeros}
use Rattle.text.specs.Writes.{LONGEST}
use Rattle.record.specs.declared.Run.{Run}
use Rattle.record.specs.Promises.{Lent, lent, start, new_lent}
use Rattle.descriptors.specs.Moves.{new_source, new_sink, sent}
use Rattle.descriptors.specs.declared.Source.{Source}
use Rattle.descriptors.specs.declared.Sink.{Sink}
use Rattle.stream.specs.Turnings.{rest_by, rest_in, AdvancePromise, Turnable, UnreadTurn, Turning, TurnPromise}
use Rattle.stream.specs.Copies.{BUFFER, TURNS, first, given_in, written_in, Chain, begun, turned, LastTurn, CopyPromise}
use Rattle.stream.specs.declared.Rest.{Rest}
use Rattle.stream.specs.declared.Turned.{Turned}
use Rattle.stream.specs.declared.Turned.TheVariants.{Goes, Done, NotRead, NotWritten, Spent}
use Rattle.stream.proofs.Beginning.{new_whole, cleared}
use Rattle.stream.proofs.TurnLaws.{as_turned, at_hand_lem, next_ready}

-- the turns that are left do not bring a count over this
abbrev COUNTED : ℕ
COUNTED = 9223372036854775808

pub record Copying (from to : ℤ) (size listed : ℕ) (input output : List ℕ) (now : Lent) (in_hand out-hand : List ℕ) (rest : Rest) (k : ℕ) : Type 0 where
  pub ready : Turnable now rest (length in_hand) (length out-hand)
  pub plan_size : length now.plan ≡ size
  pub list_size : length now.prices ≡ listed
  pub input_size : length in_hand ≡ length input
  pub output_size : length out-hand ≡ length output
  pub input_few : length input ≤ BUFFER
  pub output_few : length output ≤ BUFFER
  pub given_few : rest.source.given + k * BUFFER ≤ COUNTED
  pub written_few : rest.sink.written + k * BUFFER ≤ COUNTED
  pub turns : ℕ
  pub count : turns + k ≡ TURNS
  pub given : List ℕ
  pub written : List ℕ
  pub chain : Chain from to size input output turns given written now rest in_hand out-hand

pub first_is : {from to : ℤ} {run : Run} {source : Source} {sink : Sink} → run ≡ start → source ≡ new_source from → sink ≡ new_sink to
    → record { run = run; source = source; sink = sink; at = 0; end = 0 } ≡ first from to
first_is a b c = rw (a, b, c) refl

-- all that is lent is cleared
pub copying_start : (size : ℕ) {from to : ℤ} {plan prices input output : List ℕ} {districts : List ℤ} {rest : Rest} → rest ≡ first from to → plan ≡ zeros size → prices ≡ zeros PRICES-BYTES
    → districts ≡ empty_ledger.districts → RUN-BYTES ≤ size → LONGEST-RECORD ≤ length input → LONGEST ≤ length output → length input ≤ BUFFER → length output ≤ BUFFER
    → Copying from to (length plan) (length prices) input output (lent plan prices districts rest.run.whole) input output rest TURNS
copying_start size {from} {to} {plan} {prices} {input} {output} {districts} {rest} is no_plan no_rows no_records enough i o few-i few-o =
    let same : lent plan prices districts start.whole ≡ new_lent (zeros size) = rw (no_plan, no_rows, no_records) new_whole in
    let long : length plan ≡ size = ap length no_plan ∙ length_zeros size in
    rw (is, same)
    (record {
      ready =
          record {
            in_house = cleared size enough;
            left = record { placed = omega arith; inside = omega arith; enough = i; not_failed = refl; counted = omega arith };
            left_given = omega arith;
            room = o;
            not_failed = refl;
            counted = omega arith;
          };
      plan_size = sym (ap length no_plan);
      list_size = sym (ap length no_rows);
      input_size = refl;
      output_size = refl;
      input_few = few-i;
      output_few = few-o;
      given_few = omega arith;
      written_few = omega arith;
      turns = 0;
      count = refl;
      given = [];
      written = [];
      chain = rw long begun;
    })

-- HOW THE LAST TURN ENDED

module _ {m after : Lent} {rest : Rest} {input output input_left output_left : List ℕ} where
  -- by whether a read failed
  by_read : {t : Turned} → TurnPromise m rest input output after input_left output_left t
      → UnreadTurn m rest input output after input_left output_left t ⊎ Turning m rest input output after input_left output_left t
  by_read {t} p = go p.so
    where
      go : AdvancePromise m rest p.hand input_left output after output_left t
          → UnreadTurn m rest input output after input_left output_left t ⊎ Turning m rest input output after input_left output_left t
      go (inl u) = inl (record { hand = p.hand; gathers = p.gathers; so = u })
      go (inr w) = inr (record { hand = p.hand; gathers = p.gathers; so = w })

  last_so : (n : ℕ) (t : Turned) → ((next : Rest) → t ≡ Goes next → ⊥)
      → UnreadTurn m rest input output after input_left output_left t ⊎ Turning m rest input output after input_left output_left t
      → LastTurn m rest input output after input_left output_left n t
  last_so n (Goes r) none p = absurd (none r refl)
  last_so n (Done e) none (inl u) = absurd (let f = u.so.is in let z : ◌≡◌ {A = ℕ} 0 1 = cc in omega arith)
  last_so n (Done e) none (inr w) = w
  last_so n (NotRead r) none (inl u) = u
  last_so n (NotRead r) none (inr w) = absurd (as_turned w)
  last_so n (NotWritten r) none (inl u) = absurd (let f = u.so.is in let z : ◌≡◌ {A = ℕ} 0 1 = cc in omega arith)
  last_so n (NotWritten r) none (inr w) = w
  last_so n (Spent r) none (inl u) = absurd (let f = u.so.is in let z : ◌≡◌ {A = ℕ} 0 1 = cc in omega arith)
  last_so n (Spent r) none (inr w) = absurd (as_turned w)

module _ {from to : ℤ} {size listed k : ℕ} {input output in_hand out-hand : List ℕ} {now : Lent} {rest : Rest} (i : Copying from to size listed input output now in_hand out-hand rest k) where
  module _ {plan prices in_left out-left : List ℕ} {districts : List ℤ} {t : Turned}
      (p : TurnPromise now rest in_hand out-hand (lent plan prices districts (rest_in t).run.whole) in_left out-left t) where
    abbrev left : Rest → Lent
    left r = lent plan prices districts r.run.whole

    -- a turn that goes on is one in which steps were taken
    steps_of : {next : Rest} → t ≡ Goes next → Turning now rest in_hand out-hand (left next) in_left out-left (Goes next)
    steps_of {next} e = go (by_read p)
      where
        go : UnreadTurn now rest in_hand out-hand (left (rest_in t)) in_left out-left t ⊎ Turning now rest in_hand out-hand (left (rest_in t)) in_left out-left t
            → Turning now rest in_hand out-hand (left next) in_left out-left (Goes next)
        go (inl u) = absurd (let f = u.so.is in let z : ◌≡◌ {A = ℕ} 0 1 = cc in omega arith)
        go (inr w) = subst (λ (x : Turned). Turning now rest in_hand out-hand (left (rest_in x)) in_left out-left x) e w

    pub copying_more : {next : Rest} → t ≡ Goes next → 0 < k → length plan ≡ length now.plan → length prices ≡ length now.prices → length in_left ≡ length in_hand
        → length out-left ≡ length out-hand → Copying from to size listed input output (lent plan prices districts next.run.whole) in_left out-left next (k - 1)
    copying_more {next} e more plans lists ins outs =
        let w : Turning now rest in_hand out-hand (left next) in_left out-left (Goes next) = steps_of e in
        let is : next ≡ rest_by w.hand w.so.pumped (sent rest.sink w.so.pumped.written true) = (as_turned w).1 in
        let f = at_hand_lem i.ready w in
        let given_is : next.source.given ≡ w.hand.source.given = ap (λ (r : Rest). r.source.given) is in
        let written_is : next.sink.written ≡ rest.sink.written + w.so.pumped.written = ap (λ (r : Rest). r.sink.written) is in
        let given-most : w.hand.source.given + (k - 1) * BUFFER ≤ COUNTED = omega (arith, f.counted, f.inside, i.given_few, i.input_few, i.input_size, more) in
        let written-most : rest.sink.written + w.so.pumped.written + (k - 1) * BUFFER ≤ COUNTED = omega (arith, w.so.steps.room, i.written_few, i.output_few, i.output_size, more) in
        record {
          ready =
              subst (λ (r : Rest). Turnable (left next) r (length in_left) (length out-left)) (sym is)
              (next_ready i.ready w (as_turned w).0 (omega (arith, given-most, i.input_few, i.input_size)) (omega (arith, written-most, i.output_few, i.output_size)));
          plan_size = plans ∙ i.plan_size;
          list_size = lists ∙ i.list_size;
          input_size = ins ∙ i.input_size;
          output_size = outs ∙ i.output_size;
          input_few = i.input_few;
          output_few = i.output_few;
          given_few = omega (arith, given_is, given-most);
          written_few = omega (arith, written_is, written-most);
          turns = i.turns + 1;
          count = omega (arith, i.count, more);
          given = i.given ++ given_in w;
          written = i.written ++ written_in w;
          chain = turned i.chain i.ready w;
        }

  -- after the turns taken, the last
  copied : {after : Lent} {in_left out-left : List ℕ} {t : Turned} → LastTurn now rest in_hand out-hand after in_left out-left i.turns t
      → CopyPromise from to size input output after in_left out-left t
  copied last =
      record {
        turns = i.turns;
        given = i.given;
        written = i.written;
        memory = now;
        rest = rest;
        input = in_hand;
        output = out-hand;
        chain = i.chain;
        ready = i.ready;
        ends = last;
      }

  -- a turn that does not go on is the last
  pub copying_last : {after : Lent} {in_left out-left : List ℕ} {t : Turned} → TurnPromise now rest in_hand out-hand after in_left out-left t → ((next : Rest) → t ≡ Goes next → ⊥)
      → CopyPromise from to size input output after in_left out-left t
  copying_last {t = t} p none = copied (last_so i.turns t none (by_read p))

  pub copying_spent : k ≡ 0 → CopyPromise from to size input output now in_hand out-hand (Spent rest)
  copying_spent e = copied (omega (arith, i.count, e), refl, refl, refl, refl)

-- FOR THE FUNCTION

-- a tag that is not the first is not that of a turn that goes on
pub never : (◌≡◌ {A = ℕ} 0 1) ⊎ ((◌≡◌ {A = ℕ} 0 2) ⊎ ((◌≡◌ {A = ℕ} 0 3) ⊎ (◌≡◌ {A = ℕ} 0 4))) → ⊥
never (inl e) = omega arith
never (inr (inl e)) = omega arith
never (inr (inr (inl e))) = omega arith
never (inr (inr (inr e))) = omega arith

-- in the numbers that the caller lent
pub as_lent : {from to : ℤ} {size n : ℕ} {input output in_left out-left : List ℕ} {after : Lent} {t : Turned} → SFits w32 from → SFits w32 to → n ≡ size
    → CopyPromise (to_z w32 (of_z w32 from)) (to_z w32 (of_z w32 to)) n input output after in_left out-left t → CopyPromise from to size input output after in_left out-left t
as_lent {from} {to} f g e p = rw (to_z-of_z w32 from f, to_z-of_z w32 to g, e) at p
