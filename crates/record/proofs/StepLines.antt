-- Each way out of a step is the turn's.
use Prim.Native.Nat.{ℕ, ◌+◌, ◌-◌, ◌≤◌, ◌<◌}
use mathlib.Core.Path.{◌≡◌, refl, ap, sym, subst, ◌∙◌}
use mathlib.Core.Bool.{Bool, true, false, not}
use mathlib.Core.List.{List, [], ◌∷◌}
use native.Mathlib.Omega.{arith}
use lib.ListN.{length, take, drop, get_or, length-drop}
use lib.Seq.{take_at, length-take-le}
use lib.Dec.{ltb, leb-suc-suc}
use borrow.Author.Tests.{lt-ltb, le-ltb, lt-leb, le-leb, eq-eqb}
use Rattle.meaning.specs.Sizes.{LEDGER-NUMBERS, RUN-BYTES}
use Rattle.meaning.specs.Basics.{written_over}
use Rattle.std.specs.Prelude.{if◌then◌else◌}
use Rattle.meaning.specs.Refusals.{KIND, CUT}
use Rattle.std.specs.Prelude.{Some, None}
use Rattle.meaning.specs.declared.Refusal.TheVariants.{Cut as CutShort, Kind as NoKind}
use Rattle.meaning.specs.Calls.{is_kind, body_length}
use Rattle.meaning.specs.Ledger.{ledger_of, ledger_in_range}
use Rattle.meaning.specs.Records.{House, no_line}
use Rattle.meaning.proofs.Tests.{all_false}
use Rattle.meaning.proofs.Telling.{passed}
use Rattle.plan.specs.State.{sound_of}
use Rattle.prices.specs.Layout.{prices_in_range}
use Rattle.text.specs.Writes.{LONGEST, Writes}
use Rattle.text.proofs.Lines.{front_is}
use Rattle.record.specs.Numbers.{body_at}
use Rattle.record.specs.Turns.{Turn, wants, full, ends, record_turn, turn_at, turn, is_whole}
use Rattle.record.specs.Promises.{Lent, lent, house_of, turn_of, written_by, whole_behind, text_of, lent_after, OpenedRight, LinePromise, last_of, cut_answer, cut_text, CutPromise, StepPromise, InHouse, fit_tests, is_fit}
use Rattle.record.specs.declared.Line.{Line}
use Rattle.record.specs.declared.Stepped.{Stepped}
use Rattle.record.specs.declared.Stepped.TheVariants.{Wrote, Wants, Full, Ends}

-- A BODY THAT IS CUT

pub cut_wants : (ended : Bool) (out : List ℕ) → ended ≡ false → CutPromise ended out out Wants
cut_wants ended out e = rw e (record { answer_is = refl; output_is = refl; inside = omega arith })

pub cut_ends : {out last : List ℕ} {n : ℕ} (ended : Bool) → ended ≡ true → Writes (no_line CUT) out last n → CutPromise ended out last (Ends (last_of n (Some CutShort)))
cut_ends ended e w = rw e (record { answer_is = ap (λ (k : ℕ). Ends (last_of k (Some CutShort))) w.count_is; output_is = w.buffer_is; inside = omega (arith, w.count_is, w.inside) })

-- A WHOLE RECORD

pub empty_not_whole : (input : List ℕ) → length input ≡ 0 → false ≡ is_whole input
empty_not_whole [] e = refl
empty_not_whole (k ∷ bytes) e = absurd (omega (arith, e))

pub whole_test : (input : List ℕ) (n : ℕ) → (length input ≡ 0 → ⊥) → n ≡ body_length (get_or input 0 0) → ltb n (length input) ≡ is_whole input
whole_test [] n some-input e = absurd (some-input refl)
whole_test (k ∷ bytes) n some-input e = rw e (leb-suc-suc (body_length k) (length bytes))

-- THE TURNS

module _ (s : House) (lines : ℕ) (ended : Bool) where
  empty_turn : (input : List ℕ) (room : ℕ) → length input ≡ 0 → turn s lines ended input room ≡ (if ended then ends [] 0 else wants)
  empty_turn [] room e = refl
  empty_turn (k ∷ bytes) room e = absurd (omega (arith, e))

  full_turn : (input : List ℕ) (room : ℕ) → (length input ≡ 0 → ⊥) → room < LONGEST → turn s lines ended input room ≡ full
  full_turn [] room n h = absurd (n refl)
  full_turn (k ∷ bytes) room n h = rw (lt-ltb room LONGEST h)

  kind_turn : (input : List ℕ) (room : ℕ) → (length input ≡ 0 → ⊥) → LONGEST ≤ room → turn s lines ended input room ≡ turn_at s lines ended (get_or input 0 0) (drop 1 input)
  kind_turn [] room n h = absurd (n refl)
  kind_turn (k ∷ bytes) room n h = rw (le-ltb room LONGEST h)

  module _ (k : ℕ) (bytes : List ℕ) where
    unknown_turn : is_kind k ≡ false → turn_at s lines ended k bytes ≡ ends (no_line KIND) KIND
    unfolding turn_at
    unknown_turn h = rw h

    cut_turn : is_kind k ≡ true → length bytes < body_length k → turn_at s lines ended k bytes ≡ (if ended then ends (no_line CUT) CUT else wants)
    unfolding turn_at
    cut_turn h l = rw (h, lt-ltb (length bytes) (body_length k) l)

    whole_turn : is_kind k ≡ true → body_length k ≤ length bytes → turn_at s lines ended k bytes ≡ record_turn s lines k (take (body_length k) bytes)
    unfolding turn_at
    whole_turn h l = rw (h, le-ltb (length bytes) (body_length k) l)

-- THE PROMISE

module _ (m : Lent) (lines : ℕ) (ended : Bool) (input out : List ℕ) where
  promised : {left : Lent} {last : List ℕ} {r : Stepped} (t : Turn) → turn (house_of m) lines ended input (length out) ≡ t → turn_of r last (house_of left) ≡ t
      → last ≡ written_over (text_of t) out → written_by r ≡ length (text_of t) → written_by r ≤ length out → left ≡ lent_after t m → OpenedRight r left
      → StepPromise m lines ended input out left last r
  promised t e turn_is output_is count_is inside memory_is opened_is =
      record {
        turn_is = turn_is ∙ sym e;
        output_is = rw e output_is;
        count_is = rw e count_is;
        inside = inside;
        memory_is = rw e memory_is;
        opened_is = opened_is;
      }

  pub nothing_ends : length input ≡ 0 → ended ≡ true → StepPromise m lines ended input out m out (Ends (last_of 0 None))
  nothing_ends h e =
      let t : turn (house_of m) lines ended input (length out) ≡ ends [] 0 = empty_turn (house_of m) lines ended input (length out) h ∙ rw e in
      promised (ends [] 0) t refl refl refl (omega arith) refl tt

  pub nothing_wants : length input ≡ 0 → ended ≡ false → StepPromise m lines ended input out m out Wants
  nothing_wants h e =
      let t : turn (house_of m) lines ended input (length out) ≡ wants = empty_turn (house_of m) lines ended input (length out) h ∙ rw e in
      promised wants t refl refl refl (omega arith) refl tt

  module _ (some-input : length input ≡ 0 → ⊥) where
    pub no_room : length out < LONGEST → StepPromise m lines ended input out m out Full
    no_room h = promised full (full_turn (house_of m) lines ended input (length out) some-input h) refl refl refl (omega arith) refl tt

    module _ (room : LONGEST ≤ length out) where
      abbrev kind : ℕ
      kind = get_or input 0 0

      at_kind : turn (house_of m) lines ended input (length out) ≡ turn_at (house_of m) lines ended kind (drop 1 input)
      at_kind = kind_turn (house_of m) lines ended input (length out) some-input room

      pub unknown_ends : {last : List ℕ} {n : ℕ} → is_kind kind ≡ false → Writes (no_line KIND) out last n → StepPromise m lines ended input out m last (Ends (last_of n (Some NoKind)))
      unknown_ends h w =
          promised (ends (no_line KIND) KIND) (at_kind ∙ unknown_turn (house_of m) lines ended kind (drop 1 input) h) (ap (λ (x : List ℕ). ends x KIND) (front_is w)) w.buffer_is w.count_is w.inside refl tt

      module _ (known : is_kind kind ≡ true) (n : ℕ) (n-is : n ≡ body_length kind) where
        pub cut_step : {last : List ℕ} {r : Stepped} → length input < 1 + n → CutPromise ended out last r
            → StepPromise m lines ended input out (lent m.plan m.prices m.districts (whole_behind m.whole r)) last r
        cut_step {last} {r} h p =
            let l : length (drop 1 input) < body_length kind = rw (length-drop 1 input, ← n-is) (omega (arith, some-input)) in
            go ended p.answer_is p.output_is p.inside (at_kind ∙ cut_turn (house_of m) lines ended kind (drop 1 input) known l)
          where
            go : (b : Bool) → r ≡ cut_answer b (length (no_line CUT)) → last ≡ written_over (cut_text b) out → length (cut_text b) ≤ length out
                → turn (house_of m) lines ended input (length out) ≡ (if b then ends (no_line CUT) CUT else wants)
                → StepPromise m lines ended input out (lent m.plan m.prices m.districts (whole_behind m.whole r)) last r
            go true e o i t = rw e (promised (ends (no_line CUT) CUT) t (ap (λ (x : List ℕ). ends x CUT) (rw o (take_at (no_line CUT) (drop (length (no_line CUT)) out) (length (no_line CUT)) refl))) o refl i refl tt)
            go false e o i t = rw e (promised wants t refl o refl i refl tt)

        -- the body that is lent
        module _ (fits : 1 + n ≤ length input) where
          pub body_lent : length (take (1 + n - 1) (drop 1 input)) ≡ body_length kind
          body_lent =
              let same : 1 + n - 1 ≡ body_length kind = omega (arith, n-is) in
              rw same (length-take-le (body_length kind) (drop 1 input) (rw (length-drop 1 input, ← n-is) (omega arith)))

          pub whole_step : {left : Lent} {last : List ℕ} {r : Line}
              → LinePromise (record_turn (house_of m) lines kind (take (1 + n - 1) (drop 1 input))) m out left last r → StepPromise m lines ended input out left last (Wrote r)
          whole_step p =
              let same : 1 + n - 1 ≡ body_length kind = omega (arith, n-is) in
              let l : body_length kind ≤ length (drop 1 input) = rw (length-drop 1 input, ← n-is) (omega arith) in
              let t : turn (house_of m) lines ended input (length out) ≡ record_turn (house_of m) lines kind (take (1 + n - 1) (drop 1 input)) =
              at_kind ∙ (whole_turn (house_of m) lines ended kind (drop 1 input) known l ∙ ap (λ (j : ℕ). record_turn (house_of m) lines kind (take j (drop 1 input))) (sym same)) in
              promised (record_turn (house_of m) lines kind (take (1 + n - 1) (drop 1 input))) t p.turn_is p.output_is p.count_is p.inside p.memory_is p.opened_is

-- a record that has a number, told by its kind
module _ (m : Lent) (lines : ℕ) (ended : Bool) (input out : List ℕ) (some-input : length input ≡ 0 → ⊥) (room : LONGEST ≤ length out) (k : ℕ) (k-is : k ≡ get_or input 0 0)
    (known : is_kind k ≡ true) where
  pub number_cut_step : {last : List ℕ} {r : Stepped} → length input < 1 + body_length k → CutPromise ended out last r
      → StepPromise m lines ended input out (lent m.plan m.prices m.districts (whole_behind m.whole r)) last r
  number_cut_step h p = cut_step m lines ended input out some-input room (ap is_kind (sym k-is) ∙ known) (body_length k) (ap body_length k-is) h p

  pub number_whole_step : {left : Lent} {last : List ℕ} {r : Line} → 1 + body_length k ≤ length input → LinePromise (record_turn (house_of m) lines k (body_at k input)) m out left last r
      → StepPromise m lines ended input out left last (Wrote r)
  number_whole_step {left} {last} {r} fits p =
      let same : body_length k ≡ 1 + body_length k - 1 = omega arith in
      whole_step m lines ended input out some-input room (ap is_kind (sym k-is) ∙ known) (body_length k) (ap body_length k-is) fits
      (subst (λ (x : ℕ). LinePromise (record_turn (house_of m) lines x (take (1 + body_length k - 1) (drop 1 input))) m out left last r) k-is
      (subst (λ (j : ℕ). LinePromise (record_turn (house_of m) lines k (take j (drop 1 input))) m out left last r) same p))

-- WHAT IS LENT IS FIT, OR NOT

module _ (m : Lent) where
  pub no_room_unfit : length m.plan < RUN-BYTES → is_fit m ≡ false
  no_room_unfit h = all_false 0 (fit_tests m) (lt-leb RUN-BYTES (length m.plan) h)

  pub prices_unfit : prices_in_range m.prices ≡ false → is_fit m ≡ false
  prices_unfit h = all_false 1 (fit_tests m) h

  pub ledger_unfit : ledger_in_range (ledger_of m.districts m.whole) ≡ false → is_fit m ≡ false
  ledger_unfit h = all_false 3 (fit_tests m) h

  -- as a run's, where each test has passed
  module _ {opened r s : Bool} (room : RUN-BYTES ≤ length m.plan) (r-is : r ≡ prices_in_range m.prices) (listed : not r ≡ false) (all : length m.districts ≡ LEDGER-NUMBERS)
      (s-is : s ≡ ledger_in_range (ledger_of m.districts m.whole)) (entered : not s ≡ false) (sound : opened ≡ sound_of m.plan) where
    pub fit_house : InHouse m opened
    fit_house =
        record { plan_in = record { room = room; state = sym sound }; prices_in = passed r-is listed; size = all; ledger_in = passed s-is entered }

    pub all_fit : is_fit m ≡ true
    all_fit = rw (le-leb RUN-BYTES (length m.plan) room, fit_house.prices_in, eq-eqb (length m.districts) LEDGER-NUMBERS fit_house.size, fit_house.ledger_in)
