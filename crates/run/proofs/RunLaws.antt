-- How opening and provisioning in a run meet their promise: a call over a plan does not look at the room; an opening within the
-- rooms of a run has the bytes that it needs; any other lacks room in a run just as in a memory of 0 bytes.
use Prim.Native.Nat.{ℕ, ◌≤◌, ◌<◌}
use mathlib.Core.Path.{◌≡◌, refl, ap, sym, ◌∙◌}
use mathlib.Core.Logic.{◌≢◌}
use mathlib.Core.Bool.{Bool, true, false, ◌||◌, not}
use mathlib.Core.List.{List}
use mathlib.Core.Option.{Option, none}
use native.Mathlib.Omega.{arith}
use lib.ListN.{length}
use lib.Seq.{get_or-take, take_all}
use lib.Dec.{T, ltb, eqb, lit<}
use borrow.Author.Tests.{lt-ltb, le-ltb, ltb-false, ne_eqb, eqb-true, eqb-false}
use Rattle.meaning.specs.Sizes.{ROOMS-BYTES, OPENING-BYTES, RUN-SETS, RUN-RULES, RUN-BYTES}
use Rattle.meaning.specs.Basics.{is_zero, word}
use Rattle.std.specs.Prelude.{if◌then◌else◌}
use Rattle.meaning.specs.Refusals.{PLAN, first_of}
use Rattle.meaning.specs.Settings.{rooms_of, bytes_needed}
use Rattle.meaning.specs.Plan.{Plan}
use Rattle.meaning.specs.Calls.{Operation, open_plan, Call, body_length, body_of, opened_rooms, opening_lines, lacks_bytes, lines_of, refusal, made, is_accepted, after}
use Rattle.meaning.specs.Answers.{edit_of, number_of_edit}
use Rattle.meaning.specs.declared.kinds.Edit.{Edit}
use Rattle.meaning.specs.Records.{lacks_program_room}
use Rattle.meaning.proofs.Tests.{true_is, is_false, false_is, or_left_false, or_right_false, passed_at}
use Rattle.meaning.proofs.Soundness.{accepted_passed}
use Rattle.plan.specs.Layout.{plan_of}
use Rattle.plan.specs.State.{sound_of, state_of}
use Rattle.plan.proofs.ImageLaws.{sound_memory, state_some, state_none}
use Rattle.changes.specs.Promise.{memory_of, memory_after, Provides, calls}
use Rattle.changes.proofs.PromiseLaws.{unsound}
use Rattle.meaning.proofs.CallKinds.{is_opening, Asks, opens, changes, asks, not_both, edits}
use Rattle.changes.proofs.Chains.{after_call}
use Rattle.run.specs.Runs.{RunProvides}

-- A CALL THAT IS REFUSED

-- a memory is the image of its plan, if it has one, and the rest
pub memory_kept : (m : List ℕ) → memory_of (state_of m) m ≡ m
unfolding plan_of
memory_kept m = go (sound_of m) refl
  where
    go : (b : Bool) → sound_of m ≡ b → memory_of (state_of m) m ≡ m
    go true e = rw (state_some m e) (sym (sound_memory m (true_is (sound_of m) e)).bytes)
    go false e = rw (state_none m e)

module _ (c : Call) (m : List ℕ) where
  refused_after : refusal lacks_program_room (state_of m) c ≢ 0 → after lacks_program_room (state_of m) c ≡ state_of m
  unfolding after
  refused_after h = rw (ne_eqb (refusal lacks_program_room (state_of m) c) 0 h)

  -- so what is left of the memory is the memory
  refused_memory : refusal lacks_program_room (state_of m) c ≢ 0 → memory_of (after lacks_program_room (state_of m) c) m ≡ m
  refused_memory h = ap (λ (s : Option Plan). memory_of s m) (refused_after h) ∙ memory_kept m

  pub run_refused : (n : ℕ) → n ≡ refusal lacks_program_room (state_of m) c → n ≢ 0 → RunProvides c m m n
  run_refused n e h = record { number_is = e; memory_is = sym (refused_memory (λ q. h (e ∙ q))) }

  -- A CALL WITH THE SAME NUMBER, BY THE MEMORY'S BYTES AND BY THE ROOM OF A RUN

  abbrev SameNumber : Type 0
  SameNumber = refusal (lacks_bytes (length m)) (state_of m) c ≡ refusal lacks_program_room (state_of m) c

  same_after : SameNumber → after (lacks_bytes (length m)) (state_of m) c ≡ after lacks_program_room (state_of m) c
  unfolding after
  same_after e = ap (λ (n : ℕ). if is_zero n then made c.operation (state_of m) (body_of c) else state_of m) e

  bytes_memory : memory_after c m ≡ memory_of (after (lacks_bytes (length m)) (state_of m) c) m
  unfolding memory_after after
  bytes_memory = go (is_accepted (lacks_bytes (length m)) (state_of m) c)
    where
      go : (t : Bool) → (if t then memory_of (made c.operation (state_of m) (body_of c)) m else m)
          ≡ memory_of (if t then made c.operation (state_of m) (body_of c) else state_of m) m
      go true = refl
      go false = sym (memory_kept m)

  same_memory : SameNumber → memory_after c m ≡ memory_of (after lacks_program_room (state_of m) c) m
  same_memory e = bytes_memory ∙ ap (λ (s : Option Plan). memory_of s m) (same_after e)

  provided : (left : List ℕ) (n : ℕ) → SameNumber → Provides c m left n → RunProvides c m left n
  provided left n e p = record { number_is = p.number_is ∙ e; memory_is = p.memory_is ∙ same_memory e }

-- WHAT THE CHECKS OF A CALL ASK ABOUT THE ROOM: an opening alone, and of the rooms alone

same_lines : (o : Operation) (lacks other : List ℕ → Bool) (s : Option Plan) (b : List ℕ) → (is_opening o ≡ true → lacks (opened_rooms b) ≡ other (opened_rooms b))
    → lines_of o lacks s b ≡ lines_of o other s b
unfolding opening_lines
same_lines o lacks other s b h = go (asks o) h
  where
    go : {o : Operation} → Asks o → (is_opening o ≡ true → lacks (opened_rooms b) ≡ other (opened_rooms b)) → lines_of o lacks s b ≡ lines_of o other s b
    go opens h = rw (h refl)
    go (changes c) h = c.lines_are lacks s b ∙ sym (c.lines_are other s b)

same_number : (c : Call) (lacks other : List ℕ → Bool) (s : Option Plan) → (is_opening c.operation ≡ true → lacks (opened_rooms (body_of c)) ≡ other (opened_rooms (body_of c)))
    → refusal lacks s c ≡ refusal other s c
unfolding refusal
same_number c lacks other s h = rw (same_lines c.operation lacks other s (body_of c) h)

-- where an opening is accepted, it does not lack room
opened_room : (o : Operation) (lacks : List ℕ → Bool) (s : Option Plan) (b : List ℕ) → first_of (lines_of o lacks s b) ≡ 0 → is_opening o ≡ true → lacks (opened_rooms b) ≡ false
unfolding opening_lines
opened_room o lacks s b e h = go (asks o) e h
  where
    go : {o : Operation} → Asks o → first_of (lines_of o lacks s b) ≡ 0 → is_opening o ≡ true → lacks (opened_rooms b) ≡ false
    go opens e h = is_false (lacks (opened_rooms b)) (passed_at 1 (opening_lines lacks b) tt e)
    go (changes c) e h = not_both c.other h

-- the memory of a run has the bytes for every room of it
run_room : (size : ℕ) (rooms : List ℕ) → RUN-BYTES ≤ size → lacks_program_room rooms ≡ false → lacks_bytes size rooms ≡ false
unfolding lacks_program_room bytes_needed
run_room size rooms h e =
    let sets : ℕ = (rooms_of rooms).sets in
    let rules : ℕ = (rooms_of rooms).rules in
    let t : T (not (ltb RUN-SETS sets || ltb RUN-RULES rules)) = false_is (ltb RUN-SETS sets || ltb RUN-RULES rules) e in
    let few : sets ≤ RUN-SETS = ltb-false RUN-SETS sets (is_false (ltb RUN-SETS sets) (or_left_false (ltb RUN-SETS sets) (ltb RUN-RULES rules) t)) in
    let fewer : rules ≤ RUN-RULES = ltb-false RUN-RULES rules (is_false (ltb RUN-RULES rules) (or_right_false (ltb RUN-SETS sets) (ltb RUN-RULES rules) t)) in
    le-ltb size (bytes_needed (rooms_of rooms)) (omega arith)

-- a plan needs bytes
no_room : (rooms : List ℕ) → lacks_bytes 0 rooms ≡ true
unfolding bytes_needed
no_room rooms = lt-ltb 0 (bytes_needed (rooms_of rooms)) (omega arith)

-- CALLS OVER A PLAN

changed : (o : Operation) (m b left : List ℕ) (n : ℕ) → is_opening o ≡ false → Provides (calls o b) m left n → RunProvides (calls o b) m left n
changed o m b left n e p =
    provided (calls o b) m left n (same_number (calls o b) (lacks_bytes (length m)) lacks_program_room (state_of m) (not_both e)) p

-- every edit is such a call
module _ (e : Edit) (m b : List ℕ) where
  pub changed_edit : (left : List ℕ) (n : ℕ) → Provides (calls (edit_of e) b) m left n → RunProvides (calls (edit_of e) b) m left n
  changed_edit left n p = changed (edit_of e) m b left n (edits e) p

  -- over no plan each of them is refused
  pub unopened : length b ≡ body_length (number_of_edit e) → sound_of m ≡ false → RunProvides (calls (edit_of e) b) m m PLAN
  unopened size s = changed_edit m PLAN (unsound (edit_of e) m b (edits e) (omega arith) s)

-- OPENING: `sets` and `rules` are the rooms that the body asks for

asked_room : (b : List ℕ) → lacks_program_room (opened_rooms b) ≡ (ltb RUN-SETS (word b 0) || ltb RUN-RULES (word b 2))
unfolding lacks_program_room rooms_of
asked_room b = rw (get_or-take ROOMS-BYTES b 0 0 (lit< tt), get_or-take ROOMS-BYTES b 1 0 (lit< tt), get_or-take ROOMS-BYTES b 2 0 (lit< tt), get_or-take ROOMS-BYTES b 3 0 (lit< tt))

pub over_sets : (b : List ℕ) (sets : ℕ) → sets ≡ word b 0 → RUN-SETS < sets → lacks_program_room (opened_rooms b) ≡ true
over_sets b sets e h = asked_room b ∙ rw (lt-ltb RUN-SETS (word b 0) (omega arith))

pub over_rules : (b : List ℕ) (rules : ℕ) → rules ≡ word b 2 → RUN-RULES < rules → lacks_program_room (opened_rooms b) ≡ true
over_rules b rules e h = asked_room b ∙ (rw (lt-ltb RUN-RULES (word b 2) (omega arith)) (go (ltb RUN-SETS (word b 0))))
  where
    go : (t : Bool) → (t || true) ≡ true
    go true = refl
    go false = refl

pub within_both : (b : List ℕ) (sets rules : ℕ) → sets ≡ word b 0 → rules ≡ word b 2 → sets ≤ RUN-SETS → rules ≤ RUN-RULES → lacks_program_room (opened_rooms b) ≡ false
within_both b sets rules e f h k = asked_room b ∙ rw (le-ltb RUN-SETS (word b 0) (omega arith), le-ltb RUN-RULES (word b 2) (omega arith))

module _ (m b : List ℕ) (size : length b ≡ OPENING-BYTES) where
  whole_body : body_of (calls open_plan b) ≡ b
  unfolding body_length
  whole_body = take_all OPENING-BYTES b (omega arith)

  opening_number : refusal lacks_program_room (state_of m) (calls open_plan b) ≡ first_of (opening_lines lacks_program_room b)
  unfolding refusal body_length
  opening_number = rw (le-ltb (length b) OPENING-BYTES (omega arith), whole_body)

  -- over the limits: "more is ROOM there"
  pub opened_over : (n : ℕ) → n ≡ first_of (opening_lines (lacks_bytes 0) b) → lacks_program_room (opened_rooms b) ≡ true → RunProvides (calls open_plan b) m m n
  opened_over n e h =
      let same : first_of (opening_lines (lacks_bytes 0) b) ≡ first_of (opening_lines lacks_program_room b) =
      ap first_of (same_lines open_plan (lacks_bytes 0) lacks_program_room none b (λ q. no_room (opened_rooms b) ∙ sym h)) in
      run_refused (calls open_plan b) m n (e ∙ (same ∙ sym opening_number))
      (λ q. not_both (opened_room open_plan lacks_program_room none b (sym (e ∙ same) ∙ q) refl) h)

  -- within them
  pub opened_within : (left : List ℕ) (n : ℕ) → RUN-BYTES ≤ length m → lacks_program_room (opened_rooms b) ≡ false → Provides (calls open_plan b) m left n
      → RunProvides (calls open_plan b) m left n
  opened_within left n h e p =
      provided (calls open_plan b) m left n
      (same_number (calls open_plan b) (lacks_bytes (length m)) lacks_program_room (state_of m)
      (λ q. rw whole_body (run_room (length m) (opened_rooms b) h e ∙ sym e)))
      p

-- WHAT ANY CALL OF A RUN LEAVES: the state that the definition says, and as many bytes

-- a call that a run accepts has the bytes that it needs
accepted_same : (c : Call) (m : List ℕ) → RUN-BYTES ≤ length m → refusal lacks_program_room (state_of m) c ≡ 0 → SameNumber c m
accepted_same c m h e =
    same_number c (lacks_bytes (length m)) lacks_program_room (state_of m) (λ q. let r = room q in run_room (length m) (opened_rooms (body_of c)) h r ∙ sym r)
  where
    room : is_opening c.operation ≡ true → lacks_program_room (opened_rooms (body_of c)) ≡ false
    room = opened_room c.operation lacks_program_room (state_of m) (body_of c) (accepted_passed lacks_program_room (state_of m) c e).checks

pub run_state : (c : Call) (m left : List ℕ) (n : ℕ) → RUN-BYTES ≤ length m → RunProvides c m left n
    → (state_of left ≡ after lacks_program_room (state_of m) c) × (length left ≡ length m)
run_state c m left n h p = go (eqb (refusal lacks_program_room (state_of m) c) 0) refl
  where
    go : (t : Bool) → eqb (refusal lacks_program_room (state_of m) c) 0 ≡ t → (state_of left ≡ after lacks_program_room (state_of m) c) × (length left ≡ length m)
    go true e =
        let same = accepted_same c m h (eqb-true (refusal lacks_program_room (state_of m) c) 0 e) in
        let memory : left ≡ memory_after c m = p.memory_is ∙ sym (same_memory c m same) in
        (ap state_of memory ∙ ((after_call c m).state ∙ same_after c m same), ap length memory ∙ (after_call c m).size)
    go false e =
        let refused = eqb-false (refusal lacks_program_room (state_of m) c) 0 e in
        let memory : left ≡ m = p.memory_is ∙ refused_memory c m refused in
        (ap state_of memory ∙ sym (refused_after c m refused), ap length memory)
