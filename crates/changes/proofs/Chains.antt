-- What any chain of calls does to the state: each call is answered with the refusal table's number over what was put in before, and what is in
-- the memory is what was put in.
use Prim.Native.Nat.{ℕ, ◌≤◌}
use mathlib.Core.Path.{◌≡◌, refl, ap, ap₂, subst, ◌∙◌}
use mathlib.Core.Bool.{Bool, true, false}
use mathlib.Core.List.{List, ◌∷◌, ◌++◌}
use mathlib.Core.Option.{Option, none, some}
use native.Mathlib.Omega.{arith}
use lib.ListN.{length, drop, length-append, length-drop}
use lib.Dec.{nltb→le}
use borrow.Author.Tests.{eqb-true}
use Rattle.meaning.specs.Refusals.{first_of}
use Rattle.meaning.specs.Settings.{rooms_of, bytes_needed}
use Rattle.meaning.specs.Plan.{Plan, rooms_in, fresh}
use Rattle.meaning.specs.Calls.{Operation, open_plan, Call, body_of, opened_rooms, opening_lines, lacks_bytes, lines_of, refusal, made, is_accepted, after, put_in_from, put_in, refusals_from}
use Rattle.meaning.proofs.Tests.{true_is, passed_at}
use Rattle.meaning.proofs.CallKinds.{Asks, opens, changes, asks}
use Rattle.meaning.proofs.Soundness.{Sound, SoundIf, accepted_passed, accepted_sound}
use Rattle.plan.specs.Layout.{image, plan_of}
use Rattle.plan.specs.State.{sound_of, state_of}
use Rattle.plan.proofs.ImageLaws.{image_size, state_image, sound_memory, state_some, state_none}
use Rattle.changes.specs.Promise.{memory_of, memory_after, Provides, Chain, done, next}

-- THE STATE OF A MEMORY IS SOUND, AND FITS

-- what is known of the state of a memory of this length
pub record Holds (size : ℕ) (p : Plan) : Type 0 where
  pub is_sound : Sound p
  pub fits : bytes_needed (rooms_in p) ≤ size

abbrev pub HoldsIf : ℕ → Option Plan → Type 0
HoldsIf size none = Unit {0}
HoldsIf size (some p) = Holds size p

pub state_holds : (m : List ℕ) → HoldsIf (length m) (state_of m)
unfolding plan_of
state_holds m = go (sound_of m) refl
  where
    go : (b : Bool) → sound_of m ≡ b → HoldsIf (length m) (state_of m)
    go true e = let s = sound_memory m (true_is (sound_of m) e) in rw (state_some m e) (record { is_sound = s.plan; fits = s.fits })
    go false e = rw (state_none m e) tt

sound_if : (size : ℕ) (s : Option Plan) → HoldsIf size s → SoundIf s
sound_if size none h = tt
sound_if size (some p) h = h.is_sound

-- WHAT AN ACCEPTED CALL MAKES

-- it makes a plan that fits: an opening by its own check, any other call over a plan that fits
made_holds : (o : Operation) (size : ℕ) (s : Option Plan) (b : List ℕ) → HoldsIf size s → SoundIf (made o s b) → first_of (lines_of o (lacks_bytes size) s b) ≡ 0
    → (q : Plan) × (made o s b ≡ some q) × Holds size q
unfolding opening_lines fresh
made_holds o size s b h k e = go (asks o) s h k e
  where
    go : {o : Operation} → Asks o → (s : Option Plan) → HoldsIf size s → SoundIf (made o s b) → first_of (lines_of o (lacks_bytes size) s b) ≡ 0
        → (q : Plan) × (made o s b ≡ some q) × Holds size q
    go opens s h k e =
        (_, refl, record { is_sound = k; fits = nltb→le size (bytes_needed (rooms_of (opened_rooms b))) (passed_at 1 (opening_lines (lacks_bytes size) b) tt e) })
    go (changes c) none h k e = absurd (omega (arith, e, ap first_of (c.lines_are (lacks_bytes size) none b)))
    go (changes c) (some p) h k e =
        (c.change b p, c.made_is (some p) b, record { is_sound = subst SoundIf (c.made_is (some p) b) k; fits = rw (c.rooms_stay b p) h.fits })

-- THE MEMORY AFTER A CALL

pub record After (c : Call) (m : List ℕ) : Type 0 where
  pub state : state_of (memory_after c m) ≡ after (lacks_bytes (length m)) (state_of m) c
  pub size : length (memory_after c m) ≡ length m

-- the image of a plan that fits, over the front of a memory
over_size : (q : Plan) (m : List ℕ) → Holds (length m) q → length (image q ++ drop (bytes_needed (rooms_in q)) m) ≡ length m
over_size q m h =
    let fits : bytes_needed (rooms_in q) ≤ length m = h.fits in
    rw (length-append (image q) (drop (bytes_needed (rooms_in q)) m), image_size q h.is_sound, length-drop (bytes_needed (rooms_in q)) m) (omega arith)

pub after_call : (c : Call) (m : List ℕ) → After c m
unfolding memory_after after
after_call c m = go (is_accepted (lacks_bytes (length m)) (state_of m) c) refl
  where
    accept : refusal (lacks_bytes (length m)) (state_of m) c ≡ 0
        → (state_of (memory_of (made c.operation (state_of m) (body_of c)) m) ≡ made c.operation (state_of m) (body_of c))
        × (length (memory_of (made c.operation (state_of m) (body_of c)) m) ≡ length m)
    accept e =
        let lacks : List ℕ → Bool = lacks_bytes (length m) in
        let sound = accepted_sound lacks (state_of m) c (sound_if (length m) (state_of m) (state_holds m)) e in
        let t = made_holds c.operation (length m) (state_of m) (body_of c) (state_holds m) sound (accepted_passed lacks (state_of m) c e).checks in
        rw t.1 (state_image t.0 t.2.is_sound (drop (bytes_needed (rooms_in t.0)) m), over_size t.0 m t.2)

    go : (b : Bool) → is_accepted (lacks_bytes (length m)) (state_of m) c ≡ b → After c m
    go true e =
        let r = accept (eqb-true (refusal (lacks_bytes (length m)) (state_of m) c) 0 e) in
        record { state = rw e r.0; size = rw e r.1 }
    go false e = record { state = rw e; size = rw e }

-- so what meets its promise keeps the memory's length
pub keeps_length : (c : Call) (m after : List ℕ) (n : ℕ) → Provides c m after n → length after ≡ length m
keeps_length c m after n p = ap length p.memory_is ∙ (after_call c m).size

-- CHAINS

pub chain_size : {m end : List ℕ} {cs : List Call} {rs : List ℕ} → Chain m cs rs end → length end ≡ length m
chain_size done = refl
chain_size (next {c} {m = m} p t) = chain_size t ∙ keeps_length c m _ _ p

pub chain_numbers : {m end : List ℕ} {cs : List Call} {rs : List ℕ} → Chain m cs rs end → rs ≡ refusals_from (lacks_bytes (length m)) (state_of m) cs
chain_numbers done = refl
chain_numbers (next {c} {cs} {m = m} {between = b} p t) =
    let size : length b ≡ length m = keeps_length c m b _ p in
    let state : state_of b ≡ after (lacks_bytes (length m)) (state_of m) c = ap state_of p.memory_is ∙ (after_call c m).state in
    ap₂ ◌∷◌ p.number_is (chain_numbers t ∙ ap₂ (λ n s. refusals_from (lacks_bytes n) s cs) size state)

pub chain_state : {m end : List ℕ} {cs : List Call} {rs : List ℕ} → Chain m cs rs end → state_of end ≡ put_in_from (lacks_bytes (length m)) (state_of m) cs
chain_state done = refl
chain_state (next {c} {cs} {m = m} {between = b} p t) =
    let size : length b ≡ length m = keeps_length c m b _ p in
    let state : state_of b ≡ after (lacks_bytes (length m)) (state_of m) c = ap state_of p.memory_is ∙ (after_call c m).state in
    chain_state t ∙ ap₂ (λ n s. put_in_from (lacks_bytes n) s cs) size state

-- A CHAIN THAT BEGINS WITH AN ACCEPTED OPENING: what was there before does not matter

abbrev opening : List ℕ → Call
opening b = record { operation = open_plan; body = b }

pub same_refusal : (lacks : List ℕ → Bool) (s : Option Plan) (b : List ℕ) → refusal lacks s (opening b) ≡ refusal lacks none (opening b)
unfolding refusal
same_refusal lacks s b = refl

afresh : (lacks : List ℕ → Bool) (s : Option Plan) (b : List ℕ) → refusal lacks none (opening b) ≡ 0 → after lacks s (opening b) ≡ after lacks none (opening b)
unfolding after
afresh lacks s b e = rw (same_refusal lacks s b, e)

pub record FromOpening (m end : List ℕ) (cs : List Call) (rs : List ℕ) : Type 0 where
  pub numbers : rs ≡ refusals_from (lacks_bytes (length m)) none cs
  pub state : state_of end ≡ put_in (lacks_bytes (length m)) cs
  pub size : length end ≡ length m

pub from_opening : {m end b : List ℕ} {cs : List Call} {rs : List ℕ} → Chain m (opening b ∷ cs) rs end
    → refusal (lacks_bytes (length m)) none (opening b) ≡ 0 → FromOpening m end (opening b ∷ cs) rs
from_opening {m} {end} {b} {cs} {rs} t e =
    let lacks : List ℕ → Bool = lacks_bytes (length m) in
    let same : after lacks (state_of m) (opening b) ≡ after lacks none (opening b) = afresh lacks (state_of m) b e in
    record {
      numbers = chain_numbers t ∙ ap₂ ◌∷◌ (same_refusal lacks (state_of m) b) (ap (λ s. refusals_from lacks s cs) same);
      state = chain_state t ∙ ap (λ s. put_in_from lacks s cs) same;
      size = chain_size t;
    }
