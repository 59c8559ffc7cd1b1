-- The lines of opening and provisioning, and the plan that they leave.
use Prim.Native.Nat.{ℕ, ◌+◌, ◌≤◌, ◌<◌}
use mathlib.Core.Path.{◌≡◌, refl, ap, ap₂, sym, ◌∙◌}
use mathlib.Core.Bool.{Bool, true, false, ◌||◌, ◌&&◌}
use mathlib.Core.List.{List}
use mathlib.Core.Option.{Option, none, some}
use native.Mathlib.Omega.{arith}
use lib.ListN.{length}
use lib.Dec.{eqb}
use borrow.Author.Tests.{leb-true, ne_eqb}
use Rattle.std.specs.Prelude.{Result, Ok, Err, is_ok}
use Rattle.meaning.specs.Sizes.{OPENING-BYTES}
use Rattle.meaning.specs.Basics.{is_zero, is_some, written_over}
use Rattle.std.specs.Prelude.{if◌then◌else◌}
use Rattle.meaning.specs.Plan.{Plan}
use Rattle.meaning.specs.Calls.{Operation, open_plan, Call, OPEN-PLAN, REMOVE-RULE, LIST, LOSSES, is_call, body_length, kind_of, operation_of, body_of, refusal, made, after}
use Rattle.meaning.specs.Answers.{edit_of, number_of_edit, number_of_refusal, number_of_provisioned}
use Rattle.meaning.specs.declared.Refusal.{Refusal}
use Rattle.meaning.specs.declared.kinds.Edit.{Edit}
use Rattle.meaning.specs.declared.kinds.Edit.TheVariants.{AddSet, ReplaceSet, RemoveSet, AddRule, ChangeRule, RemoveRule}
use Rattle.meaning.specs.Records.{accepted_line, lacks_program_room, House, with_plan, record_text, record_house}
use Rattle.plan.specs.Layout.{plan_of}
use Rattle.plan.specs.State.{sound_of, state_of}
use Rattle.changes.specs.Promise.{memory_of, calls}
use Rattle.meaning.proofs.Tests.{is_true}
use Rattle.meaning.proofs.Telling.{refusal_number}
use Rattle.meaning.proofs.CallKinds.{is_opening, Asks, opens, changes, asks, kind_back, kind_of_lem, edits}
use Rattle.run.specs.Runs.{InRun, RunProvides}
use Rattle.run.proofs.RunLaws.{memory_kept, run_state}
use Rattle.text.specs.Writes.{Writes}
use Rattle.text.proofs.Lines.{front_is}
use Rattle.record.specs.Turns.{Turn, wrote, record_part, record_turn}
use Rattle.record.specs.Promises.{plan_house, line_of, house_after, ReadPromise, PlanPromise}
use Rattle.record.specs.declared.Run.{Run}
use Rattle.record.specs.declared.Line.{Line}

-- WHETHER A PLAN IS THERE

pub sound_some : (m : List ℕ) → sound_of m ≡ is_some (state_of m)
unfolding state_of
sound_some m = go (sound_of m)
  where
    go : (b : Bool) → b ≡ is_some (if b then some (plan_of m) else none)
    go true = refl
    go false = refl

made_some : (o : Operation) (s : Option Plan) (b : List ℕ) → is_some (made o s b) ≡ (is_some s || is_opening o)
made_some o s b = go (asks o) s
  where
    go : {o : Operation} → Asks o → (s : Option Plan) → is_some (made o s b) ≡ (is_some s || is_opening o)
    go opens none = refl
    go opens (some p) = refl
    go (changes c) none = rw (c.made_is none b, c.other)
    go (changes c) (some p) = rw (c.made_is (some p) b)

-- the kind that opens is that of the opening
pub opening_kind : (k : ℕ) → is_call k ≡ true → is_opening (operation_of k) ≡ is_zero k
opening_kind k h = ap is_zero (kind_of_lem k h)

-- a call leaves a plan where one was, and where it is an opening that is accepted
after_some : (o : Operation) (s : Option Plan) (body : List ℕ)
    → is_some (after lacks_program_room s (calls o body)) ≡ (is_some s || (is_opening o && is_zero (refusal lacks_program_room s (calls o body))))
unfolding after
after_some o s body = go (is_zero (refusal lacks_program_room s (calls o body)))
  where
    behind : (a b : Bool) → (a || b) ≡ (a || (b && true))
    behind true b = refl
    behind false true = refl
    behind false false = refl

    before : (a b : Bool) → a ≡ (a || (b && false))
    before true b = refl
    before false true = refl
    before false false = refl

    go : (b : Bool) → is_some (if b then made o s (body_of (calls o body)) else s) ≡ (is_some s || (is_opening o && b))
    go true = made_some o s (body_of (calls o body)) ∙ behind (is_some s) (is_opening o)
    go false = before (is_some s) (is_opening o)

-- THE RECORD OF A CALL

call_not : (n k : ℕ) → REMOVE-RULE < n → is_call k ≡ true → eqb k n ≡ false
unfolding is_call
call_not n k more h = ne_eqb k n (λ q. omega (arith, leb-true k REMOVE-RULE h, q))

call_turn : (s : House) (lines : ℕ) (o : Operation) (body : List ℕ)
    → record_turn s lines (kind_of o) body
    ≡ wrote (accepted_line (refusal lacks_program_room s.plan (calls o body))) (1 + body_length (kind_of o)) (with_plan (after lacks_program_room s.plan (calls o body)) s) 0
unfolding record_turn record_part record_text record_house
call_turn s lines o body =
    let back = kind_back o in
    let h : is_call (kind_of o) ≡ true = is_true (is_call (kind_of o)) back.1 in
    rw (call_not LIST (kind_of o) (omega arith) h, call_not LOSSES (kind_of o) (omega arith) h, h, back.0)

module _ (m : List ℕ) (run : Run) (i : InRun m run.opened) (o : Operation) (body : List ℕ) (size : length body ≡ body_length (kind_of o)) where
  call_line : {out left last : List ℕ} {n number : ℕ} {r : Line} (there : Bool) → RunProvides (calls o body) m left number
      → Writes (accepted_line number) out last n → there ≡ (run.opened || (is_opening o && is_zero number)) → r ≡ line_of (1 + length body) n there 0 run.whole
      → PlanPromise (record_turn (plan_house m) run.lines (kind_of o) body) m run out left last r
  call_line {out} {left} {last} {n} {number} there p w f e =
      let c : Call = calls o body in
      let plan : Option Plan = after lacks_program_room (state_of m) c in
      let state : state_of left ≡ plan = (run_state c m left number i.room p).0 in
      let text : accepted_line number ≡ accepted_line (refusal lacks_program_room (state_of m) c) = ap accepted_line p.number_is in
      let flag : sound_of left ≡ there =
      sound_some left
      ∙ (ap is_some state
      ∙ (after_some o (state_of m) body
      ∙ (ap₂ (λ (b : Bool) (j : ℕ). b || (is_opening o && is_zero j)) (sym (sound_some m) ∙ i.state) (sym p.number_is) ∙ sym f))) in
      rw (call_turn (plan_house m) run.lines o body, e)
      (record {
        turn_is =
            ap (λ (x : List ℕ). wrote x (1 + length body) (plan_house left) 0) (front_is w ∙ text)
            ∙ ap₂ (λ (j : ℕ) (q : Option Plan). wrote (accepted_line (refusal lacks_program_room (state_of m) c)) (1 + j) (with_plan q (plan_house m)) 0) size state;
        output_is = w.buffer_is ∙ ap (λ (x : List ℕ). written_over x out) text;
        count_is = w.count_is ∙ ap length text;
        inside = w.inside;
        memory_is = p.memory_is;
        opened_is = flag;
        whole_is = refl;
      })

-- whether a plan is there behind an opening
pub was_open : {opened there : Bool} (ok : Bool) → opened ≡ true → there ≡ opened → there ≡ (opened || ok)
was_open ok a b = b ∙ rw a

pub now_open : {opened ok there : Bool} → opened ≡ false → there ≡ ok → there ≡ (opened || ok)
now_open a b = rw (a, b)

module _ (m : List ℕ) (run : Run) (i : InRun m run.opened) (body : List ℕ) where
  -- an opening that is accepted leaves a plan
  pub opening_line : {out left last : List ℕ} {n : ℕ} {r : Line} (answer : Result Unit Refusal) (there : Bool) → length body ≡ OPENING-BYTES
      → RunProvides (calls open_plan body) m left (number_of_provisioned answer) → Writes (accepted_line (number_of_provisioned answer)) out last n
      → there ≡ (run.opened || is_ok answer) → r ≡ line_of (1 + length body) n there 0 run.whole
      → PlanPromise (record_turn (plan_house m) run.lines OPEN-PLAN body) m run out left last r
  unfolding body_length
  opening_line answer there size p w f e =
      call_line m run i open_plan body size there p w (f ∙ ap (λ (b : Bool). run.opened || b) (accepted_is answer)) e
    where
      accepted_is : (r : Result Unit Refusal) → is_ok r ≡ is_zero (number_of_provisioned r)
      accepted_is (Ok u) = refl
      accepted_is (Err r) = sym (ne_eqb (number_of_refusal r) 0 (refusal_number r))

  -- an edit leaves one where one was
  pub edit_line : {out left last : List ℕ} {n number : ℕ} {r : Line} (edit : Edit) → length body ≡ body_length (number_of_edit edit)
      → RunProvides (calls (edit_of edit) body) m left number → Writes (accepted_line number) out last n → r ≡ line_of (1 + length body) n run.opened 0 run.whole
      → PlanPromise (record_turn (plan_house m) run.lines (number_of_edit edit) body) m run out left last r
  edit_line edit size p w e = call_line m run i (edit_of edit) body size run.opened p w (rw (edits edit) (same run.opened)) e
    where
      same : (b : Bool) → b ≡ (b || false)
      same true = refl
      same false = refl

pub edit_most : (e : Edit) → number_of_edit e ≤ LIST
edit_most AddSet = omega arith
edit_most ReplaceSet = omega arith
edit_most RemoveSet = omega arith
edit_most AddRule = omega arith
edit_most ChangeRule = omega arith
edit_most RemoveRule = omega arith

-- A RECORD THAT READS: the plan stays

pub kept_line : {t : Turn} {m out last : List ℕ} {run : Run} {r : Line} → sound_of m ≡ run.opened → ReadPromise t m run out last r → PlanPromise t m run out m last r
kept_line {t} {m} {out} {last} {run} {r} s p =
    record {
      turn_is = p.turn_is;
      output_is = p.output_is;
      count_is = p.count_is;
      inside = p.inside;
      memory_is = sym (memory_kept m) ∙ ap (λ (x : Turn). memory_of (house_after x (plan_house m)).plan m) p.turn_is;
      opened_is = s ∙ sym p.opened_is;
      whole_is = p.whole_is;
    }
