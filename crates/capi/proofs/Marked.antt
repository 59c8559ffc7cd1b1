-- The marked examples over the functions that run: whatever meets the promises of the public calls on the bodies of the table gives the table's rows.
use Prim.Native.Nat.{ℕ, zero, suc}
use mathlib.Core.Path.{◌≡◌, refl, ap, ap₂, sym, subst, ◌∙◌}
use mathlib.Core.Bool.{Bool, false, ◌&&◌}
use mathlib.Core.List.{List, [], ◌∷◌, ◌++◌, Memᴰ}
use mathlib.Core.Option.{Option, none, some}
use native.Mathlib.Omega.{arith}
use lib.ListN.{length, take, drop}
use lib.Seq.{take_at}
use lib.Dec.{T, eqb, eqb→eq}
use Rattle.meaning.specs.Sizes.{DIGIT-ROOM}
use Rattle.meaning.specs.Basics.{all, is_zero, written_over}
use Rattle.meaning.specs.Rules.{Rule, chosen_place, rule_at, chosen}
use Rattle.meaning.specs.Plan.{Plan}
use Rattle.meaning.specs.Answer.{Answer, answer}
use Rattle.meaning.specs.Reads.{Read, conditioned}
use Rattle.meaning.specs.Calls.{Operation, open_plan, Call, lacks_bytes, refusal, put_in, refusals_from}
use Rattle.meaning.specs.Answers.{AnswersRead, refusal_of_written, bytes_written, place_chosen, answered_as}
use Rattle.meaning.specs.Examples.{Query, choice, answered, condition, nothing, shown_rule, shown_answer, shown_read, shown_choice, MEMORY, shown, Row, table, Holds}
use Rattle.meaning.specs.declared.Answered.{Answered}
use Rattle.std.specs.Prelude.{Result, Option as Optional}
use Rattle.meaning.specs.declared.Refusal.{Refusal}
use Rattle.meaning.specs.declared.RulePlace.{RulePlace}
use Rattle.meaning.proofs.Tests.{is_true, and_left, and_right}
use Rattle.meaning.proofs.CallKinds.{is_opening, Asks, opens, changes, asks, not_both}
use Rattle.meaning.proofs.Examples.{marked_examples}
use Rattle.plan.specs.State.{state_of}
use Rattle.changes.specs.Promise.{Chain}
use Rattle.changes.proofs.Chains.{FromOpening, from_opening}
use Rattle.number.specs.Promises.{GivesAnswer, AnswerPromise}
use Rattle.reads.specs.Promises.{GivesRead, ConditionedPromise}

-- WHAT THE RESULTS SHOW

abbrev shown_answered : Answered → List ℕ → List ℕ
shown_answered a out = a.refusal ∷ a.outcome ∷ a.class ∷ a.response ∷ a.count ∷ (a.actions ++ (a.digits ∷ take a.digits out))

abbrev shown_written : Result ℕ Refusal → List ℕ → List ℕ
shown_written w out = refusal_of_written w ∷ take (bytes_written w) out

abbrev rule_chosen : Option Plan → Optional RulePlace → List ℕ
rule_chosen none c = []
rule_chosen (some p) c = shown_rule (rule_at p.rules (place_chosen c))

abbrev place_in : Option Plan → ℕ → List ℕ → Option ℕ
place_in none class ds = none
place_in (some p) class ds = chosen_place class ds p.rules

-- what is asked of a memory, of every result that meets the promise
abbrev pub Asked : Query → List ℕ → List ℕ → Type 0
Asked (choice class ds) m result = (c : Optional RulePlace) → place_chosen c ≡ place_in (state_of m) class ds → rule_chosen (state_of m) c ≡ result
Asked (answered b) m result = (out after : List ℕ) (a : Answered) → length out ≡ DIGIT-ROOM → AnswerPromise m b out after a → shown_answered a after ≡ result
Asked (condition class ds) m result = (out after : List ℕ) (w : Result ℕ Refusal) → length out ≡ DIGIT-ROOM → ConditionedPromise m class ds out after w → shown_written w after ≡ result
Asked nothing m result = [] ≡ result

-- a row over any memory of just the bytes that its rooms need: each call is answered with its number, and what is asked with the row's result
pub record RunsAs (r : Row) : Type 0 where
  pub runs : (m end numbers : List ℕ) → length m ≡ MEMORY → Chain m r.calls numbers end → (numbers ≡ r.numbers) × Asked r.query end r.result

-- ONE RESULT

front : (xs out : List ℕ) → take (length xs) (written_over xs out) ≡ xs
front xs out = take_at xs (drop (length xs) out) (length xs) refl

gives_answer : (a : Answer) (out after : List ℕ) (r : Answered) → GivesAnswer a out after r → shown_answered r after ≡ shown_answer a
gives_answer a out after r g = rw (g.result, g.buffer) (ap (λ (l : List ℕ). a.refusal ∷ a.outcome ∷ a.class ∷ a.response ∷ a.count ∷ (a.actions ++ (length a.digits ∷ l))) (front a.digits out))

gives_read : (read : Read) (out after : List ℕ) (w : Result ℕ Refusal) → GivesRead read out after w → shown_written w after ≡ shown_read read
gives_read read out after w g =
    rw (g.result.refusal, g.result.bytes, g.buffer) (ap (λ (l : List ℕ). read.refusal ∷ l) (front read.bytes out))

chosen_shown : (s : Option Plan) (class : ℕ) (ds : List ℕ) (c : Optional RulePlace) → place_chosen c ≡ place_in s class ds → rule_chosen s c ≡ shown_choice s class ds
unfolding chosen
chosen_shown none class ds c e = refl
chosen_shown (some p) class ds c e = ap (λ (o : Option ℕ). shown_rule (rule_at p.rules o)) e

-- over a memory that holds what was put in
asked : (q : Query) (cs : List Call) (m result : List ℕ) → state_of m ≡ put_in (lacks_bytes MEMORY) cs → shown q cs ≡ result → Asked q m result
asked (choice class ds) cs m result s e = λ c p. chosen_shown (state_of m) class ds c p ∙ (ap (λ (o : Option Plan). shown_choice o class ds) s ∙ e)
asked (answered b) cs m result s e = λ out after a h p.
    gives_answer (answer (state_of m) (length out) b) out after a p ∙ (ap₂ (λ (o : Option Plan) (n : ℕ). shown_answer (answer o n b)) s h ∙ e)
asked (condition class ds) cs m result s e = λ out after w h p.
    gives_read (conditioned (state_of m) (length out) class ds) out after w p ∙ (ap₂ (λ (o : Option Plan) (n : ℕ). shown_read (conditioned o n class ds)) s h ∙ e)
asked nothing cs m result s e = e

-- EVERY ROW BEGINS WITH AN OPENING

opens_with : List Call → List ℕ → Bool
opens_with [] ns = false
opens_with (c ∷ cs) [] = false
opens_with (c ∷ cs) (n ∷ ns) = is_opening c.operation && is_zero n

opens_first : Row → Bool
opens_first r = opens_with r.calls r.numbers

table_opens : T (all opens_first table)
unfolding opens_first opens_with table
table_opens = tt

head_zero : (x n : ℕ) (xs ns : List ℕ) → x ∷ xs ≡ n ∷ ns → T (is_zero n) → x ≡ 0
head_zero x n xs ns e t = let q : x ≡ n = cc in q ∙ eqb→eq n 0 t

-- calls that begin with an accepted opening, over any memory of just the bytes that its rooms need
opened_runs : (b : List ℕ) (cs : List Call) (numbers : List ℕ) (q : Query) (result : List ℕ)
    → refusal (lacks_bytes MEMORY) none (record { operation = open_plan; body = b }) ≡ 0
    → refusals_from (lacks_bytes MEMORY) none (record { operation = open_plan; body = b } ∷ cs) ≡ numbers → shown q (record { operation = open_plan; body = b } ∷ cs) ≡ result
    → (m end ns : List ℕ) → length m ≡ MEMORY → Chain m (record { operation = open_plan; body = b } ∷ cs) ns end → (ns ≡ numbers) × Asked q end result
opened_runs b cs numbers q result z e f m end ns h t =
    let calls : List Call = record { operation = open_plan; body = b } ∷ cs in
    let accepted : refusal (lacks_bytes (length m)) none (record { operation = open_plan; body = b }) ≡ 0 = rw h z in
    let o = from_opening t accepted in
    let state : state_of end ≡ put_in (lacks_bytes MEMORY) calls = o.state ∙ ap (λ (n : ℕ). put_in (lacks_bytes n) calls) h in
    (o.numbers ∙ (ap (λ (n : ℕ). refusals_from (lacks_bytes n) none calls) h ∙ e), asked q calls end result state f)

by_operation : (o : Operation) (b : List ℕ) (cs : List Call) (n : ℕ) (numbers : List ℕ) (q : Query) (result : List ℕ) → T (is_opening o && is_zero n)
    → refusals_from (lacks_bytes MEMORY) none (record { operation = o; body = b } ∷ cs) ≡ n ∷ numbers → shown q (record { operation = o; body = b } ∷ cs) ≡ result
    → (m end ns : List ℕ) → length m ≡ MEMORY → Chain m (record { operation = o; body = b } ∷ cs) ns end → (ns ≡ n ∷ numbers) × Asked q end result
by_operation o b cs n numbers q result t e f = go (asks o) t e f
  where
    go : {o : Operation} → Asks o → T (is_opening o && is_zero n) → refusals_from (lacks_bytes MEMORY) none (record { operation = o; body = b } ∷ cs) ≡ n ∷ numbers
        → shown q (record { operation = o; body = b } ∷ cs) ≡ result
        → (m end ns : List ℕ) → length m ≡ MEMORY → Chain m (record { operation = o; body = b } ∷ cs) ns end → (ns ≡ n ∷ numbers) × Asked q end result
    go opens t e f = opened_runs b cs (n ∷ numbers) q result (head_zero _ n _ numbers e t) e f
    go {o} (changes c) t e f = not_both c.other (is_true (is_opening o) (and_left (is_opening o) (is_zero n) t))

by_calls : (cs : List Call) (numbers : List ℕ) (q : Query) (result : List ℕ) → T (opens_with cs numbers)
    → refusals_from (lacks_bytes MEMORY) none cs ≡ numbers → shown q cs ≡ result
    → (m end ns : List ℕ) → length m ≡ MEMORY → Chain m cs ns end → (ns ≡ numbers) × Asked q end result
unfolding opens_with
by_calls [] numbers q result t e f = absurd t
by_calls (c ∷ cs) [] q result t e f = absurd t
by_calls (c ∷ cs) (n ∷ numbers) q result t e f = by_operation c.operation c.body cs n numbers q result t e f

every_row : (rs : List Row) → T (all opens_first rs) → (r : Row) → Memᴰ r rs → T (opens_first r)
every_row [] t r m = elim m [ ]
every_row (x ∷ xs) t r (Memᴰ.head e) = rw e (and_left (opens_first x) (all opens_first xs) t)
every_row (x ∷ xs) t r (Memᴰ.tail m) = every_row xs (and_right (opens_first x) (all opens_first xs) t) r m

-- every row of the table, over every chain of memories in which each step meets the promise of its call, and over every result that meets its promise
pub marked_runs : (r : Row) → Memᴰ r table → RunsAs r
unfolding opens_first
marked_runs r m =
    let h = marked_examples r m in
    record { runs = by_calls r.calls r.numbers r.query r.result (every_row table table_opens r m) h.numbers h.result }
