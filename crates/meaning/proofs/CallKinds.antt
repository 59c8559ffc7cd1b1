-- The calls by their kinds: the opening, and every other call, which asks for a plan.
use Prim.Native.Nat.{ℕ, ◌+◌, ◌≤◌}
use mathlib.Core.Path.{◌≡◌, refl, ap, sym, ◌∙◌}
use mathlib.Core.Logic.{◌≢◌}
use mathlib.Core.Bool.{Bool, true, false, true≢false}
use mathlib.Core.List.{List}
use mathlib.Core.Option.{Option, none, some}
use native.Mathlib.Omega.{arith}
use lib.Dec.{T, eqb, eqb→eq}
use borrow.Author.Tests.{leb-true, ne_eqb}
use Rattle.meaning.specs.Basics.{is_zero}
use Rattle.meaning.specs.Refusals.{PLAN, Line, first_of}
use Rattle.meaning.specs.Filters.{filter_of}
use Rattle.meaning.specs.Rules.{Rule, insert, rename, without}
use Rattle.meaning.specs.Plan.{Plan, with_slot, with_rules}
use Rattle.meaning.specs.Calls.{Operation, open_plan, add_set, replace_set, remove_set, add_rule, change_rule, remove_rule, OPEN-PLAN, ADD-SET, REPLACE-SET, REMOVE-SET, ADD-RULE, CHANGE-RULE, REMOVE-RULE, is_call, kind_of, operation_of, lines_of, set_number, content_given, code_given, set_given, rule_given, add_set_lines, replace_set_lines, remove_set_lines, add_rule_lines, change_rule_lines, remove_rule_lines, over_plan, on_plan, made}
use Rattle.meaning.specs.Answers.{edit_of}
use Rattle.meaning.specs.declared.kinds.Edit.{Edit}
use Rattle.meaning.specs.declared.kinds.Edit.TheVariants.{AddSet, ReplaceSet, RemoveSet, AddRule, ChangeRule, RemoveRule}
use Rattle.meaning.specs.LookBack.{opening_after}
use Rattle.meaning.proofs.Tests.{at_below}

abbrev pub is_opening : Operation → Bool
is_opening o = is_zero (kind_of o)

-- a call that asks for a plan: its checks and what it makes are over that plan, whose rooms and settings stay
pub record Change (o : Operation) : Type 0 where
  pub other : is_opening o ≡ false
  pub lines : Plan → List ℕ → List Line
  pub change : List ℕ → Plan → Plan
  pub lines_are : (lacks : List ℕ → Bool) (s : Option Plan) (b : List ℕ) → lines_of o lacks s b ≡ over_plan s (λ (p : Plan). lines p b)
  pub made_is : (s : Option Plan) (b : List ℕ) → made o s b ≡ on_plan s (change b)
  pub rooms_stay : (b : List ℕ) (p : Plan) → (change b p).rooms ≡ p.rooms
  pub settings_stay : (b : List ℕ) (p : Plan) → (change b p).settings ≡ p.settings
  pub opening_stays : (b : List ℕ) (before : Option (List ℕ)) → opening_after o b before ≡ before

-- every call opens a plan or asks for one
pub data Asks : Operation → Type 0 where
  opens : Asks open_plan
  changes : {o : Operation} → Change o → Asks o

-- a change of one set's slot, and of the rules
module _ (o : Operation) (other : is_opening o ≡ false) (lines : Plan → List ℕ → List Line)
    (lines_are : (lacks : List ℕ → Bool) (s : Option Plan) (b : List ℕ) → lines_of o lacks s b ≡ over_plan s (λ (p : Plan). lines p b))
    (opening_stays : (b : List ℕ) (before : Option (List ℕ)) → opening_after o b before ≡ before) where
  on_slot : (slot : List ℕ → Option (List ℕ)) → ((s : Option Plan) (b : List ℕ) → made o s b ≡ on_plan s (with_slot (set_number b) (slot b))) → Asks o
  unfolding with_slot
  on_slot slot made_is =
      changes
      (record {
        other = other;
        lines = lines;
        change = λ b. with_slot (set_number b) (slot b);
        lines_are = lines_are;
        made_is = made_is;
        rooms_stay = λ b p. refl;
        settings_stay = λ b p. refl;
        opening_stays = opening_stays;
      })

  on_rules : (rules : List ℕ → List Rule → List Rule) → ((s : Option Plan) (b : List ℕ) → made o s b ≡ on_plan s (λ (p : Plan). with_rules (rules b p.rules) p)) → Asks o
  unfolding with_rules
  on_rules rules made_is =
      changes
      (record {
        other = other;
        lines = lines;
        change = λ b p. with_rules (rules b p.rules) p;
        lines_are = lines_are;
        made_is = made_is;
        rooms_stay = λ b p. refl;
        settings_stay = λ b p. refl;
        opening_stays = opening_stays;
      })

pub asks : (o : Operation) → Asks o
asks open_plan = opens
asks add_set = on_slot add_set refl add_set_lines (λ lacks s b. refl) (λ b o. refl) (λ b. some (content_given b)) (λ s b. refl)
asks replace_set = on_slot replace_set refl replace_set_lines (λ lacks s b. refl) (λ b o. refl) (λ b. some (content_given b)) (λ s b. refl)
asks remove_set = on_slot remove_set refl remove_set_lines (λ lacks s b. refl) (λ b o. refl) (λ b. none) (λ s b. refl)
asks add_rule = on_rules add_rule refl add_rule_lines (λ lacks s b. refl) (λ b o. refl) (λ b. insert (rule_given b)) (λ s b. refl)
asks change_rule = on_rules change_rule refl change_rule_lines (λ lacks s b. refl) (λ b o. refl) (λ b. rename (filter_of (code_given b)) (set_given b)) (λ s b. refl)
asks remove_rule = on_rules remove_rule refl remove_rule_lines (λ lacks s b. refl) (λ b o. refl) (λ b. without (filter_of (code_given b))) (λ s b. refl)

-- an edit does not open
pub edits : (e : Edit) → is_opening (edit_of e) ≡ false
edits AddSet = refl
edits ReplaceSet = refl
edits RemoveSet = refl
edits AddRule = refl
edits ChangeRule = refl
edits RemoveRule = refl

-- no test is both
pub not_both : {A : Type 0} {t : Bool} → t ≡ false → t ≡ true → A
not_both e h = absurd (true≢false (sym h ∙ e))

-- over no plan every other call is refused with PLAN
pub plan_lines : (o : Operation) (lacks : List ℕ → Bool) (b : List ℕ) → is_opening o ≡ false → first_of (lines_of o lacks none b) ≡ PLAN
plan_lines o lacks b e = go (asks o) e
  where
    go : {o : Operation} → Asks o → is_opening o ≡ false → first_of (lines_of o lacks none b) ≡ PLAN
    go opens e = not_both e refl
    go (changes c) e = ap first_of (c.lines_are lacks none b)

-- the kind of a call is one, and leads back to it
pub kind_back : (o : Operation) → (operation_of (kind_of o) ≡ o) × T (is_call (kind_of o))
unfolding operation_of is_call
kind_back open_plan = (refl, tt)
kind_back add_set = (refl, tt)
kind_back replace_set = (refl, tt)
kind_back remove_set = (refl, tt)
kind_back add_rule = (refl, tt)
kind_back change_rule = (refl, tt)
kind_back remove_rule = (refl, tt)

-- and so does every kind of a call
pub kind_of_lem : (k : ℕ) → is_call k ≡ true → kind_of (operation_of k) ≡ k
unfolding operation_of is_call
kind_of_lem k c =
    eqb→eq (kind_of (operation_of k)) k (at_below (λ (j : ℕ). eqb (kind_of (operation_of j)) j) (REMOVE-RULE + 1) tt k (omega (arith, leb-true k REMOVE-RULE c)))

-- every kind but the opening's is another call's
pub other_call : (k : ℕ) → is_call k ≡ true → k ≢ OPEN-PLAN → is_opening (operation_of k) ≡ false
other_call k c other = rw (kind_of_lem k c) (ne_eqb k OPEN-PLAN other)

-- the last kind of a call is the one that is none of the others
pub last_kind : (k : ℕ) → is_call k ≡ true → k ≢ OPEN-PLAN → k ≢ ADD-SET → k ≢ REPLACE-SET → k ≢ REMOVE-SET → k ≢ ADD-RULE → k ≢ CHANGE-RULE → k ≡ REMOVE-RULE
unfolding is_call
last_kind k c n0 n1 n2 n3 n4 n5 = let least : REMOVE-RULE ≤ k = omega arith in omega (arith, leb-true k REMOVE-RULE c)
