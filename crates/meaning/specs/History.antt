-- Demand 3 over the definitions: what holds of the plan that a list of calls puts in. The claim about the functions that run rests on it.
use Rattle.std.specs.Prelude.{ℕ, ◌<◌, ◌≡◌, ◌↔◌, ◌≢◌, ◌⊎◌, Bool, true, ◌&&◌, not, length, get_or, T, eqb}
use mathlib.Core.List.{List, [], ◌∷◌, Memᴰ}
use Rattle.std.proofs.Math.Option.{Option, none, some}
use Rattle.meaning.specs.Basics.{all, is_some}
use Rattle.meaning.specs.Refusals.{PLAN, IN-USE}
use Rattle.meaning.specs.Filters.{Filter, is_before}
use Rattle.meaning.specs.Rules.{Rule, filter_in}
use Rattle.meaning.specs.Plan.{Plan, held, referrers, sound, NamesHeld}
use Rattle.meaning.specs.Reads.{Listed, listing}
use Rattle.meaning.specs.Calls.{open_plan, remove_set, Call, is_cut, set_number, body_of, opened_rooms, opened_settings, refusal, put_in, refusals_from}
use Rattle.meaning.specs.LookBack.{accepted, last_opening, last_content, last_set}

-- strictly in listing order
abbrev pub rising : List Listed → Bool
rising [] = true
rising (l ∷ ls) = all (λ (m : Listed). is_before l.filter m.filter) ls && rising ls

abbrev pub pair_of : Filter → ℕ → Listed
pair_of f n = record { filter = f; set = n }

-- a filter and a set number stand in the listing exactly if the calls, looked back on, gave that number for that filter
abbrev pub ListsExactly : List Listed → (Filter → Option ℕ) → Type 0
ListsExactly ls given = (f : Filter) (n : ℕ) → Memᴰ (pair_of f n) ls ↔ (given f ≡ some n)

abbrev pub no_rule : Rule
no_rule = record { code = []; set = 0 }

-- the call that removes the set whose number stands in a body
abbrev pub removal : List ℕ → Call
removal b = record { operation = remove_set; body = b }

-- what was put in by a list of calls, and what holds of it
pub record PutIn (lacks : List ℕ → Bool) (cs : List Call) : Type 0 where
  -- what is in after the list
  pub plan : Plan
  pub carried : put_in lacks cs ≡ some plan
  -- "It is, since the last accepted opening: that opening's rooms and settings"
  pub opening : List ℕ
  pub opened : last_opening (accepted lacks cs) ≡ some opening
  pub rooms : plan.rooms ≡ opened_rooms opening
  pub settings : plan.settings ≡ opened_settings opening
  -- "and each set or filter added and not since removed, with the content or set number last accepted for it"
  pub sets : (n : ℕ) → held plan n ≡ last_content n (accepted lacks cs)
  pub in_order : T (rising (listing plan))
  pub filters : ListsExactly (listing plan) (λ f. last_set f (accepted lacks cs))
  pub one_listing : (ls : List Listed) → T (rising ls) → ListsExactly ls (λ f. last_set f (accepted lacks cs)) → ls ≡ listing plan
  -- "The plan is sound: no two rules share a filter, and each names a set that exists and fits it"
  pub is_sound : T (sound plan)
  pub distinct : (i j : ℕ) → i < j → j < length plan.rules → filter_in (get_or plan.rules i no_rule) ≢ filter_in (get_or plan.rules j no_rule)
  pub names_held : (r : Rule) → Memᴰ r plan.rules → NamesHeld plan r
  -- "A set that is held can be removed exactly when no rule names it"
  pub removable : (b : List ℕ) → T (not (is_cut (removal b))) → T (is_some (held plan (set_number (body_of (removal b)))))
      → ((refusal lacks (some plan) (removal b) ≡ 0) ↔ (referrers plan (set_number (body_of (removal b))) ≡ 0))
      × ((refusal lacks (some plan) (removal b) ≡ 0) ⊎ (refusal lacks (some plan) (removal b) ≡ IN-USE))

-- every list of calls: either no opening of it is accepted, and nothing is, or the two statements of what was put in agree
abbrev pub EveryList : Type 0
EveryList = (lacks : List ℕ → Bool) (cs : List Call) → ((put_in lacks cs ≡ none) × (accepted lacks cs ≡ [])) ⊎ PutIn lacks cs

-- a list that begins with an accepted opening: "each is refused with the number the refusal table gives over what was in before (PLAN never)"
pub record FromOpening (lacks : List ℕ → Bool) (cs : List Call) : Type 0 where
  pub put_in_lem : PutIn lacks cs
  pub never_plan : T (all (λ (r : ℕ). not (eqb r PLAN)) (refusals_from lacks none cs))

abbrev pub EveryOpenedList : Type 0
EveryOpenedList =
    (lacks : List ℕ → Bool) (b : List ℕ) (cs : List Call) → refusal lacks none (record { operation = open_plan; body = b }) ≡ 0
    → FromOpening lacks (record { operation = open_plan; body = b } ∷ cs)
