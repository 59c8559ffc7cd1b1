-- What a set's content and the count of its rules read as after an accepted call, by the call's body and what was there before.
use Rattle.std.specs.Prelude.{ℕ, ◌+◌, ◌-◌, ◌≡◌, Bool, true, false, not, List, [], ◌∷◌, length, leb, ltb, eqb, Result}
use Rattle.std.proofs.Math.Option.{Option, none, some}
use Rattle.meaning.specs.Sizes.{SET-BODY}
use Rattle.meaning.specs.Basics.{is_some}
use Rattle.std.specs.Prelude.{if◌then◌else◌}
use Rattle.meaning.specs.Refusals.{ROOM, RANGE, ABSENT, first_of}
use Rattle.meaning.specs.Settings.{rooms_of}
use Rattle.meaning.specs.Filters.{filter_of}
use Rattle.meaning.specs.Rules.{set_named}
use Rattle.meaning.specs.Plan.{Plan, held, referrers}
use Rattle.meaning.specs.Reads.{Read, read_after, kind1_body, Count, count_after}
use Rattle.meaning.specs.Calls.{Operation, open_plan, add_set, replace_set, remove_set, add_rule, change_rule, remove_rule, Call, body_of, opened_rooms, set_number, code_given, set_given}
use Rattle.meaning.specs.LookBack.{content_after}
use Rattle.meaning.specs.Answers.{count_of}
use Rattle.meaning.specs.declared.Refusal.{Refusal}
use Rattle.reads.specs.Promises.{GivesRead, ContentPromise, ReferrersPromise}

-- WHAT A ROOM FOR SETS, A CONTENT AND A COUNT READ AS

abbrev pub content_read : ℕ → ℕ → ℕ → Option (List ℕ) → Read
content_read room size n content = read_after (first_of ((ltb size SET-BODY, ROOM) ∷ (leb room n, RANGE) ∷ [])) (kind1_body n content)

abbrev pub count_read : ℕ → ℕ → Option (List ℕ) → ℕ → Count
count_read room n content number = count_after (first_of ((leb room n, RANGE) ∷ (not (is_some content), ABSENT) ∷ [])) number

-- WHAT AN ACCEPTED CALL LEAVES

abbrev pub room_after : Operation → List ℕ → List ℕ → ℕ
room_after open_plan b rooms = (rooms_of (opened_rooms b)).sets
room_after add_set b rooms = (rooms_of rooms).sets
room_after replace_set b rooms = (rooms_of rooms).sets
room_after remove_set b rooms = (rooms_of rooms).sets
room_after add_rule b rooms = (rooms_of rooms).sets
room_after change_rule b rooms = (rooms_of rooms).sets
room_after remove_rule b rooms = (rooms_of rooms).sets

-- 1 where it is set n that a filter's rule names
abbrev pub names_it : ℕ → Option ℕ → ℕ
names_it n none = 0
names_it n (some k) = if eqb k n then 1 else 0

-- how many rules name set n; `old` is the set that the rule of the body's filter named before
abbrev pub named_after : Operation → List ℕ → ℕ → Option ℕ → ℕ → ℕ
named_after open_plan b n old number = 0
named_after add_set b n old number = number
named_after replace_set b n old number = number
named_after remove_set b n old number = number
named_after add_rule b n old number = number + names_it n (some (set_given b))
named_after change_rule b n old number = number + names_it n (some (set_given b)) - names_it n old
named_after remove_rule b n old number = number - names_it n old

abbrev pub old_set : Plan → List ℕ → Option ℕ
old_set p b = set_named (filter_of (code_given b)) p.rules

-- the call gives or takes set n's content
abbrev pub is_about : Operation → List ℕ → ℕ → Bool
is_about open_plan b n = true
is_about add_set b n = eqb n (set_number b)
is_about replace_set b n = eqb n (set_number b)
is_about remove_set b n = eqb n (set_number b)
is_about add_rule b n = false
is_about change_rule b n = false
is_about remove_rule b n = false

-- after an accepted call over the memory of plan p, every read of the memory that it leaves
pub record ReadsAfter (c : Call) (p : Plan) (before after : List ℕ) : Type 0 where
  pub content : (n : ℕ) (out left : List ℕ) (r : Result ℕ Refusal) → ContentPromise after n out left r
      → GivesRead (content_read (room_after c.operation (body_of c) p.rooms) (length out) n (content_after c.operation (body_of c) n (held p n))) out left r
  pub referrers : (n : ℕ) (r : Result ℕ Refusal) → ReferrersPromise after n r
      → count_of r ≡ count_read (room_after c.operation (body_of c) p.rooms) n (content_after c.operation (body_of c) n (held p n))
      (named_after c.operation (body_of c) n (old_set p (body_of c)) (referrers p n))
  -- every other set as before
  pub other_content : (n : ℕ) (out left : List ℕ) (r : Result ℕ Refusal) → is_about c.operation (body_of c) n ≡ false → ContentPromise after n out left r
      → ContentPromise before n out left r
  pub other_referrers : (n : ℕ) (r : Result ℕ Refusal) → is_about c.operation (body_of c) n ≡ false → names_it n (some (set_given (body_of c))) ≡ 0
      → names_it n (old_set p (body_of c)) ≡ 0 → ReferrersPromise after n r → ReferrersPromise before n r
