-- What was put in, in document 01's own words, looking back over the list of calls: "It is, since the last accepted opening: that
-- opening's rooms and settings, and each set or filter added and not since removed, with the content or set number last accepted for it."
use Rattle.std.specs.Prelude.{ℕ, Bool, List, [], ◌∷◌, eqb}
use Rattle.std.proofs.Math.Option.{Option, none, some}
use Rattle.std.specs.Prelude.{if◌then◌else◌}
use Rattle.meaning.specs.Filters.{Filter, filter_of, is_same}
use Rattle.meaning.specs.Plan.{Plan}
use Rattle.meaning.specs.Calls.{Operation, open_plan, add_set, replace_set, remove_set, add_rule, change_rule, remove_rule, Call, body_of, set_number, content_given, code_given, set_given, is_accepted, after}

-- the accepted calls of a list, the newest first
abbrev pub accepted_from : (List ℕ → Bool) → Option Plan → List Call → List Call → List Call
accepted_from lacks s past [] = past
accepted_from lacks s past (c ∷ cs) = accepted_from lacks (after lacks s c) (if is_accepted lacks s c then c ∷ past else past) cs

abbrev pub accepted : (List ℕ → Bool) → List Call → List Call
accepted lacks cs = accepted_from lacks none [] cs

-- the body of the last accepted opening
abbrev pub opening_after : Operation → List ℕ → Option (List ℕ) → Option (List ℕ)
opening_after open_plan b o = some b
opening_after add_set b o = o
opening_after replace_set b o = o
opening_after remove_set b o = o
opening_after add_rule b o = o
opening_after change_rule b o = o
opening_after remove_rule b o = o

abbrev pub last_opening : List Call → Option (List ℕ)
last_opening [] = none
last_opening (c ∷ past) = opening_after c.operation (body_of c) (last_opening past)

-- the content of set n: what the last accepted call about it gave; none since an opening or a removal
abbrev pub content_after : Operation → List ℕ → ℕ → Option (List ℕ) → Option (List ℕ)
content_after open_plan b n o = none
content_after add_set b n o = if eqb n (set_number b) then some (content_given b) else o
content_after replace_set b n o = if eqb n (set_number b) then some (content_given b) else o
content_after remove_set b n o = if eqb n (set_number b) then none else o
content_after add_rule b n o = o
content_after change_rule b n o = o
content_after remove_rule b n o = o

abbrev pub last_content : ℕ → List Call → Option (List ℕ)
last_content n [] = none
last_content n (c ∷ past) = content_after c.operation (body_of c) n (last_content n past)

-- the set number of filter f: what the last accepted call about it gave; none since an opening or a removal
abbrev pub set_after : Operation → List ℕ → Filter → Option ℕ → Option ℕ
set_after open_plan b f o = none
set_after add_set b f o = o
set_after replace_set b f o = o
set_after remove_set b f o = o
set_after add_rule b f o = if is_same f (filter_of (code_given b)) then some (set_given b) else o
set_after change_rule b f o = if is_same f (filter_of (code_given b)) then some (set_given b) else o
set_after remove_rule b f o = if is_same f (filter_of (code_given b)) then none else o

abbrev pub last_set : Filter → List Call → Option ℕ
last_set f [] = none
last_set f (c ∷ past) = set_after c.operation (body_of c) f (last_set f past)
