-- Document 01's four read calls, and the listing, over a plan (none: the lent memory is no sound plan).
use Rattle.std.specs.Prelude.{ℕ, zero, suc, ◌/◌, ◌%◌, Bool, ◌&&◌, not, List, [], ◌∷◌, map, length, leb, ltb}
use Rattle.std.proofs.Math.Option.{Option, none, some}
use Rattle.std.proofs.Math.ListN.{get_elem?}
use Rattle.meaning.specs.Sizes.{SET-BODY, DIGIT-ROOM}
use Rattle.meaning.specs.Basics.{is_empty, within, is_some}
use Rattle.std.specs.Prelude.{if◌then◌else◌}
use Rattle.meaning.specs.Refusals.{PLAN, ROOM, RANGE, ABSENT, SHORT, first_of}
use Rattle.meaning.specs.Settings.{Settings, dialled_in_range}
use Rattle.meaning.specs.Filters.{Filter}
use Rattle.meaning.specs.Rules.{Rule, filter_in, chosen}
use Rattle.meaning.specs.Actions.{LAST-CONDITIONED, ActionSet}
use Rattle.meaning.specs.Conditioning.{short, Stretch, empty_stretch, stretch_of, value_from, conditioned_from}
use Rattle.meaning.specs.Plan.{Plan, rooms_in, settings_in, held, actions_in, referrers}

-- what a read call gives: a refusal number or 0, and the bytes it writes
pub record Read : Type 0 where
  pub refusal : ℕ
  pub bytes : List ℕ

abbrev pub unread : ℕ → Read
unread r = record { refusal = r; bytes = [] }

abbrev pub read : List ℕ → Read
read bs = record { refusal = 0; bytes = bs }

abbrev pub read_after : ℕ → Read → Read
read_after zero r = r
read_after (suc n) r = unread (suc n)

-- a count, and its refusal number or 0
pub record Count : Type 0 where
  pub refusal : ℕ
  pub number : ℕ

abbrev pub uncounted : ℕ → Count
uncounted r = record { refusal = r; number = 0 }

abbrev pub count_after : ℕ → ℕ → Count
count_after zero n = record { refusal = 0; number = n }
count_after (suc r) n = uncounted (suc r)

-- THE CONDITIONED NUMBER, "for the lookup; outcomes 0 and 1 give none"

unfoldable pub conditioned_by : Settings → List ℕ → Filter → ActionSet → Read
conditioned_by settings ds f s =
    let prefix : ℕ = length f.prefix in
    if is_empty s.cas then read [] else
    if short prefix (length ds) s.cas then unread SHORT else
    read (conditioned_from s.cas (value_from settings.country prefix ds s.cas))

abbrev pub conditioned_under : Plan → List ℕ → Option Rule → Read
conditioned_under p ds none = read []
conditioned_under p ds (some r) = conditioned_by (settings_in p) ds (filter_in r) (actions_in (held p r.set))

abbrev pub conditioned : Option Plan → ℕ → ℕ → List ℕ → Read
conditioned none size class ds = unread PLAN
conditioned (some p) size class ds =
    read_after (first_of ((ltb size DIGIT-ROOM, ROOM) ∷ (not (dialled_in_range class ds), RANGE) ∷ []))
    (conditioned_under p ds (chosen class ds p.rules))

-- THE STRETCH of a value, "1 to 10 (its FA code)": "empty .. if the value isn't taken from the number or anything is refused"

unfoldable pub stretch_by : ℕ → ℕ → Filter → ActionSet → Stretch
stretch_by v n f s =
    if short (length f.prefix) n s.cas then empty_stretch else stretch_of v (length f.prefix) n s.cas

abbrev pub stretch_under : Plan → ℕ → ℕ → Option Rule → Stretch
stretch_under p v n none = empty_stretch
stretch_under p v n (some r) = stretch_by v n (filter_in r) (actions_in (held p r.set))

abbrev pub stretch : Option Plan → ℕ → List ℕ → ℕ → Stretch
stretch none class ds v = empty_stretch
stretch (some p) class ds v =
    if dialled_in_range class ds && within 1 LAST-CONDITIONED v
    then stretch_under p v (length ds) (chosen class ds p.rules) else empty_stretch

-- A SET'S CONTENT, "as the 47 bytes of a kind 1 body"

-- "a set number at or over the room"
abbrev pub over_room : Plan → ℕ → Bool
over_room p n = leb (rooms_in p).sets n

abbrev pub kind1_body : ℕ → Option (List ℕ) → Read
kind1_body n none = unread ABSENT
kind1_body n (some c) = read (n / 256 ∷ n % 256 ∷ c)

abbrev pub set_content : Option Plan → ℕ → ℕ → Read
set_content none size n = unread PLAN
set_content (some p) size n = read_after (first_of ((ltb size SET-BODY, ROOM) ∷ (over_room p n, RANGE) ∷ [])) (kind1_body n (held p n))

-- THE COUNT OF RULES NAMING A SET

abbrev pub referrer_count : Option Plan → ℕ → Count
referrer_count none n = uncounted PLAN
referrer_count (some p) n =
    count_after (first_of ((over_room p n, RANGE) ∷ (not (is_some (held p n)), ABSENT) ∷ [])) (referrers p n)

-- THE LISTING: "A listed rule is class, prefix, length and set"

pub record Listed : Type 0 where
  pub filter : Filter
  pub set : ℕ

abbrev pub listed : Rule → Listed
listed r = record { filter = filter_in r; set = r.set }

unfoldable pub listing : Plan → List Listed
listing p = map listed p.rules

-- how many rules there are
abbrev pub rule_count : Option Plan → Count
rule_count none = uncounted PLAN
rule_count (some p) = count_after 0 (length (listing p))

-- the rule at a place of the listing, with its refusal number or 0: RANGE for a place that is not there (docs/DECISIONS.md, 16)
abbrev pub listed_or : Option Listed → ℕ × Option Listed
listed_or none = (RANGE, none)
listed_or (some l) = (0, some l)

abbrev pub rule_at_place : Option Plan → ℕ → ℕ × Option Listed
rule_at_place none k = (PLAN, none)
rule_at_place (some p) k = listed_or (get_elem? (listing p) k)
