-- Document 01, "Digits, classes, settings": classes, the rooms and settings of an opening, and a called number with its lookup.
use Rattle.std.specs.Prelude.{ℕ, ◌+◌, ◌*◌, Bool, ◌&&◌, ◌||◌, List, [], ◌∷◌, length, get_or, leb, eqb}
use Rattle.meaning.specs.Sizes.{COUNTRY-AT, DFLTRN-AT, DELIMITER-A-AT, DELIMITER-B-AT, ANSWERS-AT, ACCEPTING-AT, CLASS-AT, DIALLED-AT, LOOKUP-AT, ENTITY-IN, ASD-IN, GRN-IN, LOOKUP-BYTES, SETS-AT, SET-WIDTH, RULE-WIDTH}
use Rattle.meaning.specs.Basics.{all, all_of, is_zero, within, word, part, is_digit, digits_of, digits_in_range}
use Rattle.std.specs.Prelude.{if◌then◌else◌}

-- CLASSES

-- "Classes are INTL 0, NATL 1, UNKNOWN 2, and three house classes 3, 4, 5"
abbrev pub is_class : ℕ → Bool
is_class c = leb c 5

-- 255: "as incoming"
abbrev pub AS-INCOMING : ℕ
AS-INCOMING = 255

-- "An outgoing class is 0 to 5, or 255"
abbrev pub is_outgoing_class : ℕ → Bool
is_outgoing_class c = is_class c || eqb c AS-INCOMING

-- ROOMS: the first bytes of an opening

pub record Rooms : Type 0 where
  pub sets : ℕ
  pub rules : ℕ

unfoldable pub rooms_of : List ℕ → Rooms
rooms_of b = record { sets = word b 0; rules = word b 2 }

-- "room for sets 1 to 1,024 (001's limit) and for rules 1 to 4,096"
unfoldable pub rooms_in_range : List ℕ → Bool
rooms_in_range b = within 1 1024 (word b 0) && within 1 4096 (word b 2)

-- ROOM: "64 bytes + 48 a set + 24 a rule of the rooms asked"
unfoldable pub bytes_needed : Rooms → ℕ
bytes_needed r = SETS-AT + SET-WIDTH * r.sets + RULE-WIDTH * r.rules

-- SETTINGS: the bytes behind the rooms

-- accepting: "the option that accepts any record" (C-12)
pub record Settings : Type 0 where
  pub country : List ℕ
  pub dfltrn : List ℕ
  pub delimiter_a : List ℕ
  pub delimiter_b : List ℕ
  pub answers : List ℕ
  pub accepting : ℕ

-- "country code 1+3, DFLTRN 1+15, delimiters 1+5 twice, four answers"; C-12: "one more setting byte, the last"
unfoldable pub settings_of : List ℕ → Settings
settings_of b =
    record {
      country = digits_of (part COUNTRY-AT 4 b);
      dfltrn = digits_of (part DFLTRN-AT 16 b);
      delimiter_a = digits_of (part DELIMITER-A-AT 6 b);
      delimiter_b = digits_of (part DELIMITER-B-AT 6 b);
      answers = part ANSWERS-AT 4 b;
      accepting = get_or b ACCEPTING-AT 0;
    }

-- "default country code, 1 to 3 digits; default routing number DFLTRN, 0 to 15 ..; delimiters A and B, 0 to 5 each; .. 1 RELAY, 2 CONNECT, 3 CONTINUE, 4 RELEASECALL";
-- C-12: "0 as before, 1 for success on kind 1"
abbrev pub settings_ranges : List ℕ → List Bool
settings_ranges b =
    digits_in_range 1 3 (part COUNTRY-AT 4 b) ∷ digits_in_range 0 15 (part DFLTRN-AT 16 b) ∷ digits_in_range 0 5 (part DELIMITER-A-AT 6 b)
    ∷ digits_in_range 0 5 (part DELIMITER-B-AT 6 b) ∷ all (within 1 4) (part ANSWERS-AT 4 b)
    ∷ leb (get_or b ACCEPTING-AT 0) 1 ∷ []

unfoldable pub settings_in_range : List ℕ → Bool
settings_in_range b = all_of (settings_ranges b)

-- LOOKUPS AND NUMBERS

-- kind: "0 no record, 1 record without entity, 2 RN, 3 SP"
pub record Lookup : Type 0 where
  pub kind : ℕ
  pub entity : List ℕ
  pub asd : List ℕ
  pub grn : List ℕ

-- the lookup in a number's body: "lookup kind 1, entity 1+15, ASD 1+10, GRN 1+10"
unfoldable pub lookup_of : List ℕ → Lookup
lookup_of b =
    record { kind = get_or b 0 0; entity = digits_of (part ENTITY-IN 16 b); asd = digits_of (part ASD-IN 11 b); grn = digits_of (part GRN-IN 11 b) }

-- "Entity digits: 1 to 15 for kinds 2 and 3, else none"
unfoldable pub entity_in_range : ℕ → List ℕ → Bool
entity_in_range kind s = if leb 2 kind then digits_in_range 1 15 s else digits_in_range 0 0 s

-- "ASD and GRN: 0 to 10 digits each, none for kind 0"
unfoldable pub asd_or_grn_in_range : ℕ → List ℕ → Bool
asd_or_grn_in_range kind s = if is_zero kind then digits_in_range 0 0 s else digits_in_range 0 10 s

abbrev pub lookup_ranges : List ℕ → List Bool
lookup_ranges b =
    leb (get_or b 0 0) 3 ∷ entity_in_range (get_or b 0 0) (part ENTITY-IN 16 b) ∷ asd_or_grn_in_range (get_or b 0 0) (part ASD-IN 11 b)
    ∷ asd_or_grn_in_range (get_or b 0 0) (part GRN-IN 11 b) ∷ []

unfoldable pub lookup_in_range : List ℕ → Bool
lookup_in_range b = all_of (lookup_ranges b)

-- a called number: its class, its digits, and the lookup that comes with it
pub record Number : Type 0 where
  pub class : ℕ
  pub digits : List ℕ
  pub lookup : Lookup

-- a number's body: "class 1, digits 1+32", and the lookup
unfoldable pub number_of : List ℕ → Number
number_of b = record { class = get_or b CLASS-AT 0; digits = digits_of (part DIALLED-AT 33 b); lookup = lookup_of (part LOOKUP-AT LOOKUP-BYTES b) }

abbrev pub number_ranges : List ℕ → List Bool
number_ranges b = is_class (get_or b CLASS-AT 0) ∷ digits_in_range 0 32 (part DIALLED-AT 33 b) ∷ lookup_in_range (part LOOKUP-AT LOOKUP-BYTES b) ∷ []

unfoldable pub number_in_range : List ℕ → Bool
number_in_range b = all_of (number_ranges b)

-- a class and digits that come as themselves: "A number has 0 to 32 digits"
abbrev pub dialled_ranges : ℕ → List ℕ → List Bool
dialled_ranges class ds = is_class class ∷ leb (length ds) 32 ∷ all is_digit ds ∷ []

unfoldable pub dialled_in_range : ℕ → List ℕ → Bool
dialled_in_range class ds = all_of (dialled_ranges class ds)
