-- Every width of a body and of lent memory, and every place in them that more than one crate looks at: each said once.
-- src/sizes.rt has the same for the code; `sizes` ties the two.
use Rattle.std.specs.Prelude.{ℕ, ◌+◌, ◌*◌, List, [], ◌∷◌}

-- AN OPENING: "rooms 2+2", and the settings: "country code 1+3, DFLTRN 1+15, delimiters 1+5 twice, four answers", and "one more setting byte, the last" (C-12)

abbrev pub ROOMS-BYTES : ℕ
ROOMS-BYTES = 4

-- places in the settings; a digit string is its count, and then its digits
abbrev pub COUNTRY-AT : ℕ
COUNTRY-AT = 0

abbrev pub COUNTRY-DIGITS-AT : ℕ
COUNTRY-DIGITS-AT = COUNTRY-AT + 1

abbrev pub DFLTRN-AT : ℕ
DFLTRN-AT = COUNTRY-DIGITS-AT + 3

abbrev pub DELIMITER-A-AT : ℕ
DELIMITER-A-AT = DFLTRN-AT + 1 + 15

abbrev pub DELIMITER-B-AT : ℕ
DELIMITER-B-AT = DELIMITER-A-AT + 1 + 5

abbrev pub ANSWERS-AT : ℕ
ANSWERS-AT = DELIMITER-B-AT + 1 + 5

abbrev pub ANSWERS-END : ℕ
ANSWERS-END = ANSWERS-AT + 4

abbrev pub ACCEPTING-AT : ℕ
ACCEPTING-AT = ANSWERS-END

abbrev pub SETTINGS-BYTES : ℕ
SETTINGS-BYTES = ACCEPTING-AT + 1

abbrev pub OPENING-BYTES : ℕ
OPENING-BYTES = ROOMS-BYTES + SETTINGS-BYTES

-- A SET: "number 2", and its content: "class 1, CA 12 pairs, SA 8, FA 12"

abbrev pub SET-NUMBER-BYTES : ℕ
SET-NUMBER-BYTES = 2

-- places in a content
abbrev pub OUTGOING-AT : ℕ
OUTGOING-AT = 0

abbrev pub CA-AT : ℕ
CA-AT = OUTGOING-AT + 1

abbrev pub SA-AT : ℕ
SA-AT = CA-AT + 12 * 2

abbrev pub FA-AT : ℕ
FA-AT = SA-AT + 8

abbrev pub FA-END : ℕ
FA-END = FA-AT + 12

abbrev pub CONTENT-BYTES : ℕ
CONTENT-BYTES = FA-END

abbrev pub SET-BODY : ℕ
SET-BODY = SET-NUMBER-BYTES + CONTENT-BYTES

-- A RULE: its filter, "class 1, prefix 1+16, length 1", and "set 2"

-- the class of a filter, and of a number
abbrev pub CLASS-AT : ℕ
CLASS-AT = 0

-- the prefix's count of digits, and its digits
abbrev pub PREFIX-AT : ℕ
PREFIX-AT = 1

abbrev pub PREFIX-DIGITS-AT : ℕ
PREFIX-DIGITS-AT = PREFIX-AT + 1

abbrev pub LENGTH-AT : ℕ
LENGTH-AT = PREFIX-DIGITS-AT + 16

abbrev pub FILTER-BYTES : ℕ
FILTER-BYTES = LENGTH-AT + 1

-- the set that a rule names
abbrev pub SET-AT : ℕ
SET-AT = FILTER-BYTES

abbrev pub RULE-BODY : ℕ
RULE-BODY = SET-AT + SET-NUMBER-BYTES

-- AN ENTRY FOR A DIFFERENCE (C-20): "1 left, 2 right, 3 both; the filter in 19; the left and right set in 2 each"

abbrev pub DIFFERENCE-FILTER-AT : ℕ
DIFFERENCE-FILTER-AT = 1

abbrev pub LEFT-SET-AT : ℕ
LEFT-SET-AT = DIFFERENCE-FILTER-AT + FILTER-BYTES

abbrev pub RIGHT-SET-AT : ℕ
RIGHT-SET-AT = LEFT-SET-AT + SET-NUMBER-BYTES

abbrev pub DIFFERENCE-BYTES : ℕ
DIFFERENCE-BYTES = RIGHT-SET-AT + SET-NUMBER-BYTES

-- A NUMBER: "class 1, digits 1+32, lookup kind 1, entity 1+15, ASD 1+10, GRN 1+10". Two names for its width: the part that values are taken from, and the whole.

-- the number's count of digits, and its digits
abbrev pub DIALLED-AT : ℕ
DIALLED-AT = 1

abbrev pub DIALLED-DIGITS-AT : ℕ
DIALLED-DIGITS-AT = DIALLED-AT + 1

abbrev pub LOOKUP-AT : ℕ
LOOKUP-AT = DIALLED-DIGITS-AT + 32

-- places in a lookup, behind its kind
abbrev pub ENTITY-IN : ℕ
ENTITY-IN = 1

abbrev pub ASD-IN : ℕ
ASD-IN = ENTITY-IN + 1 + 15

abbrev pub GRN-IN : ℕ
GRN-IN = ASD-IN + 1 + 10

abbrev pub LOOKUP-BYTES : ℕ
LOOKUP-BYTES = GRN-IN + 1 + 10

abbrev pub VALUE-BYTES : ℕ
VALUE-BYTES = LOOKUP-AT + LOOKUP-BYTES

abbrev pub NUMBER-BYTES : ℕ
NUMBER-BYTES = VALUE-BYTES

-- A CALL RECORD (C-11): "account (4 bytes ..), district (2 ..), seconds (4 ..), billed (4 ..), then a number record's body"

abbrev pub DISTRICT-AT : ℕ
DISTRICT-AT = 4

abbrev pub SECONDS-AT : ℕ
SECONDS-AT = DISTRICT-AT + 2

abbrev pub BILLED-AT : ℕ
BILLED-AT = SECONDS-AT + 4

-- where the number's body begins
abbrev pub CALL-HEAD : ℕ
CALL-HEAD = BILLED-AT + 4

abbrev pub CALL-BYTES : ℕ
CALL-BYTES = CALL-HEAD + NUMBER-BYTES

-- A ROW OF A PRICE LIST (C-11): "prefix 1+16, price 4"

abbrev pub CODE-BYTES : ℕ
CODE-BYTES = 1 + 16

abbrev pub PRICE-BODY : ℕ
PRICE-BODY = CODE-BYTES + 4

-- a record is its kind and its body; no body is longer than a call record's
abbrev pub LONGEST-RECORD : ℕ
LONGEST-RECORD = 1 + CALL-BYTES

-- ROOM: "digit buffer under 35"
abbrev pub DIGIT-ROOM : ℕ
DIGIT-ROOM = 35

-- THE PLAN'S MEMORY (docs/LAYOUT.md): the header, then the set slots, then the rule slots

abbrev pub HEADER-BYTES : ℕ
HEADER-BYTES = 64

-- the count of rules, the rooms and the settings
abbrev pub RULES-AT : ℕ
RULES-AT = 4

abbrev pub ROOMS-AT : ℕ
ROOMS-AT = 8

abbrev pub ROOMS-END : ℕ
ROOMS-END = ROOMS-AT + ROOMS-BYTES

abbrev pub SETTINGS-AT : ℕ
SETTINGS-AT = ROOMS-END

abbrev pub SETTINGS-END : ℕ
SETTINGS-END = SETTINGS-AT + SETTINGS-BYTES

-- where the set slots begin
abbrev pub SETS-AT : ℕ
SETS-AT = HEADER-BYTES

-- a set slot: held 1, content, and a two-byte number, 0 for now
abbrev pub CONTENT-AT : ℕ
CONTENT-AT = 1

abbrev pub COUNT-AT : ℕ
COUNT-AT = CONTENT-AT + CONTENT-BYTES

abbrev pub SET-WIDTH : ℕ
SET-WIDTH = COUNT-AT + 2

-- a rule slot: the body of a rule, and three unused bytes
abbrev pub RULE-WIDTH : ℕ
RULE-WIDTH = RULE-BODY + 3

-- THE MEMORY OF A PRICE LIST (docs/LAYOUT.md): the count of rows, and a slot for each of "up to 256 rows"; a row's slot has the shape of a rule's, with the
-- price from where a rule has its set, and a byte behind it

abbrev pub PRICE-ROOM : ℕ
PRICE-ROOM = 256

abbrev pub ROWS-AT : ℕ
ROWS-AT = 2

abbrev pub PRICE-AT : ℕ
PRICE-AT = SET-AT

abbrev pub PRICE-END : ℕ
PRICE-END = PRICE-AT + 4

abbrev pub PRICES-BYTES : ℕ
PRICES-BYTES = ROWS-AT + RULE-WIDTH * PRICE-ROOM

-- A LEDGER (C-11): "district (2, up to 511)"; "count, due and billed for each district", a signed number each

abbrev pub DISTRICTS : ℕ
DISTRICTS = 512

abbrev pub LEDGER-NUMBERS : ℕ
LEDGER-NUMBERS = 3 * DISTRICTS

-- A RUN OF THE PROGRAM: "at most 64 sets and 512 rules", and the bytes that such a plan needs

abbrev pub RUN-SETS : ℕ
RUN-SETS = 64

abbrev pub RUN-RULES : ℕ
RUN-RULES = 512

abbrev pub RUN-BYTES : ℕ
RUN-BYTES = SETS-AT + SET-WIDTH * RUN-SETS + RULE-WIDTH * RUN-RULES

-- all of them, in the order of this page
abbrev pub sizes : List ℕ
sizes =
    ROOMS-BYTES ∷ COUNTRY-AT ∷ COUNTRY-DIGITS-AT ∷ DFLTRN-AT ∷ DELIMITER-A-AT ∷ DELIMITER-B-AT ∷ ANSWERS-AT ∷ ANSWERS-END ∷ ACCEPTING-AT ∷ SETTINGS-BYTES
    ∷ OPENING-BYTES ∷ SET-NUMBER-BYTES ∷ OUTGOING-AT ∷ CA-AT ∷ SA-AT ∷ FA-AT ∷ FA-END ∷ CONTENT-BYTES ∷ SET-BODY ∷ CLASS-AT ∷ PREFIX-AT
    ∷ PREFIX-DIGITS-AT ∷ LENGTH-AT ∷ FILTER-BYTES ∷ SET-AT ∷ RULE-BODY ∷ DIALLED-AT ∷ DIALLED-DIGITS-AT ∷ LOOKUP-AT ∷ ENTITY-IN ∷ ASD-IN ∷ GRN-IN
    ∷ LOOKUP-BYTES ∷ VALUE-BYTES ∷ NUMBER-BYTES ∷ DISTRICT-AT ∷ SECONDS-AT ∷ BILLED-AT ∷ CALL-HEAD ∷ CALL-BYTES ∷ CODE-BYTES ∷ PRICE-BODY ∷ LONGEST-RECORD ∷ DIGIT-ROOM ∷ HEADER-BYTES ∷ RULES-AT ∷ ROOMS-AT ∷ ROOMS-END ∷ SETTINGS-AT
    ∷ SETTINGS-END ∷ SETS-AT ∷ CONTENT-AT ∷ COUNT-AT ∷ SET-WIDTH ∷ RULE-WIDTH ∷ PRICE-ROOM ∷ ROWS-AT ∷ PRICE-AT ∷ PRICE-END ∷ PRICES-BYTES ∷ DISTRICTS ∷ LEDGER-NUMBERS ∷ RUN-SETS ∷ RUN-RULES ∷ RUN-BYTES ∷ []

-- those of an entry for a difference (C-20), in this order
abbrev pub difference_sizes : List ℕ
difference_sizes = DIFFERENCE-FILTER-AT ∷ LEFT-SET-AT ∷ RIGHT-SET-AT ∷ DIFFERENCE-BYTES ∷ []
