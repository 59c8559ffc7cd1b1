-- Document 01, "Action sets": what the bytes of a set's content hold, and their RANGE.
use Rattle.std.specs.Prelude.{ℕ, Bool, true, false, ◌&&◌, List, [], ◌∷◌, get_or, leb, eqb}
use Rattle.meaning.specs.Sizes.{OUTGOING-AT, CA-AT, SA-AT, FA-AT}
use Rattle.meaning.specs.Basics.{all, all_of, is_zero, within, part}
use Rattle.std.specs.Prelude.{if◌then◌else◌}
use Rattle.meaning.specs.Settings.{is_outgoing_class}

-- THE VALUES, by their FA codes: "1 CC, 2 AC, 3 SN, 4 DN, 5 ZN, 6 FPFX, 7 to 10 PFXA to PFXD, 11 RN, 12 SP, 13 ASD, 14 GRN, 15 and 16 delimiters A and B"

abbrev pub CC : ℕ
CC = 1

abbrev pub AC : ℕ
AC = 2

abbrev pub SN : ℕ
SN = 3

abbrev pub DN : ℕ
DN = 4

abbrev pub ZN : ℕ
ZN = 5

-- the last value that conditioning sets, PFXD
abbrev pub LAST-CONDITIONED : ℕ
LAST-CONDITIONED = 10

abbrev pub RN : ℕ
RN = 11

abbrev pub SP : ℕ
SP = 12

abbrev pub ASD : ℕ
ASD = 13

abbrev pub GRN : ℕ
GRN = 14

abbrev pub DELIMITER-A : ℕ
DELIMITER-A = 15

abbrev pub DELIMITER-B : ℕ
DELIMITER-B = 16

abbrev pub fa_codes : List ℕ
fa_codes = CC ∷ AC ∷ SN ∷ DN ∷ ZN ∷ LAST-CONDITIONED ∷ RN ∷ SP ∷ ASD ∷ GRN ∷ DELIMITER-A ∷ DELIMITER-B ∷ []

-- SERVICE ACTIONS, by their codes

abbrev pub INPRTG : ℕ
INPRTG = 1

abbrev pub CDPNNP : ℕ
CDPNNP = 2

abbrev pub ASDLKUP : ℕ
ASDLKUP = 3

abbrev pub GRNLKUP : ℕ
GRNLKUP = 4

abbrev pub CDIAL : ℕ
CDIAL = 5

abbrev pub sa_codes : List ℕ
sa_codes = INPRTG ∷ CDPNNP ∷ ASDLKUP ∷ GRNLKUP ∷ CDIAL ∷ []

-- CONDITIONING ACTIONS: "as code and count: 1 IGN 1-16; 2 CC 1-3; 3 AC 1-8; 4 SN, 5 DN, 6 ZN 1-15; 7 to 10 PFXA to PFXD 1-8;
-- with count 0: 11 SNX, 12 DNX, 13 ZNX, 14 FPFX, 15 CCDEF"

abbrev pub IGN : ℕ
IGN = 1

-- the last code that has a count, PFXD
abbrev pub LAST-COUNTED : ℕ
LAST-COUNTED = 10

-- the X actions, SNX to ZNX
abbrev pub SNX : ℕ
SNX = 11

abbrev pub ZNX : ℕ
ZNX = 13

-- as a value it has the FA code 6
abbrev pub FPFX : ℕ
FPFX = 14

abbrev pub CCDEF : ℕ
CCDEF = 15

abbrev pub ca_codes : List ℕ
ca_codes = IGN ∷ LAST-COUNTED ∷ SNX ∷ ZNX ∷ FPFX ∷ CCDEF ∷ []

pub record CA : Type 0 where
  pub code : ℕ
  pub count : ℕ

abbrev pub is_ign : CA → Bool
is_ign a = eqb a.code IGN

-- an X action: SNX, DNX, ZNX
abbrev pub is_x : CA → Bool
is_x a = within SNX ZNX a.code

abbrev pub is_fpfx : CA → Bool
is_fpfx a = eqb a.code FPFX

abbrev pub is_ccdef : CA → Bool
is_ccdef a = eqb a.code CCDEF

-- the value that a CA code sets, by its FA code: "SN and SNX count as one value, likewise the others; CC and CCDEF too"; IGN sets none, 0
unfoldable pub value_of : ℕ → ℕ
value_of c = get_or (0 ∷ 0 ∷ 1 ∷ 2 ∷ 3 ∷ 4 ∷ 5 ∷ 7 ∷ 8 ∷ 9 ∷ 10 ∷ 3 ∷ 4 ∷ 5 ∷ 6 ∷ 1 ∷ []) c 0

abbrev pub sets_value : ℕ → CA → Bool
sets_value v a = eqb (value_of a.code) v

-- THE CONTENT

-- "one outgoing class", CAs, SAs, FAs
pub record ActionSet : Type 0 where
  pub class : ℕ
  pub cas : List CA
  pub sas : List ℕ
  pub fas : List ℕ

-- "Each list in a set ends at its first code 0"
abbrev pub cas_of : List ℕ → List CA
cas_of [] = []
cas_of (c ∷ []) = []
cas_of (c ∷ n ∷ b) = if is_zero c then [] else (record { code = c; count = n } ∷ cas_of b)

abbrev pub codes_of : List ℕ → List ℕ
codes_of [] = []
codes_of (c ∷ b) = if is_zero c then [] else (c ∷ codes_of b)

-- "class 1, CA 12 pairs, SA 8, FA 12"
abbrev pub ca_bytes : List ℕ → List ℕ
ca_bytes b = part CA-AT 24 b

abbrev pub sa_bytes : List ℕ → List ℕ
sa_bytes b = part SA-AT 8 b

abbrev pub fa_bytes : List ℕ → List ℕ
fa_bytes b = part FA-AT 12 b

unfoldable pub actions_of : List ℕ → ActionSet
actions_of b = record { class = get_or b OUTGOING-AT 0; cas = cas_of (ca_bytes b); sas = codes_of (sa_bytes b); fas = codes_of (fa_bytes b) }

-- RANGE

-- the largest count of a CA code; codes 11 to 15 stand "with count 0"
unfoldable pub most_of : ℕ → ℕ
most_of c = get_or (0 ∷ 16 ∷ 3 ∷ 8 ∷ 15 ∷ 15 ∷ 15 ∷ 8 ∷ 8 ∷ 8 ∷ 8 ∷ []) c 0

-- a CA code from 1 to 15, with a count that it may have
unfoldable pub ca_in_range : ℕ → ℕ → Bool
ca_in_range c n = if leb c LAST-COUNTED then within 1 (most_of c) n else (leb c CCDEF && is_zero n)

-- "every byte of it after that is unused, a count beside code 0 too"
abbrev pub cas_in_range : List ℕ → Bool
cas_in_range [] = true
cas_in_range (c ∷ []) = false
cas_in_range (c ∷ n ∷ b) = if is_zero c then (is_zero n && all is_zero b) else (ca_in_range c n && cas_in_range b)

-- codes 1 to `most`, then unused bytes
abbrev pub codes_in_range : ℕ → List ℕ → Bool
codes_in_range most [] = true
codes_in_range most (c ∷ b) = if is_zero c then all is_zero b else (leb c most && codes_in_range most b)

abbrev pub content_ranges : List ℕ → List Bool
content_ranges b = is_outgoing_class (get_or b OUTGOING-AT 0) ∷ cas_in_range (ca_bytes b) ∷ codes_in_range CDIAL (sa_bytes b) ∷ codes_in_range DELIMITER-B (fa_bytes b) ∷ []

unfoldable pub content_in_range : List ℕ → Bool
content_in_range b = all_of (content_ranges b)
