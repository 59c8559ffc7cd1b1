-- Document 01, "Refusal numbers": the thirteen by name, the two of C-11, and how a list of checks in order gives the one that is answered.
use Rattle.std.specs.Prelude.{ℕ, Bool, List, [], ◌∷◌}
use Rattle.std.specs.Prelude.{if◌then◌else◌}

abbrev pub ACCEPTED : ℕ
ACCEPTED = 0

abbrev pub CUT : ℕ
CUT = 1

abbrev pub KIND : ℕ
KIND = 2

abbrev pub PLAN : ℕ
PLAN = 3

abbrev pub ROOM : ℕ
ROOM = 4

abbrev pub RANGE : ℕ
RANGE = 5

abbrev pub GROUPS : ℕ
GROUPS = 6

abbrev pub TAKEN : ℕ
TAKEN = 7

abbrev pub ABSENT : ℕ
ABSENT = 8

abbrev pub MISFIT : ℕ
MISFIT = 9

abbrev pub FULL : ℕ
FULL = 10

abbrev pub IN-USE : ℕ
IN-USE = 11

abbrev pub SHORT : ℕ
SHORT = 12

abbrev pub LONG : ℕ
LONG = 13

abbrev pub NO-PRICE : ℕ
NO-PRICE = 14

abbrev pub LEDGER-FULL : ℕ
LEDGER-FULL = 15

-- one check of a call: when it refuses, and with which number
abbrev pub Line : Type 0
Line = Bool × ℕ

-- "It is given exactly when its line holds and no earlier check does"; 0 where none holds
abbrev pub first_of : List Line → ℕ
first_of [] = ACCEPTED
first_of (l ∷ ls) = if l.0 then l.1 else first_of ls
