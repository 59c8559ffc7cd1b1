-- Document 01, "House records": the run given whole, as the bytes of a file of house records, and the nine lines that it writes; and C-11's example of one rounding.
use Rattle.std.specs.Prelude.{ℕ, List, [], ◌∷◌, ◌++◌}
use Prim.Native.Char.{code}
use Prim.Native.String.{String, [] as empty, ◌∷◌ as ◌before◌}
use Rattle.meaning.specs.Calls.{OPEN-PLAN, ADD-SET, REMOVE-SET, ADD-RULE, NUMBER, LIST, CALL, PRICE, LOSSES}
use Rattle.meaning.specs.Examples.{string, opening_body, rule_body, number_body, subscriber, S1}

-- a text as its ASCII bytes
abbrev pub ascii : String → List ℕ
ascii empty = []
ascii (c before s) = code c ∷ ascii s

-- the bytes of some records, one behind the other
abbrev pub file : List (List ℕ) → List ℕ
file [] = []
file (r ∷ rs) = r ++ file rs

-- "Open with country code 55, DFLTRN none; add set 0 (S1 below); add rule NATL, wildcard, wildcard, set 0; number NATL 87654321 with
-- RN 0015; the same with no record; the same digits as INTL; remove set 0; list". Each record is a byte of kind and its body; the opening asks
-- room for 8 sets and 8 rules, with no delimiters, RELAY for every kind and accepting 0.
unfoldable pub run : List ℕ
run =
    file
    (
    (OPEN-PLAN ∷ opening_body [] (1 ∷ 1 ∷ 1 ∷ 1 ∷ []) 0)
    ∷ (ADD-SET ∷ S1 (2 ∷ []))
    ∷ (ADD-RULE ∷ rule_body 1 [] 0)
    ∷ (NUMBER ∷ number_body 1 subscriber 2 (0 ∷ 0 ∷ 1 ∷ 5 ∷ []))
    ∷ (NUMBER ∷ number_body 1 subscriber 0 [])
    ∷ (NUMBER ∷ number_body 0 subscriber 0 [])
    ∷ (REMOVE-SET ∷ 0 ∷ 0 ∷ [])
    ∷ (LIST ∷ [])
    ∷ []
    )

-- the lines as document 01 prints them
unfoldable pub nine_lines : List ℕ
nine_lines = ascii "ok\nok\nok\n4 1 0 1 001587654321\n3 1 0 1 -\n0 0 0 0 -\nno 11\n1 * * 0\nend 1\n"

-- an account's call record of district 4: 60 seconds, billed 600, to NATL 87654321 with no record
abbrev pub account_call : ℕ → List ℕ
account_call account = CALL ∷ 0 ∷ 0 ∷ 0 ∷ account ∷ 0 ∷ 4 ∷ 0 ∷ 0 ∷ 0 ∷ 60 ∷ 0 ∷ 0 ∷ 2 ∷ 88 ∷ number_body 1 subscriber 0 []

-- C-11's example: three accounts of one district that lose 24,000 units each, which is 0 cents, lose 72,000 together, which is 1 cent. A row for every number has the
-- price 1,000, and no rule is for the number: each is due 60 times 1,000 on the digits that came, less 600 times 60 billed. Kind 18 is the last record.
unfoldable pub three_accounts : List ℕ
three_accounts =
    file
    (
    (OPEN-PLAN ∷ opening_body [] (1 ∷ 1 ∷ 1 ∷ 1 ∷ []) 0)
    ∷ (PRICE ∷ (string 16 [] ++ (0 ∷ 0 ∷ 3 ∷ 232 ∷ [])))
    ∷ account_call 1
    ∷ account_call 2
    ∷ account_call 3
    ∷ (LOSSES ∷ [])
    ∷ []
    )

-- the district's line and the total have the one cent
unfoldable pub seven_lines : List ℕ
seven_lines = ascii "ok\nok\n0 1 0 0 -\n0 1 0 0 -\n0 1 0 0 -\n4 1\ntotal 1\n"
