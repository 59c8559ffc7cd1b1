-- What is tested of a lent price list, in order: its size and count, each slot, the order of the slots, and the bytes behind them.
use Rattle.std.specs.Prelude.{ℕ, ◌+◌, ◌*◌, Bool, List, [], ◌∷◌, map, length, drop, get_or, leb, eqb}
use Rattle.meaning.specs.Sizes.{CLASS-AT, PREFIX-AT, LENGTH-AT, CODE-BYTES, RULE-WIDTH, PRICE-ROOM, ROWS-AT, PRICE-AT, PRICE-END, PRICES-BYTES}
use Rattle.meaning.specs.Basics.{all, all_of, is_zero, word, quad, part, digits_in_range}
use Rattle.meaning.specs.Prices.{PRICE-LIMIT}
use Rattle.buffer.specs.Slots.{slots}
use Rattle.filter.specs.Slots.{rule_of}
use Rattle.examiner.specs.Examined.{rising}

-- a slot: its unused bytes 0, its prefix and its price in range
abbrev pub row_tests : List ℕ → List Bool
row_tests s = is_zero (get_or s CLASS-AT 0) ∷ is_zero (get_or s LENGTH-AT 0) ∷ is_zero (get_or s PRICE-END 0) ∷ digits_in_range 0 16 (part PREFIX-AT CODE-BYTES s) ∷ leb (quad s PRICE-AT) PRICE-LIMIT ∷ []

unfoldable pub row_test : List ℕ → Bool
row_test s = all_of (row_tests s)

-- the slots of the rows and the bytes behind them: the slots are those of rules, so rows in prefix order are rules that rise
abbrev pub rows_tests : List (List ℕ) → List ℕ → List Bool
rows_tests slots free = all row_test slots ∷ rising (map rule_of slots) ∷ all is_zero free ∷ []

unfoldable pub rows_pass : List (List ℕ) → List ℕ → Bool
rows_pass slots free = all_of (rows_tests slots free)

-- the whole list
abbrev pub examined_tests : List ℕ → List Bool
examined_tests m =
    eqb (length m) PRICES-BYTES ∷ leb (word m 0) PRICE-ROOM ∷ rows_pass (slots RULE-WIDTH (word m 0) (drop ROWS-AT m)) (drop (ROWS-AT + RULE-WIDTH * word m 0) m) ∷ []

unfoldable pub examined : List ℕ → Bool
examined m = all_of (examined_tests m)
