-- Slots of w bytes each that stand one behind the other from the front of a list of bytes.
use Rattle.std.specs.Prelude.{ℕ, zero, suc, ◌*◌, ◌≡◌, List, [], ◌∷◌, ◌++◌, length, take, drop}

-- the first n slots
abbrev pub slots : ℕ → ℕ → List ℕ → List (List ℕ)
slots w zero m = []
slots w (suc n) m = take w m ∷ slots w n (drop w m)

-- the bytes of slots
abbrev pub flat : List (List ℕ) → List ℕ
flat [] = []
flat (s ∷ ss) = s ++ flat ss

-- each slot has w bytes
abbrev pub Wide : ℕ → List (List ℕ) → Type 0
Wide w [] = Unit
Wide w (s ∷ ss) = (length s ≡ w) × Wide w ss

-- the first n slots of m become ss; the bytes behind them stay
abbrev pub with_slots : ℕ → ℕ → List (List ℕ) → List ℕ → List ℕ
with_slots w n ss m = flat ss ++ drop (w * n) m

-- an element put in before place i, and the one at place i taken out
module _ {A : Type 0} where
  abbrev pub insert_at : ℕ → A → List A → List A
  insert_at i x xs = take i xs ++ x ∷ drop i xs

  abbrev pub remove_at : ℕ → List A → List A
  remove_at i xs = take i xs ++ drop (suc i) xs
