-- What is left of a list from a place on, by its next two elements.
use Prim.Native.Nat.{ℕ, suc, ◌+◌, ◌<◌}
use native.Mathlib.Omega.{arith}
use native.Mathlib.Numerals.{add-one}
use mathlib.Core.Path.{◌≡◌, ap, ◌∙◌}
use mathlib.Core.List.{List, ◌∷◌}
use lib.ListN.{length, drop, get_or}
use lib.Seq.{drop-cons}

pub next_two : (b : List ℕ) (i : ℕ) → i + 1 < length b → drop i b ≡ get_or b i 0 ∷ get_or b (i + 1) 0 ∷ drop (i + 2) b
next_two b i h =
    let k : i < length b = omega arith in
    let e : i + 2 ≡ suc (i + 1) = omega arith in
    let one : drop i b ≡ get_or b i 0 ∷ drop (i + 1) b = rw (add-one, drop-cons b i 0) in
    one ∙ ap (λ (l : List ℕ). get_or b i 0 ∷ l) (drop-cons b (i + 1) 0 h ∙ rw e)
