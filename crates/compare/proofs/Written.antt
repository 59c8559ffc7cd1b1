-- Bytes written one part behind the other: what is left to be written decides.
use Prim.Native.Nat.{ℕ, ◌+◌, ◌≤◌}
use mathlib.Core.Path.{◌≡◌, ap, ap₂, sym, ◌∙◌}
use mathlib.Core.List.{List, [], ◌++◌, append_assoc}
use native.Mathlib.Omega.{arith}
use lib.ListN.{length, take, drop, length-append, length-drop, take-append-drop}
use lib.Seq.{take_at, drop_at, drop-drop, length-take-le}
use Rattle.meaning.specs.Basics.{written_over}

-- one part and then another
pub over_append : (h r b : List ℕ) → written_over (h ++ r) b ≡ h ++ written_over r (drop (length h) b)
over_append h r b =
    let d : drop (length (h ++ r)) b ≡ drop (length r) (drop (length h) b) =
    ap (λ k. drop k b) (length-append h r) ∙ sym (drop-drop (length r) (length h) b) in
    append_assoc h r (drop (length (h ++ r)) b) ∙ ap (λ (l : List ℕ). h ++ (r ++ l)) d

-- from a place on: h was written, and r is left
pub over_next : (s h r : List ℕ) (a : ℕ) → a ≤ length s
    → take (a + length h) (take a s ++ written_over h (drop a s)) ++ written_over r (drop (a + length h) (take a s ++ written_over h (drop a s)))
    ≡ take a s ++ written_over (h ++ r) (drop a s)
over_next s h r a inside =
    let front : List ℕ = take a s ++ h in
    let back : List ℕ = drop (length h) (drop a s) in
    let n : length front ≡ a + length h = length-append (take a s) h ∙ ap (λ k. k + length h) (length-take-le a s inside) in
    let w : take a s ++ written_over h (drop a s) ≡ front ++ back = sym (append_assoc (take a s) h back) in
    let t : take (a + length h) (take a s ++ written_over h (drop a s)) ≡ front = ap (take (a + length h)) w ∙ take_at front back (a + length h) n in
    let d : drop (a + length h) (take a s ++ written_over h (drop a s)) ≡ back = ap (drop (a + length h)) w ∙ drop_at front back (a + length h) n in
    ap₂ (λ (x y : List ℕ). x ++ written_over r y) t d
    ∙ (append_assoc (take a s) h (written_over r back) ∙ ap (λ (l : List ℕ). take a s ++ l) (sym (over_append h r (drop a s))))

-- the buffer keeps its length
pub over_long : (h b : List ℕ) → length h ≤ length b → length (written_over h b) ≡ length b
over_long h b fits = omega (arith, length-append h (drop (length h) b), length-drop (length h) b, fits)

-- nothing is left
pub over_none : (s : List ℕ) (a : ℕ) → take a s ++ written_over [] (drop a s) ≡ s
over_none s a = take-append-drop a s
