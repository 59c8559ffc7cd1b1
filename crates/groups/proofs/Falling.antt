-- What `is_sorted_by` answers of a chain of numbers whose closure says that none is more than the one before it, and of the precedences along a list.
use Prim.Native.Nat.{ℕ}
use mathlib.Core.Path.{◌≡◌, refl, sym, ap, subst, ◌∙◌}
use mathlib.Core.Logic.{inl, inr}
use mathlib.Core.Bool.{Bool, true, false, ◌&&◌}
use mathlib.Core.List.{List, [], ◌∷◌, map}
use denote.Ref.{Bor}
use denote.Param.Members.{Mut}
use lib.Dec.{leb}
use Rattle.std.specs.Prelude.{Option, Some, None, MatchOption}
use Rattle.std.specs.Fn.{CalledAtTwo}
use Rattle.std.specs.List.{FoldsTo}
use Rattle.std.specs.Iterator.{AlwaysYields, YieldsThen}
use Rattle.std.specs.Iterator.Order.{OrderTurn, ChecksNeighbours}
use Rattle.std.proofs.lemmas.Iterator.{YieldsList}
use Rattle.meaning.specs.Groups.{precedence, never_rises_from, precedence_never_rises}

-- none is more than the one before it, p being that before the first
abbrev falls : ℕ → List ℕ → Bool
falls p [] = true
falls p (q ∷ qs) = leb q p && falls q qs

abbrev pub all_fall : List ℕ → Bool
all_fall [] = true
all_fall (q ∷ qs) = falls q qs

falls_is : (p : ℕ) (cs : List ℕ) → falls p (map precedence cs) ≡ never_rises_from p cs
falls_is p [] = refl
falls_is p (c ∷ cs) = ap (λ (b : Bool). leb (precedence c) p && b) (falls_is (precedence c) cs)

pub all_fall_is : (cs : List ℕ) → all_fall (map precedence cs) ≡ precedence_never_rises cs
all_fall_is [] = refl
all_fall_is (c ∷ cs) = falls_is (precedence c) cs

module _ {S F : Type 0} (steps : S → Option ℕ → S → Type 0) {g : Mut F (Bor ℕ × (Bor ℕ × Unit {0})) Bool} {f : F} {r : Bool}
    (computes : (x y : ℕ) (b : Bool) (q : F) → CalledAtTwo g f x y b q → (q ≡ f) × (b ≡ leb y x)) where
  along : (p : ℕ) (ys : List ℕ) (t u : S) (xs : List ℕ) (o : Option ℕ) (q : F × ℕ)
      → AlwaysYields steps (λ x. x) t ys → YieldsThen steps t xs o u → FoldsTo {P = F × ℕ} (OrderTurn g) (f, p) xs q
      → MatchOption o (r ≡ true) (λ y. (r ≡ false) × ((h : F) × CalledAtTwo g q.0 q.1 y false h)) → r ≡ falls p ys
  along p [] t u [] None q a y w m = m
  along p [] t u [] (Some x) q a y w m = absurd (a x u (subst (λ s. steps s (Some x) u) (sym y.1) y.2))
  along p [] t u (x ∷ xs) o q a y w m = absurd (a x y.1.0 y.1.1)
  along p (z ∷ ys) t u [] None q a y w m = absurd (a.0 u (subst (λ s. steps s None u) (sym y.1) y.2))
  along p (z ∷ ys) t u [] (Some x) q a y w m =
      let e = (a.1 x u (subst (λ s. steps s (Some x) u) (sym y.1) y.2)).0 in
      let b = (computes p x false m.1.0 (subst (λ (k : F × ℕ). CalledAtTwo g k.0 k.1 x false m.1.0) (sym w) m.1.1)).1 in
      m.0 ∙ ap (λ (t : Bool). t && falls z ys) (b ∙ ap (λ (n : ℕ). leb n p) e)
  along p (z ∷ ys) t u (x ∷ xs) o q a y w m =
      let e = a.1 x y.1.0 y.1.1 in
      let b = computes p x true w.0.0 w.1.0 in
      let from : w.0 ≡ (f, x) = λ i. (b.0 i, w.1.1 i) in
      let more = along x ys y.1.0 u xs o q e.1 (y.0, y.1.2, y.2) (subst (λ (k : F × ℕ). FoldsTo (OrderTurn g) k xs q) from w.2) m in
      more ∙ (λ i. b.1 i && falls x ys) ∙ ap (λ (n : ℕ). leb n p && falls n ys) e.0

  of_runs : (s : S) (ys : List ℕ) → ChecksNeighbours g steps s f r → AlwaysYields steps (λ x. x) s ys → r ≡ all_fall ys
  of_runs s [] (inl d) a = d.1
  of_runs s (y ∷ ys) (inl d) a = absurd (a.0 d.0.0 (subst (λ t. steps t None d.0.0) (sym d.0.1.1) d.0.1.2))
  of_runs s [] (inr d) a = absurd (a d.0 d.5.1.0 d.5.1.1)
  of_runs s (y ∷ ys) (inr d) a =
      let e = a.1 d.0 d.5.1.0 d.5.1.1 in
      along d.0 ys d.5.1.0 d.3 d.1 d.2 d.4 e.1 (d.5.0, d.5.1.2, d.5.2) d.6 d.7 ∙ ap (λ (n : ℕ). falls n ys) e.0

  pub sorted_is : {s : S} (ys : List ℕ) → ChecksNeighbours g steps s f r → YieldsList steps (λ x. x) s ys → r ≡ all_fall ys
  sorted_is {s = s} ys c l = of_runs s ys c l.runs
