-- What is left of the list decides, with the digits that are left: whether they are too few, and what is not marked yet (`Marking`).
use Prim.Native.Nat.{ℕ, ◌-◌, ◌≤◌}
use native.Mathlib.Omega.{arith}
use mathlib.Core.List.{List, ◌∷◌}
use mathlib.Core.Path.{◌≡◌, sym, ap, ◌∙◌}
use mathlib.Core.Bool.{Bool, false}
use borrow.Author.Rules.{rules}
use Rattle.meaning.specs.Actions.{CA}
use Rattle.meaning.specs.Conditioning.{short, width, meets_too_few}
use Rattle.meaning.proofs.Stretches.{enough}
use Rattle.conditioning.proofs.Marking.{marking_all, marking_more}
use Rattle.conditioning.proofs.mark_spans.Goals as goal

-- the digits that are left are enough for the action at hand, and what it leaves decides
enough_here : (prefix left : ℕ) {w : ℕ} {a : CA} {xs ys : List CA} {z : Bool} → w ≡ width prefix left a → xs ≡ a ∷ ys → short prefix left xs ≡ z → meets_too_few prefix left a ≡ false
    → (w ≤ left) × (short prefix (left - w) ys ≡ z)
enough_here prefix left {w} {a} p goes e few =
    let s = sym (ap (short prefix left) goes) ∙ e in
    rw p (enough prefix left a few, rw few at s)

pub loop-a-preserved : goal.loop-a-preserved
loop-a-preserved c = let p = c.requires in
    let now = c.loop-a.invariant in
    let goes = c.in-Some.ensures.steps in
    let w = c.width-w.ensures in
    let takes = c.value_taken.ensures in
    let h = enough_here c.args.prefix c.loop-a.left w goes now.1 (sym c.meets_too_few.ensures ∙ c.if-meets_too_few.false) in
    let m = marking_more takes w p.not_zero (omega (arith, h.0, now.0)) c.loop-a.marks goes now.4 (omega (arith, takes.small, now.2)) (omega (arith, takes.small, now.3)) c.mark.ensures in
    (omega (arith, h.0, now.0), h.1, search rules, search rules, m)

pub returns : goal.returns
returns c = let now = c.loop-a.invariant in
    let ends = c.in-None.ensures.steps.0 in
    record {
      short_is = sym (ap (short c.args.prefix c.loop-a.left) ends) ∙ now.1;
      marked = λ _. marking_all now.2 now.3 (λ v. rw ends at (now.4 v));
    }
