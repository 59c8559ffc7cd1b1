-- What ends the reading of a file: its end, behind all its bytes, or one of two refusals.
use Prim.Native.Nat.{ℕ, zero, suc, ◌+◌, ◌≤◌}
use mathlib.Core.Path.{◌≡◌, refl, subst}
use mathlib.Core.Logic.{◌⊎◌, inl, inr}
use mathlib.Core.Bool.{Bool, true, false, not}
use mathlib.Core.List.{List, [], ◌∷◌}
use native.Mathlib.Nat.{not-suc-le-zero}
use native.Mathlib.Omega.{arith}
use lib.ListN.{length, take, drop, length-drop}
use lib.Seq.{drop-drop}
use lib.Dec.{ltb}
use borrow.Author.Tests.{ltb-false}
use Rattle.std.specs.Prelude.{if◌then◌else◌}
use Rattle.meaning.specs.Refusals.{CUT, KIND}
use Rattle.meaning.specs.Calls.{is_kind, body_length}
use Rattle.meaning.specs.Records.{House, new_house, record_house, End, end_here, end_behind, end_from, file_end}

-- a byte that is no kind, and a record that is cut
abbrev pub AtKind : List ℕ → Type 0
AtKind [] = ⊥
AtKind (k ∷ bytes) = is_kind k ≡ false

abbrev pub AtCut : List ℕ → Type 0
AtCut [] = ⊥
AtCut (k ∷ bytes) = (is_kind k ≡ true) × (ltb (length bytes) (body_length k) ≡ true)

-- all bytes are taken, or what stands at the place ended reading
abbrev Ended : List ℕ → End → Type 0
Ended bytes e =
    ((e.refusal ≡ 0) × (e.place ≡ length bytes)) ⊎ (((e.refusal ≡ KIND) × AtKind (drop e.place bytes)) ⊎ ((e.refusal ≡ CUT) × AtCut (drop e.place bytes)))

behind : (n : ℕ) (bytes : List ℕ) (e : End) → n ≤ length bytes → Ended (drop n bytes) e → Ended bytes (end_behind n e)
behind n bytes e h (inl (r, p)) = inl (r, omega (arith, p, length-drop n bytes, h))
behind n bytes e h (inr (inl (r, p))) = inr (inl (r, subst AtKind (drop-drop e.place n bytes) p))
behind n bytes e h (inr (inr (r, p))) = inr (inr (r, subst AtCut (drop-drop e.place n bytes) p))

ended_from : (fuel : ℕ) (h : House) (bytes : List ℕ) → length bytes ≤ fuel → Ended bytes (end_from fuel h bytes)
ended_from zero h [] few = inl (refl, refl)
ended_from zero h (k ∷ bytes) few = absurd (not-suc-le-zero few)
ended_from (suc fuel) h [] few = inl (refl, refl)
ended_from (suc fuel) h (k ∷ bytes) few =
    let next : House = record_house h k (take (body_length k) bytes) in
    let rest : List ℕ = drop (body_length k) bytes in
    let shorter : length rest ≤ length bytes = rw (length-drop (body_length k) bytes) (omega arith) in
    go (end_from fuel next rest) (ended_from fuel next rest (omega (arith, few, shorter))) (is_kind k) (ltb (length bytes) (body_length k)) refl refl
  where
    go : (e : End) → Ended (drop (body_length k) bytes) e → (a b : Bool) → is_kind k ≡ a → ltb (length bytes) (body_length k) ≡ b
        → Ended (k ∷ bytes) (if not a then end_here KIND h else if b then end_here CUT h else end_behind (1 + body_length k) e)
    go e r false b u t = inr (inl (refl, u))
    go e r true true u t = inr (inr (refl, (u, t)))
    go e r true false u t =
        let fits : body_length k ≤ length bytes = ltb-false (length bytes) (body_length k) t in
        let same : drop (body_length k) bytes ≡ drop (1 + body_length k) (k ∷ bytes) = drop-drop (body_length k) 1 (k ∷ bytes) in
        behind (1 + body_length k) (k ∷ bytes) e (omega arith) (subst (λ (l : List ℕ). Ended l e) same r)

ended : (file : List ℕ) → Ended file (file_end file)
unfolding file_end
ended file = ended_from (length file) new_house file (omega arith)

-- "After KIND or CUT reading ends", and after nothing else
pub end_refusals : (file : List ℕ) → ((file_end file).refusal ≡ 0) ⊎ (((file_end file).refusal ≡ KIND) ⊎ ((file_end file).refusal ≡ CUT))
end_refusals file = go (ended file)
  where
    go : Ended file (file_end file) → ((file_end file).refusal ≡ 0) ⊎ (((file_end file).refusal ≡ KIND) ⊎ ((file_end file).refusal ≡ CUT))
    go (inl (r, p)) = inl r
    go (inr (inl (r, p))) = inr (inl r)
    go (inr (inr (r, p))) = inr (inr r)

-- where no refusal ended reading, all of the file was taken; else what ended it stands at the place
pub whole_file : (file : List ℕ) → (file_end file).refusal ≡ 0 → (file_end file).place ≡ length file
whole_file file e = go (ended file)
  where
    go : Ended file (file_end file) → (file_end file).place ≡ length file
    go (inl (r, p)) = p
    go (inr (inl (r, p))) = absurd (omega arith)
    go (inr (inr (r, p))) = absurd (omega arith)

pub at_kind : (file : List ℕ) → (file_end file).refusal ≡ KIND → AtKind (drop (file_end file).place file)
at_kind file e = go (ended file)
  where
    go : Ended file (file_end file) → AtKind (drop (file_end file).place file)
    go (inl (r, p)) = absurd (omega arith)
    go (inr (inl (r, p))) = p
    go (inr (inr (r, p))) = absurd (omega arith)

pub at_cut : (file : List ℕ) → (file_end file).refusal ≡ CUT → AtCut (drop (file_end file).place file)
at_cut file e = go (ended file)
  where
    go : Ended file (file_end file) → AtCut (drop (file_end file).place file)
    go (inl (r, p)) = absurd (omega arith)
    go (inr (inl (r, p))) = absurd (omega arith)
    go (inr (inr (r, p))) = p
