-- What a walk over a list's bytes gives, and document 01's words for it, which are the library's.
use Prim.Native.Nat.{ℕ, suc, ◌+◌, ◌*◌, ◌≤◌, ◌<◌}
use borrow.Author.Tests.{eqb-false}
use mathlib.Core.Logic.{◌≢◌}
use native.Mathlib.Omega.{arith}
use mathlib.Core.Path.{◌≡◌, refl, ap}
use mathlib.Core.Bool.{Bool, true, false, cond, ◌||◌, ◌&&◌}
use mathlib.Core.List.{List, [], ◌∷◌}
use lib.ListN.{length, get_or}
use Rattle.std.specs.Prelude.{if◌then◌else◌}
use Rattle.std.specs.List.{list_any, list_all, filter, sum_by}
use Rattle.std.specs.Iterator.{YieldsFirst, YieldsFirstBy}
use Rattle.std.proofs.lemmas.Iterator.{YieldsList}
use Rattle.std.proofs.lemmas.Iterator.Consumers.{YieldsList-from_first}
use Rattle.std.proofs.lemmas.List.Sums.{sum_by_from}
use Rattle.meaning.specs.Basics.{any, all, count, is_zero}
use Rattle.meaning.specs.Actions.{CA, cas_of, codes_of}
use Rattle.meaning.specs.Groups.{fixed_of, fixed_sum}
use Rattle.actions.specs.declared.ConditioningActions.{ConditioningActions}
use Rattle.actions.specs.declared.Codes.{Codes}
use Rattle.actions.specs.Reading.{action_of, actions_left, codes_left}
use Rattle.actions.proofs.Fit.{fixed_small}

-- the walks, as the library's laws of chains take them
pub gives_actions : {s : ConditioningActions} (xs : List CA) → actions_left s ≡ xs → YieldsList (YieldsFirstBy action_of actions_left) action_of s xs
gives_actions xs e = YieldsList-from_first action_of actions_left xs e

pub gives_codes : {s : Codes} (xs : List ℕ) → codes_left s ≡ xs → YieldsList (YieldsFirst codes_left) (λ c. c) s xs
gives_codes xs e = YieldsList-from_first (λ c. c) codes_left xs e

module _ {A : Type 0} (p : A → Bool) where
  pub any_is : (xs : List A) → list_any p xs ≡ any p xs
  any_is [] = refl
  any_is (x ∷ xs) = ap (λ (t : Bool). p x || t) (any_is xs)

  pub all_is : (xs : List A) → list_all p xs ≡ all p xs
  all_is [] = refl
  all_is (x ∷ xs) = ap (λ (t : Bool). p x && t) (all_is xs)

  pub count_is : (xs : List A) → length (filter p xs) ≡ count p xs
  count_is [] = refl
  count_is (x ∷ xs) = go (p x) (count_is xs)
    where
      go : (t : Bool) → length (filter p xs) ≡ count p xs → length (cond t (x ∷ filter p xs) (filter p xs)) ≡ (if t then 1 else 0) + count p xs
      go true e = omega (arith, e)
      go false e = omega (arith, e)

pub fixed_sum_is : (prefix : ℕ) (xs : List CA) → sum_by (fixed_of prefix) xs ≡ fixed_sum prefix xs
fixed_sum_is prefix [] = refl
fixed_sum_is prefix (a ∷ xs) = omega (arith, sum_by_from (fixed_of prefix) (0 + fixed_of prefix a) xs, fixed_sum_is prefix xs)

-- no list has more elements than bytes
pub few_actions : (b : List ℕ) → length (cas_of b) ≤ length b
few_actions [] = omega arith
few_actions (c ∷ []) = omega arith
few_actions (c ∷ n ∷ b) = go (is_zero c) (few_actions b)
  where
    go : (t : Bool) → length (cas_of b) ≤ length b → length (if t then [] else (record { code = c; count = n } ∷ cas_of b)) ≤ length (c ∷ n ∷ b)
    go true h = omega arith
    go false h = omega (arith, h)

pub few_codes : (b : List ℕ) → length (codes_of b) ≤ length b
few_codes [] = omega arith
few_codes (c ∷ b) = go (is_zero c) (few_codes b)
  where
    go : (t : Bool) → length (codes_of b) ≤ length b → length (if t then [] else (c ∷ codes_of b)) ≤ length (c ∷ b)
    go true h = omega arith
    go false h = omega (arith, h)

-- no code of a list is 0
pub some_code : (b : List ℕ) {c : ℕ} {cs : List ℕ} → codes_of b ≡ c ∷ cs → 0 < c
some_code [] e = absurd (cc)
some_code (x ∷ b) {c} {cs} e = go (is_zero x) refl e
  where
    go : (t : Bool) → is_zero x ≡ t → (if t then [] else (x ∷ codes_of b)) ≡ c ∷ cs → 0 < c
    go true z f = absurd (cc)
    go false z f = let h : x ≢ 0 = eqb-false x 0 z in
        let k : x ≡ c = cc in omega arith

-- no action adds more than a byte holds
pub sum_small : (prefix : ℕ) (b : List ℕ) → prefix ≤ 255 → ((i : ℕ) → get_or b i 0 ≤ 255) → fixed_sum prefix (cas_of b) ≤ 255 * length b
sum_small prefix [] p h = omega arith
sum_small prefix (c ∷ []) p h = omega arith
sum_small prefix (c ∷ n ∷ b) p h = go (is_zero c) (fixed_small 255 prefix (record { code = c; count = n }) p (h 1)) (sum_small prefix b p (λ i. h (suc (suc i))))
  where
    go : (t : Bool) → fixed_of prefix (record { code = c; count = n }) ≤ 255 → fixed_sum prefix (cas_of b) ≤ 255 * length b
        → fixed_sum prefix (if t then [] else (record { code = c; count = n } ∷ cas_of b)) ≤ 255 * length (c ∷ n ∷ b)
    go true k l = omega arith
    go false k l = omega (arith, k, l)
