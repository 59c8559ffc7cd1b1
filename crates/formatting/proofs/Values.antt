-- The parts that the code takes of the settings and of a lookup are the values of document 01.
use Prim.Native.Nat.{ℕ}
use mathlib.Core.Path.{◌≡◌, refl}
use mathlib.Core.Logic.{◌≢◌}
use mathlib.Core.Bool.{Bool, true, false, ◌&&◌, not}
use mathlib.Core.List.{List, [], ◌∷◌}
use lib.ListN.{length, get_or}
use lib.Dec.{eqb}
use borrow.Author.Tests.{eq-eqb, ne_eqb}
use Rattle.meaning.specs.Basics.{any, is_empty, part, digits_of}
use Rattle.std.specs.Prelude.{if◌then◌else◌}
use Rattle.meaning.specs.Settings.{settings_of, lookup_of}
use Rattle.meaning.specs.Actions.{CC, RN, CA, is_ccdef}
use Rattle.meaning.specs.Conditioning.{stretch_of, digits_at, value_from}
use Rattle.meaning.specs.Services.{at_start, rn_set}
use Rattle.services.specs.Stages.{rn_of, sp_of}
use Rattle.formatting.specs.Sources.{digits_if}

-- RN AND SP

-- DFLTRN that is not configured has no digits
configured : (xs : List ℕ) → (if not (is_empty xs) && true then xs else []) ≡ xs
configured [] = refl
configured (x ∷ xs) = refl

module _ (settings lookup : List ℕ) (ported : Bool) where
  pub rn_entity : get_or lookup 0 0 ≡ 2 → digits_if ported (part 1 16 lookup) ≡ rn_of (settings_of settings) (lookup_of lookup) (RN ∷ []) ported
  unfolding rn_set lookup_of
  rn_entity k = rw (eq-eqb (get_or lookup 0 0) 2 k)

  pub rn_default : get_or lookup 0 0 ≡ 3 → digits_if ported (part 4 16 settings) ≡ rn_of (settings_of settings) (lookup_of lookup) (RN ∷ []) ported
  unfolding rn_set lookup_of settings_of at_start
  rn_default k = rw (k, configured (digits_of (part 4 16 settings)))

  pub rn_none : get_or lookup 0 0 ≢ 2 → get_or lookup 0 0 ≢ 3 → [] ≡ rn_of (settings_of settings) (lookup_of lookup) (RN ∷ []) ported
  unfolding rn_set lookup_of at_start
  rn_none a b = rw (ne_eqb (get_or lookup 0 0) 2 a, ne_eqb (get_or lookup 0 0) 3 b) (go ported)
    where
      go : (p : Bool) → ◌≡◌ {A = List ℕ} [] (if p then [] else [])
      go true = refl
      go false = refl

module _ (lookup : List ℕ) (ported : Bool) where
  pub sp_entity : get_or lookup 0 0 ≡ 3 → digits_if ported (part 1 16 lookup) ≡ sp_of (lookup_of lookup) ported
  unfolding lookup_of
  sp_entity k = rw (eq-eqb (get_or lookup 0 0) 3 k) (go ported)
    where
      go : (p : Bool) → (if p then digits_of (part 1 16 lookup) else []) ≡ (if p && true then digits_of (part 1 16 lookup) else [])
      go true = refl
      go false = refl

  pub sp_none : get_or lookup 0 0 ≢ 3 → [] ≡ sp_of (lookup_of lookup) ported
  unfolding lookup_of
  sp_none a = rw (ne_eqb (get_or lookup 0 0) 3 a) (go ported)
    where
      go : (p : Bool) → ◌≡◌ {A = List ℕ} [] (if p && false then digits_of (part 1 16 lookup) else [])
      go true = refl
      go false = refl

-- CONDITIONED VALUES

module _ (country digits : List ℕ) (prefix v : ℕ) (xs : List CA) where
  pub value_default : v ≡ CC → any is_ccdef xs ≡ true → country ≡ value_from country prefix digits xs v
  unfolding value_from
  value_default e d = rw (eq-eqb v CC e, d)

  pub value_taken : (v ≢ CC) → digits_at (stretch_of v prefix (length digits) xs) digits ≡ value_from country prefix digits xs v
  unfolding value_from
  value_taken e = rw (ne_eqb v CC e)

  pub value_not_default : any is_ccdef xs ≡ false → digits_at (stretch_of v prefix (length digits) xs) digits ≡ value_from country prefix digits xs v
  unfolding value_from
  value_not_default d = rw d (go (eqb v CC))
    where
      go : (b : Bool) → digits_at (stretch_of v prefix (length digits) xs) digits ≡ (if b && false then country else digits_at (stretch_of v prefix (length digits) xs) digits)
      go true = refl
      go false = refl
