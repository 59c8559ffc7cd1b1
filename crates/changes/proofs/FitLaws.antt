-- The length of a filter's prefix and its stated length stand in its bytes, so the fit is decided by two bytes and the conditioning actions.
use Prim.Native.Nat.{ℕ}
use mathlib.Core.Path.{◌≡◌, ap₂, sym, ◌∙◌}
use mathlib.Core.Bool.{Bool}
use mathlib.Core.List.{List}
use lib.ListN.{get_or}
use Rattle.meaning.specs.Sizes.{PREFIX-AT, LENGTH-AT}
use Rattle.meaning.specs.Filters.{filter_of}
use Rattle.meaning.specs.Actions.{actions_of}
use Rattle.meaning.specs.Groups.{cas_fit, fit}
use Rattle.filter.specs.Slots.{FilterBytes}
use Rattle.filter.proofs.FilterLaws.{prefix_length}

pub fit_bytes : (s c : List ℕ) (p l : ℕ) (r : Bool) → FilterBytes s → p ≡ get_or s PREFIX-AT 0 → l ≡ get_or s LENGTH-AT 0 → r ≡ cas_fit p l (actions_of c).cas
    → r ≡ fit (filter_of s) (actions_of c)
unfolding fit filter_of
fit_bytes s c p l r f a b e = e ∙ ap₂ (λ x y. cas_fit x y (actions_of c).cas) (a ∙ sym (prefix_length s f)) b
