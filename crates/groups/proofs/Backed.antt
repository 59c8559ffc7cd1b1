-- The action that a formatting action needs, by its code.
use Prim.Native.Nat.{ℕ, ◌≤◌, ◌<◌}
use mathlib.Core.Path.{◌≡◌}
use mathlib.Core.Bool.{true}
use native.Mathlib.Omega.{arith}
use borrow.Author.Tests.{le-leb, lt-leb, eq-eqb, ne_eqb}
use Rattle.meaning.specs.Basics.{contains}
use Rattle.meaning.specs.Actions.{SP, ASD, GRN, LAST-CONDITIONED, CDPNNP, ASDLKUP, GRNLKUP, ActionSet}
use Rattle.meaning.specs.Groups.{is_set, is_backed}

module _ (s : ActionSet) (f : ℕ) where
  pub value_backed : f ≤ LAST-CONDITIONED → is_backed s f ≡ is_set f s.cas
  unfolding is_backed
  value_backed h = rw (le-leb f LAST-CONDITIONED h)

  pub sp_backed : LAST-CONDITIONED < f → f ≤ SP → is_backed s f ≡ contains CDPNNP s.sas
  unfolding is_backed
  sp_backed h k = rw (lt-leb f LAST-CONDITIONED h, le-leb f SP k)

  pub asd_backed : f ≡ ASD → is_backed s f ≡ contains ASDLKUP s.sas
  unfolding is_backed
  asd_backed e = rw (lt-leb f LAST-CONDITIONED (omega arith), lt-leb f SP (omega arith), eq-eqb f ASD e)

  pub grn_backed : f ≡ GRN → is_backed s f ≡ contains GRNLKUP s.sas
  unfolding is_backed
  grn_backed e = rw (lt-leb f LAST-CONDITIONED (omega arith), lt-leb f SP (omega arith), ne_eqb f ASD (λ k. omega arith), eq-eqb f GRN e)

  pub delimiter_backed : GRN < f → is_backed s f ≡ true
  unfolding is_backed
  delimiter_backed h = rw (lt-leb f LAST-CONDITIONED (omega arith), lt-leb f SP (omega arith), ne_eqb f ASD (λ k. omega arith), ne_eqb f GRN (λ k. omega arith))
