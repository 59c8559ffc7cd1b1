-- What each service action keeps, and a list of them.
use Prim.Native.Nat.{ℕ}
use mathlib.Core.List.{List, [], ◌∷◌}
use lib.Dec.{eqb}
use Rattle.meaning.specs.Settings.{Settings, Lookup}
use Rattle.meaning.specs.Actions.{INPRTG, CDPNNP, ASDLKUP, GRNLKUP}
use Rattle.meaning.specs.Services.{Stage, responded, inprtg, cdpnnp, asdlkup, grnlkup, cdial, carry_out, serve}
use Rattle.meaning.proofs.Tests.{either}

module _ (settings : Settings) (lookup : Lookup) (fas : List ℕ) (P : Stage → Type 0) where
  -- what holds behind each of the five holds behind the one with a code
  pub by_code : (c : ℕ) (s : Stage) → P (inprtg settings lookup fas s) → P (cdpnnp settings lookup fas s) → P (asdlkup settings lookup fas s) → P (grnlkup settings lookup fas s)
      → P (cdial settings lookup fas s) → P (carry_out settings lookup fas c s)
  unfolding carry_out
  by_code c s i p a g d = either P (eqb c INPRTG) _ _ i (either P (eqb c CDPNNP) _ _ p (either P (eqb c ASDLKUP) _ _ a (either P (eqb c GRNLKUP) _ _ g d)))

  -- what each action keeps, all of them keep
  pub serve_keeps : ((c : ℕ) (s : Stage) → P s → P (carry_out settings lookup fas c s)) → (sas : List ℕ) (s : Stage) → P s → P (serve settings lookup fas sas s)
  serve_keeps step [] s p = p
  serve_keeps step (c ∷ cs) s p = either P (responded s) _ _ p (serve_keeps step cs (carry_out settings lookup fas c s) (step c s p))
