-- The conditioning actions are those of the content's part, which has 24 bytes.
use native.Mathlib.Omega.{arith}
use lib.ListN.{drop, length-take}
use borrow.Author.Rules.{rules}
use Rattle.meaning.specs.Actions.{actions_of}
use Rattle.actions.proofs.fits_content.Goals as goal

pub cas_fit-requires : goal.cas_fit-requires
cas_fit-requires c = (rw c.cas_of.ensures (omega (arith, length-take 24 (drop 1 c.args.content.now))), search rules)

pub returns : goal.returns
unfolding actions_of
returns c = rw c.cas_of.ensures at c.cas_fit.ensures
