-- The count of a body in range is at most 32.
use native.Mathlib.Omega.{arith}
use Rattle.number.proofs.Bodies.{digits_few, digits_are}
use Rattle.number.proofs.digits_in.Goals as goal

pub slice_bounds-result-end : goal.slice_bounds-result-end
slice_bounds-result-end c = omega (arith, c.requires.0, c.from-e.ensures, digits_few c.args.body.now c.requires.0 c.requires.1)

pub returns : goal.returns
returns c = digits_are c.args.body.now c.requires.0 c.requires.1 _ c.from-e.ensures
