-- The part that is left is moved.
use mathlib.Core.Path.{refl}
use borrow.Author.Rules.{rules}
use Rattle.stream.proofs.Answers.{settled}
use Rattle.stream.proofs.settle.Goals as goal

pub returns : goal.returns
returns c = record { value = refl; input_after = settled c.args.input.now _ c.args.at c.args.end c.requires.0 c.requires.1 c.shift_down.ensures }
