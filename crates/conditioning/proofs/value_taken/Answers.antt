-- By the table of the codes.
use Rattle.actions.specs.Reading.{action_of}
use Rattle.conditioning.proofs.Marking.{takes_listed, takes_unlisted}
use Rattle.conditioning.proofs.value_taken.Goals as goal

pub returns-then-code-gt-CCDEF : goal.returns-then-code-gt-CCDEF
returns-then-code-gt-CCDEF c = takes_unlisted (action_of c.args.a) c.if-code-gt-CCDEF.true

pub returns : goal.returns
returns c = takes_listed (action_of c.args.a) c.if-code-gt-CCDEF.false
