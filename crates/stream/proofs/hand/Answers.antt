-- The front of the output.
use borrow.Author.Rules.{rules}
use Rattle.stream.proofs.Answers.{front_is}
use Rattle.stream.proofs.hand.Goals as goal

pub write-requires : goal.write-requires
write-requires g c = record { front = front_is c.args.p.written c.args.output.now; inside = c.requires.0; not_failed = c.requires.1; counted = c.requires.2 }
