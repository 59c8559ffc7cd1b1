-- What was at hand, and what was done with it.
use borrow.Author.Rules.{rules}
use Rattle.stream.proofs.TurnLaws.{may_advance}
use Rattle.stream.proofs.turn.Goals as goal

pub advance-requires : goal.advance-requires
advance-requires g c = may_advance _ _ _ c.requires c.gather-h.ensures

pub returns : goal.returns
returns g c = let g = c.gather-h in record { hand = g.result; gathers = g.ensures; so = c.advance.ensures }
