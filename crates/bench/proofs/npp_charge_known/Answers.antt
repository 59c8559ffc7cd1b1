-- What charging gave.
use mathlib.Core.Path.{ap}
use borrow.Author.Rules.{rules}
use Rattle.meaning.specs.declared.Answered.{Answered}
use Rattle.bench.proofs.npp_charge_known.Goals as goal

pub returns : goal.returns
returns c = let t = c.take_known-t.ensures in
    record { outcome_is = ap (λ (x : Answered). x.outcome) t.answer.result; buffer_is = t.answer.buffer; ledger_is = t.ledger }
