-- The struct for C has the fields of the count.
use mathlib.Core.Path.{ap, ◌∙◌}
use borrow.Author.Rules.{rules}
use Rattle.meaning.specs.Reads.{Count}
use Rattle.capi.proofs.npp_compare.Goals as goal

pub returns : goal.returns
returns c = let given = c.compare.ensures in
    let fields = c.from.ensures in
    record {
      refusal = fields.refusal ∙ ap (λ (x : Count). x.refusal) given.result;
      differences = fields.differences ∙ ap (λ (x : Count). x.number) given.result;
      buffer = given.buffer;
    }
