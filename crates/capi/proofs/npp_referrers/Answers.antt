-- `npp_referrers` gives every field of the count.
-- the fields are those of an equal count
use mathlib.Core.Path.{◌≡◌, ap, ◌∙◌}
use borrow.Author.Rules.{rules}
use Rattle.meaning.specs.Reads.{Count}
use Rattle.capi.specs.Given.{CountedAs}
use Rattle.capi.specs.declared.NppCounted.{NppCounted}
use Rattle.capi.proofs.npp_referrers.Reads as reads
use Rattle.capi.proofs.npp_referrers.Lts as lts
use Rattle.reads.proofs.referrers.Reads as referrers-reads
use Rattle.capi.proofs.npp_referrers.Goals as goal

counted-so : {c d : Count} {r : NppCounted} → c ≡ d → CountedAs c r → CountedAs d r
counted-so e q = record { refusal = q.refusal ∙ ap (λ (x : Count). x.refusal) e; rules = q.rules ∙ ap (λ (x : Count). x.number) e }

pub returns : goal.returns
returns c = search (rules, counted-so)
