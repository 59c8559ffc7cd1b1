-- The sum of what each action takes for certain, at most 255.
use native.Mathlib.Omega.{arith}
use mathlib.Core.Path.{◌∙◌}
use Rattle.std.proofs.Common.{rules, tests}
use Rattle.std.proofs.lemmas.Iterator.{YieldsList-from_map}
use Rattle.std.proofs.lemmas.Iterator.Consumers.{sum_by_from_yields_List, fits_by_from_yields_list, YieldsList-at}
use Rattle.meaning.specs.Actions.{cas_of}
use Rattle.meaning.specs.Groups.{fixed_of}
use Rattle.actions.proofs.Walks.{gives_actions, fixed_sum_is, sum_small}
use Rattle.actions.proofs.fixed_sum.Goals as goal

pub sum-requires-clause-fits : goal.sum-requires-clause-fits
sum-requires-clause-fits c = let cas = cas_of c.args.cas.now in
    let fixed = fixed_of c.args.prefix in
    fits_by_from_yields_list fixed cas c.map.result _ (YieldsList-from_map _ fixed (YieldsList-at c.map.ensures.source (gives_actions cas c.actions_in.ensures)) c.map.ensures.closure (λ x r q k. search (rules, tests)))
    (omega (arith, fixed_sum_is c.args.prefix cas, sum_small c.args.prefix c.args.cas.now (omega arith) (λ i. search (rules, c.type_inv.cas i))))

pub returns : goal.returns
returns c = let cas = cas_of c.args.cas.now in
    let fixed = fixed_of c.args.prefix in
    sum_by_from_yields_List fixed cas c.map.result _ c.sum.ensures.ran (YieldsList-from_map _ fixed (YieldsList-at c.map.ensures.source (gives_actions cas c.actions_in.ensures)) c.map.ensures.closure (λ x r q k. search (rules, tests))) ∙ fixed_sum_is c.args.prefix cas
