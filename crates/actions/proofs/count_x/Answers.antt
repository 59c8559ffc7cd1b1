-- As many as the list's X actions. They are no more than its bytes.
use native.Mathlib.Omega.{arith}
use mathlib.Core.Path.{ap, ◌∙◌}
use mathlib.Core.Logic.{inl}
use lib.ListN.{length}
use Rattle.std.proofs.Common.{rules, tests}
use Rattle.std.proofs.lemmas.Iterator.Consumers.{count_from_yields_List, YieldsList-from_filter, YieldsList-at}
use Rattle.meaning.specs.Actions.{is_x, cas_of}
use Rattle.actions.specs.Reading.{actions_left}
use Rattle.actions.proofs.Walks.{gives_actions, count_is, few_actions}
use Rattle.actions.proofs.count_x.Goals as goal

pub count-requires-clause-fits : goal.count-requires-clause-fits
count-requires-clause-fits c =
    inl (omega (arith, ap (λ s. length (actions_left s)) c.filter.ensures.source, ap length c.actions_in.ensures, few_actions c.args.cas.now))

pub returns : goal.returns
returns c = let cas = cas_of c.args.cas.now in
    count_from_yields_List c.filter.result _ c.count.ensures.ran (YieldsList-from_filter _ is_x (YieldsList-at c.filter.ensures.source (gives_actions cas c.actions_in.ensures)) c.filter.ensures.closure (λ x b q k. search (rules, tests))) ∙ count_is is_x cas
