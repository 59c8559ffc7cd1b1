-- The closure's test is the definition's, behind the first action.
use mathlib.Core.Path.{ap, ◌∙◌}
use mathlib.Core.Bool.{not}
use lib.ListN.{drop}
use Rattle.std.proofs.Common.{rules, tests}
use Rattle.std.proofs.lemmas.Iterator.Adapters.{YieldsList-from_skip}
use Rattle.std.proofs.lemmas.Iterator.Consumers.{YieldsList-at}
use Rattle.std.proofs.lemmas.Iterator.Search.{any_from_yields_List}
use Rattle.meaning.specs.Actions.{is_fpfx, cas_of}
use Rattle.meaning.specs.Groups.{fpfx_first}
use Rattle.actions.proofs.Walks.{gives_actions, any_is}
use Rattle.groups.proofs.fpfx_first.Goals as goal

pub returns : goal.returns
unfolding fpfx_first
returns c = let cas = cas_of c.args.cas.now in
    let behind = YieldsList-from_skip 1 (YieldsList-at c.skip.ensures.source (gives_actions cas c.actions_in.ensures)) c.skip.ensures.count in
    ap not (any_from_yields_List is_fpfx c.any.new.self _ _ c.any.ensures.ran behind (λ x b q k. search (rules, tests)) ∙ any_is is_fpfx (drop 1 cas))
