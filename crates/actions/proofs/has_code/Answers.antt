-- The closure's test is the definition's.
use mathlib.Core.Path.{◌∙◌}
use Rattle.std.proofs.Common.{rules, tests, eqb}
use Rattle.std.proofs.lemmas.Iterator.Search.{any_from_yields_List}
use Rattle.meaning.specs.Actions.{CA, cas_of}
use Rattle.actions.proofs.Walks.{gives_actions, any_is}
use Rattle.actions.proofs.has_code.Goals as goal

pub returns : goal.returns
returns c = let cas = cas_of c.args.cas.now in
    let test = λ (a : CA). eqb a.code c.args.code in
    any_from_yields_List test c.any.new.self _ _ c.any.ensures.ran (gives_actions cas c.actions_in.ensures) (λ x b q k. search (rules, tests)) ∙ any_is test cas
