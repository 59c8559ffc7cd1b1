-- The closure's test is the definition's.
use mathlib.Core.Path.{◌∙◌}
use Rattle.std.proofs.Common.{rules, tests, eqb}
use Rattle.std.proofs.lemmas.Iterator.Search.{any_from_yields_List}
use Rattle.meaning.specs.Actions.{codes_of}
use Rattle.actions.proofs.Walks.{gives_codes, any_is}
use Rattle.actions.proofs.contains.Goals as goal

pub returns : goal.returns
returns c = let list = codes_of c.args.list.now in
    any_from_yields_List (eqb c.args.code) c.any.new.self _ _ c.any.ensures.ran (gives_codes list c.codes_in.ensures) (λ x b q k. search (rules, tests)) ∙ any_is (eqb c.args.code) list
