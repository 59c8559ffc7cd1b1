-- The closure's test is the definition's.
use mathlib.Core.Path.{ap, ◌∙◌}
use Rattle.std.proofs.Common.{rules, tests}
use Rattle.std.proofs.lemmas.Iterator.Search.{all_from_yields_List}
use Rattle.meaning.specs.Actions.{fa_bytes, codes_of, actions_of}
use Rattle.meaning.specs.Groups.{is_backed, formatting_backed}
use Rattle.actions.proofs.Walks.{gives_codes, all_is}
use Rattle.groups.proofs.formatting_backed.Goals as goal

pub returns : goal.returns
unfolding formatting_backed actions_of
returns c = let fas = codes_of (fa_bytes c.args.content.now) in
    let test = is_backed (actions_of c.args.content.now) in
    all_from_yields_List test c.all.new.self _ _ c.all.ensures.ran (gives_codes fas (c.codes_in.ensures ∙ ap codes_of c.fas_of.ensures)) (λ x b q k. search (rules, tests)) ∙ all_is test fas
