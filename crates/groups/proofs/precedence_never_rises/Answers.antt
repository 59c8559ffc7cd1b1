-- The closure says of two precedences that the second is no more than the first.
use mathlib.Core.Path.{◌∙◌}
use mathlib.Core.List.{map}
use Rattle.std.proofs.Common.{rules, tests}
use Rattle.std.proofs.lemmas.Iterator.{YieldsList-from_map}
use Rattle.std.proofs.lemmas.Iterator.Consumers.{YieldsList-at}
use Rattle.meaning.specs.Actions.{codes_of}
use Rattle.meaning.specs.Groups.{precedence}
use Rattle.actions.proofs.Walks.{gives_codes}
use Rattle.groups.proofs.Falling.{sorted_is, all_fall_is}
use Rattle.groups.proofs.precedence_never_rises.Goals as goal

pub returns : goal.returns
returns c = let sas = codes_of c.args.sas.now in
    sorted_is _ (λ x y b q k. search (rules, tests)) (map precedence sas) c.is_sorted_by.ensures.ran
    (YieldsList-from_map _ precedence (YieldsList-at c.map.ensures.source (gives_codes sas c.codes_in.ensures)) c.map.ensures.closure (λ x r q k. search (rules, tests)))
    ∙ all_fall_is sas
