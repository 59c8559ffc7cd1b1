-- By what was chosen.
use mathlib.Core.Path.{ap, sym, ◌∙◌}
use Rattle.std.specs.Prelude.{Option, option_map}
use Rattle.meaning.specs.Answers.{place_chosen}
use Rattle.meaning.specs.declared.RulePlace.{RulePlace}
use Rattle.plan.specs.declared.HeldRule.{HeldRule}
use Rattle.bench.specs.PlaceNumbers.{place_number}
use Rattle.bench.proofs.npp_chosen_known.Goals as goal

pub returns-in-Some : goal.returns-in-Some
returns-in-Some c = c.from.ensures ∙ sym (ap place_number (sym c.choose.ensures.place ∙ ap (λ (r : Option HeldRule). place_chosen (option_map (λ (rule : HeldRule). rule.place) r)) c.in-Some.is))

pub returns-in-None : goal.returns-in-None
returns-in-None c = sym (ap place_number (sym c.choose.ensures.place ∙ ap (λ (r : Option HeldRule). place_chosen (option_map (λ (rule : HeldRule). rule.place) r)) c.in-None.is))
