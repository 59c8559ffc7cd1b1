-- The rules of the plan are those of its rule area, and the set and the content are the body's.
use Rattle.plan.proofs.PlacedRules.{area_is, rules_are}
use Rattle.set_changes.proofs.FittingLaws.{fitting_plan}
use Rattle.set_changes.proofs.fits_rules.Goals as goal

pub all_fit-requires : goal.all_fit-requires
all_fit-requires c =
    record {
      content_len = c.content_given.ensures.size;
      rule_area = area_is c.args.plan.memory.now _ _ c.rules.ensures c.rule_count.ensures.is;
    }

pub returns : goal.returns
returns c = fitting_plan _ _ c.args.body.now c.set_number.ensures c.content_given.ensures.is
    (rules_are c.args.plan.memory.now _ _ c.rules.ensures c.rule_count.ensures.is) c.all_fit.ensures
