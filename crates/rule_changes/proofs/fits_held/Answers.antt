-- A set that is held has a content, which fits or does not.
use Prim.Native.Nat.{ℕ}
use mathlib.Core.Path.{ap, sym, ◌∙◌}
use mathlib.Core.List.{List}
use Rattle.meaning.specs.Filters.{Filter, filter_of}
use Rattle.meaning.specs.Actions.{actions_of}
use Rattle.meaning.specs.Groups.{fit}
use Rattle.meaning.specs.Plan.{held, fits_held}
use Rattle.meaning.specs.Calls.{code_given}
use Rattle.meaning.specs.declared.SetNumber.{SetNumber}
use Rattle.meaning.proofs.Telling.{told}
use Rattle.plan.specs.Layout.{plan_of}
use Rattle.rule_changes.proofs.Given.{code_bytes, none_fits}
use Rattle.rule_changes.proofs.fits_held.Goals as goal

pub returns-then-not-is_held : goal.returns-then-not-is_held
returns-then-not-is_held c = let m = c.args.plan.memory.now in
    let f : Filter = filter_of (code_given c.args.body.now) in
    none_fits f (held (plan_of m) c.set_number-set.result.0) (told c.is_held.ensures c.if-not-is_held.true)
    ∙ ap (λ (n : SetNumber). fits_held f (held (plan_of m) n.0)) c.set_number-set.ensures

pub content-requires : goal.content-requires
content-requires c = told c.is_held.ensures c.if-not-is_held.false

pub fits-requires : goal.fits-requires
fits-requires c =
    record {
      content_len = c.content.ensures.size;
      filter_bytes = rw c.code_given.ensures.is (code_bytes c.args.body.now c.requires.0.whole c.requires.0.range);
    }

pub returns : goal.returns
returns c = let m = c.args.plan.memory.now in
    let f : Filter = filter_of (code_given c.args.body.now) in
    c.fits.ensures
    ∙ (ap (λ (x : List ℕ). fit (filter_of x) (actions_of c.content.result.now)) c.code_given.ensures.is
    ∙ (sym (ap (fits_held f) c.content.ensures.is) ∙ ap (λ (n : SetNumber). fits_held f (held (plan_of m) n.0)) c.set_number-set.ensures))
