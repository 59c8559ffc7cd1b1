-- The codes that are left, from the stage reached, decide (`Going`).
use Prim.Native.Nat.{◌+◌, ◌<◌}
use mathlib.Core.Path.{◌≡◌, ap, ◌∙◌}
use native.Mathlib.Omega.{arith}
use lib.ListN.{length, get_or, length-set}
use borrow.Author.Rules.{rules}
use Rattle.meaning.specs.Sizes.{ANSWERS-AT}
use Rattle.actions.specs.Reading.{codes_left}
use Rattle.actions.proofs.Walks.{some_code}
use Rattle.services.specs.Stages.{no_effect, code_listed}
use Rattle.services.proofs.Stages.{carries}
use Rattle.services.proofs.Going.{going_none, going_more, served_all, served_responded}
use Rattle.services.proofs.serve.Goals as goal
use Rattle.services.proofs.serve.Goals.{in-None, in-Some+then-effect-gt-RELAY}

pub loop-code-init : goal.loop-code-init
loop-code-init c = let codes = ap codes_left c.into_iter-code-iterator.ensures.into_iter_gives ∙ c.codes_in-code-items.ensures in
    let none : c.default-effect.result ≡ no_effect = search rules in
    rw none (going_none c.args.places _ _ _ (search rules) c.requires.few codes)

pub loop-code-preserved : goal.loop-code-preserved
loop-code-preserved c = let l = c.loop-code in
    let goes = c.in-Some.ensures.steps in
    let f = c.is_unsuccessful-fails in
    let answer = get_or c.args.settings.now (ANSWERS-AT + c.from.result) 0 in
    let some = some_code l.code-iterator.0.now goes in
    let room : l.count < length l.actions = omega (arith, l.invariant.few, l.invariant.long, ap length goes) in
    let o = carries l.actions l.count l.effect room f.result answer c.in-Some.code some in
    let long = length-set l.actions l.count (code_listed c.in-Some.code) ∙ l.invariant.long in
    rw (c.carry_out-effect.ensures, c.code_listed.ensures) (going_more l.invariant goes c.if-effect-gt-RELAY.false long f.ensures c.requires.kind (ap (λ k. get_or c.args.settings.now (ANSWERS-AT + k) 0) c.from.ensures) o)

pub returns : goal.returns
returns c = elim c.match-next.branch [
  | in-None w ↦ served_all c.loop-code.invariant w.in-None.ensures.steps.0
  | in-Some+then-effect-gt-RELAY w ↦ served_responded c.loop-code.invariant w.in-Some.ensures.steps w.if-effect-gt-RELAY.true
]
