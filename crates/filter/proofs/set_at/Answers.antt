-- The set number stands at its place in the slot.
use mathlib.Core.Path.{sym, ap, ◌∙◌}
use Prim.Native.Nat.{◌*◌}
use Rattle.meaning.specs.Sizes.{RULE-WIDTH}
use Rattle.meaning.specs.Answers.{set_of}
use Rattle.filter.proofs.RuleLaws.{set_read}
use Rattle.filter.proofs.set_at.Goals as goal

pub returns : goal.returns
returns c =
    let a = c.args in
    ap set_of (c.word-n.ensures.is ∙ rw c.from.ensures (sym (set_read (RULE-WIDTH * a.place.0) a.rules.now)))
