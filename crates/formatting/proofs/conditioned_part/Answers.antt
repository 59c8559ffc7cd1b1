-- By the tests; enough digits are not short.
use mathlib.Core.Path.{sym, ◌∙◌}
use Rattle.meaning.specs.Settings.{settings_of}
use Rattle.meaning.specs.Actions.{cas_of}
use Rattle.formatting.proofs.Values.{value_default, value_taken, value_not_default}
use Rattle.formatting.proofs.Conditioned.{stretch_enough}
use Rattle.formatting.proofs.conditioned_part.Goals as goal
use Rattle.formatting.proofs.conditioned_part.Goals.{else-has_code-via-then-has_code+else-v-eq-CC, else-has_code-via-else-has_code}

pub returns-then-v-eq-CC : goal.returns-then-v-eq-CC
returns-then-v-eq-CC c = let a = c.args in
    let default = sym c.has_code.ensures ∙ c.if-has_code.true in
    c.country_of.ensures ∙ value_default (settings_of a.settings.now).country a.digits.now a.prefix a.v (cas_of a.cas.now) c.if-v-eq-CC.true default

pub returns : goal.returns
returns c = let a = c.args in
    let country = (settings_of a.settings.now).country in
    c.stretch_in.ensures ∙ stretch_enough a.v a.prefix (cas_of a.cas.now) a.digits.now c.requires.enough
    ∙ elim c.else-has_code.branch [
      | else-has_code-via-then-has_code+else-v-eq-CC w ↦ value_taken country a.digits.now a.prefix a.v (cas_of a.cas.now) w.if-v-eq-CC.false
      | else-has_code-via-else-has_code w ↦ value_not_default country a.digits.now a.prefix a.v (cas_of a.cas.now) (sym c.has_code.ensures ∙ w.if-has_code.false)
    ]
