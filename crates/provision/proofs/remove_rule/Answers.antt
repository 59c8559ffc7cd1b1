-- The call of its kind.
use mathlib.Core.Path.{refl}
use Rattle.meaning.specs.Calls.{is_call, operation_of}
use Rattle.provision.proofs.remove_rule.Goals as goal

pub returns : goal.returns
unfolding is_call operation_of
returns c = c.carry_out.ensures.call refl
