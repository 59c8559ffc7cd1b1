-- A byte is an outgoing class exactly if the class type knows it.
use Prim.Native.Nat.{ℕ}
use mathlib.Core.Path.{◌≡◌, refl, ap, ◌∙◌}
use mathlib.Core.Bool.{Bool, true, false, ◌||◌}
use lib.Dec.{eqb}
use Rattle.std.specs.Prelude.{if◌then◌else◌, Ok, Err}
use Rattle.std.specs.Result.{is_ok}
use Rattle.meaning.specs.Settings.{is_class, AS-INCOMING, is_outgoing_class}
use Rattle.meaning.specs.Answers.{outgoing_of, class_numbered, given}
use Rattle.meaning.specs.declared.Outgoing.TheVariants.{AsIncoming}
use Rattle.actions.proofs.is_outgoing_class.Goals as goal

known_is : (c : ℕ) → is_ok (outgoing_of c) ≡ is_outgoing_class c
known_is c = go (eqb c AS-INCOMING) (is_class c)
  where
    go : (e l : Bool) → is_ok (if e then Ok AsIncoming else given (if l then Ok (class_numbered c) else Err (record { 0 = c }))) ≡ (l || e)
    go true true = refl
    go true false = refl
    go false true = refl
    go false false = refl

pub returns : goal.returns
returns c = c.is_ok.ensures.value ∙ ap is_ok c.try_from.ensures ∙ known_is c.args.b
