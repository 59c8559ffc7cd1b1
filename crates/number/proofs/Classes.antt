-- What a byte says as an outgoing class decides the class that is answered.
use Prim.Native.Nat.{ℕ}
use mathlib.Core.Path.{◌≡◌, refl, ap, sym, ◌∙◌}
use mathlib.Core.Bool.{Bool, true, false}
use lib.Dec.{eqb}
use Rattle.std.specs.Prelude.{if◌then◌else◌, Result, Ok, Err}
use Rattle.meaning.specs.Settings.{is_class, AS-INCOMING}
use Rattle.meaning.specs.Answer.{outgoing_class}
use Rattle.meaning.specs.Answers.{code_of, class_numbered, given, outgoing_of}
use Rattle.meaning.specs.declared.Outgoing.{Outgoing}
use Rattle.meaning.specs.declared.Outgoing.TheVariants.{Given, AsIncoming}
use Rattle.meaning.specs.declared.UnknownClass.{UnknownClass}

module _ (set incoming : ℕ) where
  abbrev pub class_sent : Result Outgoing UnknownClass → ℕ
  class_sent (Ok (Given class)) = code_of class
  class_sent (Ok AsIncoming) = incoming
  class_sent (Err e) = set

  pub class_is : (r s : Result Outgoing UnknownClass) → r ≡ outgoing_of set → r ≡ s → class_sent s ≡ outgoing_class set incoming
  unfolding outgoing_class
  class_is r s is q = ap class_sent (sym q ∙ is) ∙ go (eqb set AS-INCOMING) (is_class set)
    where
      go : (a b : Bool) → class_sent (if a then Ok AsIncoming else given (if b then Ok (class_numbered set) else Err (record { 0 = set }))) ≡ (if a then incoming else set)
      go true b = refl
      go false true = refl
      go false false = refl
