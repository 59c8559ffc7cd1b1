-- A byte is a class exactly if the class type knows it.
use Prim.Native.Nat.{ℕ}
use mathlib.Core.Path.{◌≡◌, refl, ap, ◌∙◌}
use mathlib.Core.Bool.{Bool, true, false}
use Rattle.std.specs.Prelude.{if◌then◌else◌, Ok, Err}
use Rattle.std.specs.Result.{is_ok}
use Rattle.meaning.specs.Settings.{is_class}
use Rattle.meaning.specs.Answers.{class_of, class_numbered}
use Rattle.meaning.specs.declared.UnknownClass.{UnknownClass}
use Rattle.ranges.proofs.is_class.Goals as goal

known_is : (c : ℕ) → is_ok (class_of c) ≡ is_class c
known_is c = go (is_class c)
  where
    go : (l : Bool) → is_ok {E = UnknownClass} (if l then Ok (class_numbered c) else Err (record { 0 = c })) ≡ l
    go true = refl
    go false = refl

pub returns : goal.returns
returns c = c.is_ok.ensures.value ∙ ap is_ok c.try_from.ensures ∙ known_is c.args.b
