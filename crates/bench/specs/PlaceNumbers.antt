-- A place as a number.
use Rattle.std.specs.Prelude.{ℕ}
use Rattle.std.proofs.Math.Option.{Option, none, some}

-- the place of a rule, 65,535 for none
abbrev pub place_number : Option ℕ → ℕ
place_number none = 65535
place_number (some k) = k
