-- A run of unused bytes. Shut, so that a goal with 24 of them does not spell them out.
use Rattle.std.specs.Prelude.{ℕ, List, replicate}

-- n bytes of 0
unfoldable pub zeros : ℕ → List ℕ
zeros n = replicate n 0
