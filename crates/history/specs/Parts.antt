-- What the parts of `replay` promise: whether a whole record begins.
use Rattle.std.specs.Prelude.{ℕ, Bool, false, List, [], ◌∷◌}
use Rattle.history.specs.Replays.{begins_call}

-- there is a kind, and a whole record of it
abbrev pub begins_whole : List ℕ → Bool
begins_whole [] = false
begins_whole (k ∷ bytes) = begins_call k bytes
