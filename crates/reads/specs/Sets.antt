-- Whether a set is there to be read.
use Rattle.std.specs.Prelude.{ℕ, Bool, if◌then◌else◌, Result, Ok, Err}
use Rattle.meaning.specs.Basics.{is_some}
use Rattle.meaning.specs.Plan.{Plan, held}
use Rattle.meaning.specs.Reads.{over_room}
use Rattle.meaning.specs.declared.Refusal.{Refusal}
use Rattle.meaning.specs.declared.Refusal.TheVariants.{Range, Absent}

-- "a set number at or over the room", and one that is not held
abbrev pub there_by : Bool → Bool → Result Unit Refusal
there_by over_room held = if over_room then Err Range else if held then Ok tt else Err Absent

abbrev pub set_there : Plan → ℕ → Result Unit Refusal
set_there p n = there_by (over_room p n) (is_some (held p n))
