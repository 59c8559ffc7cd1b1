-- What opening and provisioning promise in a run of the program: "A program run uses at most 64 sets and 512 rules (more is ROOM there)".
use Rattle.std.specs.Prelude.{ℕ, ◌≤◌, ◌≡◌, Bool, List, length}
use Rattle.meaning.specs.Sizes.{RUN-BYTES}
use Rattle.meaning.specs.Calls.{Call, refusal, after}
use Rattle.meaning.specs.Records.{lacks_program_room}
use Rattle.plan.specs.State.{sound_of, state_of}
use Rattle.changes.specs.Promise.{memory_of}

-- the memory of a run, which has room for every plan of it; `opened`: it holds a sound plan
pub record InRun (m : List ℕ) (opened : Bool) : Type 0 where
  pub room : RUN-BYTES ≤ length m
  pub state : sound_of m ≡ opened

-- opening and provisioning in a run: the table's number, and the memory that is left; "more is ROOM there"
pub record RunProvides (c : Call) (m after_it : List ℕ) (number : ℕ) : Type 0 where
  pub number_is : number ≡ refusal lacks_program_room (state_of m) c
  pub memory_is : after_it ≡ memory_of (after lacks_program_room (state_of m) c) m
