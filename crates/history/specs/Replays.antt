-- What running a list of calls promises: which calls the bytes hold, the number of each, and what all of them leave.
use Rattle.std.specs.Prelude.{ℕ, zero, suc, ◌≡◌, Bool, ◌&&◌, List, [], ◌∷◌, ◌++◌, length, take, drop, T, leb, eqb}
use Rattle.meaning.specs.Basics.{all, written_over}
use Rattle.std.specs.Prelude.{if◌then◌else◌}
use Rattle.meaning.specs.Calls.{Call, is_call, kind_of, body_length, call_of}
use Rattle.changes.specs.Promise.{number_for, memory_after}

-- the bytes begin with a whole record of a call
abbrev pub begins_call : ℕ → List ℕ → Bool
begins_call k bytes = is_call k && leb (body_length k) (length bytes)

-- the calls that bytes hold, at most `room` of them: up to the first byte that is no kind of a call, or the first record that is cut
abbrev pub calls_in : ℕ → List ℕ → List Call
calls_in zero bytes = []
calls_in (suc room) [] = []
calls_in (suc room) (k ∷ bytes) =
    let rest : List Call = calls_in room (drop (body_length k) bytes) in
    if begins_call k bytes then call_of k (take (body_length k) bytes) ∷ rest else []

-- each call gets the memory as the last one left it: the number of each, and the memory behind them all
abbrev pub numbers_of : List Call → List ℕ → List ℕ
numbers_of [] m = []
numbers_of (c ∷ cs) m = number_for c m ∷ numbers_of cs (memory_after c m)

abbrev pub memory_behind : List Call → List ℕ → List ℕ
memory_behind [] m = m
memory_behind (c ∷ cs) m = memory_behind cs (memory_after c m)

-- THE PROMISE: how many calls were carried out, the number of each at the front of `numbers`, and the memory that they leave
pub record Replays (m bytes numbers after written : List ℕ) (count : ℕ) : Type 0 where
  pub count_is : count ≡ length (calls_in (length numbers) bytes)
  pub numbers_are : written ≡ written_over (numbers_of (calls_in (length numbers) bytes) m) numbers
  pub memory_is : after ≡ memory_behind (calls_in (length numbers) bytes) m

-- EVERY LIST OF WHOLE CALLS IS CARRIED OUT, whatever stands behind it

-- the records of some calls, one behind the other
abbrev pub records_of : List Call → List ℕ
records_of [] = []
records_of (c ∷ cs) = kind_of c.operation ∷ (c.body ++ records_of cs)

-- each body is just as long as its kind says
abbrev pub whole_bodies : List Call → Bool
whole_bodies cs = all (λ (c : Call). eqb (length c.body) (body_length (kind_of c.operation))) cs

abbrev pub RunsEvery : Type 0
RunsEvery = (cs : List Call) → T (whole_bodies cs) → (rest : List ℕ) → calls_in (length cs) (records_of cs ++ rest) ≡ cs
