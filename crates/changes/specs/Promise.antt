-- What opening and the six provisioning calls promise, one record for all seven, and chains of such calls on one memory.
use Rattle.std.specs.Prelude.{ℕ, ◌≡◌, true, false, List, [], ◌∷◌, ◌++◌, length, drop}
use Rattle.std.proofs.Math.Option.{Option, none, some}
use Rattle.std.specs.Prelude.{if◌then◌else◌}
use Rattle.meaning.specs.Settings.{bytes_needed}
use Rattle.meaning.specs.Plan.{Plan, rooms_in}
use Rattle.meaning.specs.Refusals.{KIND}
use Rattle.meaning.specs.Calls.{Operation, Call, body_of, lacks_bytes, refusal, made, is_accepted, is_call, call_of}
use Rattle.plan.specs.Layout.{image}
use Rattle.plan.specs.State.{state_of}

-- the refusal table's number over the state of the memory, its length and the body; 0 accepted
abbrev pub number_for : Call → List ℕ → ℕ
number_for c m = refusal (lacks_bytes (length m)) (state_of m) c

-- the image of the plan that was made, and the bytes behind it as they were
abbrev pub memory_of : Option Plan → List ℕ → List ℕ
memory_of none m = m
memory_of (some p) m = image p ++ drop (bytes_needed (rooms_in p)) m

-- the memory after a call: as it was where the call is refused
unfoldable pub memory_after : Call → List ℕ → List ℕ
memory_after c m = if is_accepted (lacks_bytes (length m)) (state_of m) c then memory_of (made c.operation (state_of m) (body_of c)) m else m

-- THE PROMISE: the number answered, and the memory left
pub record Provides (c : Call) (m after : List ℕ) (number : ℕ) : Type 0 where
  pub number_is : number ≡ number_for c m
  pub memory_is : after ≡ memory_after c m

abbrev pub calls : Operation → List ℕ → Call
calls o b = record { operation = o; body = b }

-- the call of a kind; a byte that is no call's is refused with KIND, "unknown kind byte"
pub record Carries (kind : ℕ) (b m after : List ℕ) (number : ℕ) : Type 0 where
  pub call : is_call kind ≡ true → Provides (call_of kind b) m after number
  pub no_call : is_call kind ≡ false → (number ≡ KIND) × (after ≡ m)

-- calls on one memory, each getting it as the last one left it: the memory before, the calls, the numbers answered, the memory behind them
pub data Chain : List ℕ → List Call → List ℕ → List ℕ → Type 0 where
  done : {m : List ℕ} → Chain m [] [] m
  next : {c : Call} {cs : List Call} {r : ℕ} {rs m between after : List ℕ} → Provides c m between r → Chain between cs rs after → Chain m (c ∷ cs) (r ∷ rs) after
