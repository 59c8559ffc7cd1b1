-- What was run is a chain of calls on one memory, so that every law of chains speaks of it.
use Prim.Native.Nat.{ℕ, suc, ◌≤◌}
use mathlib.Core.Path.{◌≡◌, refl, ap, sym, subst, ◌∙◌}
use mathlib.Core.List.{List, [], ◌∷◌, ◌++◌, append_assoc}
use native.Mathlib.Omega.{arith}
use lib.ListN.{length, take, drop, length-append}
use lib.Seq.{take_at, drop_at}
use lib.Dec.{eqb, eqb→eq}
use borrow.Author.Tests.{le-leb}
use Rattle.meaning.specs.Calls.{open_plan, Call, is_call, kind_of, body_length}
use Rattle.meaning.proofs.Tests.{is_true, and_left, and_right}
use Rattle.meaning.proofs.CallKinds.{kind_back}
use Rattle.changes.specs.Promise.{memory_after, Provides, calls, Chain, done, next}
use Rattle.history.specs.Replays.{Replays, calls_in, numbers_of, memory_behind, records_of, whole_bodies, RunsEvery}
use Rattle.history.specs.Claim.{EveryReplay}
use Rattle.history.proofs.Demand3.{demand3}

pub chain_behind : (cs : List Call) (m : List ℕ) → Chain m cs (numbers_of cs m) (memory_behind cs m)
chain_behind [] m = done
chain_behind (c ∷ cs) m = next (record { number_is = refl; memory_is = refl }) (chain_behind cs (memory_after c m))

pub replay_chain : (m bytes numbers after written : List ℕ) (count : ℕ) → Replays m bytes numbers after written count
    → Chain m (calls_in (length numbers) bytes) (numbers_of (calls_in (length numbers) bytes) m) after
replay_chain m bytes numbers after written count r = rw r.memory_is (chain_behind (calls_in (length numbers) bytes) m)

-- A LIST THAT BEGINS WITH AN ACCEPTED OPENING

numbers_long : (cs : List Call) (m : List ℕ) → length (numbers_of cs m) ≡ length cs
numbers_long [] m = refl
numbers_long (c ∷ cs) m = ap suc (numbers_long cs (memory_after c m))

-- the numbers written are those of the calls carried out
pub numbers_written : (m bytes numbers after written : List ℕ) (count : ℕ) → Replays m bytes numbers after written count
    → take count written ≡ numbers_of (calls_in (length numbers) bytes) m
numbers_written m bytes numbers after written count r =
    let ns : List ℕ = numbers_of (calls_in (length numbers) bytes) m in
    let n : count ≡ length ns = r.count_is ∙ sym (numbers_long (calls_in (length numbers) bytes) m) in
    rw r.numbers_are (take_at ns (drop (length ns) numbers) count (sym n))

pub replayed : EveryReplay
replayed m bytes numbers after written count r b cs rest first accepted =
    let chain : Chain m (calls open_plan b ∷ cs) (0 ∷ rest) after =
    subst (λ (ns : List ℕ). Chain m (calls open_plan b ∷ cs) ns after) (sym (numbers_written m bytes numbers after written count r) ∙ accepted)
    (subst (λ (l : List Call). Chain m l (numbers_of (calls_in (length numbers) bytes) m) after) first (replay_chain m bytes numbers after written count r)) in
    demand3 m after b cs rest chain

-- EVERY LIST OF WHOLE CALLS IS CARRIED OUT

pub runs_every : RunsEvery
runs_every [] t rest = refl
runs_every (c ∷ cs) t rest =
    let k : ℕ = kind_of c.operation in
    let long : length c.body ≡ body_length k = eqb→eq _ _ (and_left (eqb (length c.body) (body_length k)) (whole_bodies cs) t) in
    let behind : List ℕ = records_of cs ++ rest in
    let bytes : (c.body ++ records_of cs) ++ rest ≡ c.body ++ behind = append_assoc c.body (records_of cs) rest in
    let fits : body_length k ≤ length (c.body ++ behind) = rw (length-append c.body behind, long) (omega arith) in
    let front : take (body_length k) (c.body ++ behind) ≡ c.body = take_at c.body behind (body_length k) long in
    let left : drop (body_length k) (c.body ++ behind) ≡ behind = drop_at c.body behind (body_length k) long in
    rw (
      bytes,
      is_true (is_call k) (kind_back c.operation).1,
      le-leb (body_length k) (length (c.body ++ behind)) fits,
      front,
      left,
      (kind_back c.operation).0,
      runs_every cs (and_right (eqb (length c.body) (body_length k)) (whole_bodies cs) t) rest,
    )
