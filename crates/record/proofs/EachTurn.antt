-- What holds of every turn.
use Prim.Native.Nat.{ℕ, ◌+◌, ◌≤◌}
use mathlib.Core.Path.{◌≡◌, refl}
use mathlib.Core.Bool.{Bool, true, false, not}
use mathlib.Core.List.{List, [], ◌∷◌}
use mathlib.Core.Option.{Option, none, some}
use lib.ListN.{length, take}
use lib.Dec.{ltb}
use borrow.Author.Tests.{ltb-false}
use Rattle.std.specs.Prelude.{if◌then◌else◌}
use Rattle.meaning.specs.Refusals.{KIND, CUT}
use Rattle.meaning.specs.Calls.{is_kind, body_length}
use Rattle.meaning.specs.Records.{House, no_line, record_house}
use Rattle.text.specs.Writes.{LONGEST}
use Rattle.record.specs.Turns.{Turn, wrote, wants, full, ends, record_part, turn_by, record_turn, turn_at, turn}

-- what holds of each line of a record holds of its turn
pub each_line : (P : Turn → Type 0) (s : House) (lines k : ℕ) (body : List ℕ) → P (wrote (record_part s lines k body).text (1 + body_length k) (record_house s k body) 0)
    → ((next : ℕ) → (record_part s lines k body).next ≡ some next → P (wrote (record_part s lines k body).text 0 s next)) → P (record_turn s lines k body)
unfolding record_turn
each_line P s lines k body last more = go (record_part s lines k body).next refl
  where
    go : (o : Option ℕ) → (record_part s lines k body).next ≡ o → P (turn_by s k body (record_part s lines k body).text o)
    go none e = last
    go (some next) e = more next e

-- and what holds of the turns of all whole records, of a step's own and of one that writes no line, holds of every turn
pub each_turn : (P : Turn → Type 0) (s : House) (lines : ℕ) (ended : Bool) (part : List ℕ) (room : ℕ) → P wants → P full → ((text : List ℕ) (refusal : ℕ) → P (ends text refusal))
    → ((k : ℕ) (bytes : List ℕ) → part ≡ k ∷ bytes → body_length k ≤ length bytes → P (record_turn s lines k (take (body_length k) bytes))) → P (turn s lines ended part room)
unfolding turn_at
each_turn P s lines true [] room w f e r = e [] 0
each_turn P s lines false [] room w f e r = w
each_turn P s lines ended (k ∷ bytes) room w f e r = go (ltb room LONGEST) (is_kind k) (ltb (length bytes) (body_length k)) ended refl
  where
    go : (a b c d : Bool) → ltb (length bytes) (body_length k) ≡ c
        → P (if a then full else if not b then ends (no_line KIND) KIND else if c then (if d then ends (no_line CUT) CUT else wants) else record_turn s lines k (take (body_length k) bytes))
    go true b c d q = f
    go false false c d q = e (no_line KIND) KIND
    go false true true true q = e (no_line CUT) CUT
    go false true true false q = w
    go false true false d q = r k bytes refl (ltb-false (length bytes) (body_length k) q)
