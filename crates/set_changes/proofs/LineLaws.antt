-- What the leaves of the calls about sets read: the bytes that rooms need, a set's number below the room, and a set in use.
use Prim.Native.Nat.{ℕ, ◌+◌, ◌*◌, ◌≤◌, ◌<◌}
use mathlib.Core.Path.{◌≡◌, refl, sym, ◌∙◌}
use mathlib.Core.Logic.{◌≢◌}
use mathlib.Core.Bool.{Bool, true, false, true≢false}
use mathlib.Core.List.{List}
use native.Mathlib.Omega.{arith}
use lib.Seq.{get_or-take}
use lib.Dec.{ltb, lit<}
use borrow.Author.Tests.{lt-ltb, le-ltb, ltb-false, leb-false}
use Rattle.meaning.specs.Sizes.{ROOMS-BYTES, SETS-AT, SET-WIDTH, RULE-WIDTH}
use Rattle.meaning.specs.Basics.{any, word}
use Rattle.meaning.specs.Refusals.{first_of}
use Rattle.meaning.specs.Settings.{rooms_of, bytes_needed}
use Rattle.meaning.specs.Rules.{names}
use Rattle.meaning.specs.Plan.{Plan, referrers}
use Rattle.meaning.specs.Reads.{over_room}
use Rattle.meaning.specs.Calls.{opened_rooms, set_number, lacks_bytes, opening_lines}
use Rattle.meaning.specs.Answers.{set_of}
use Rattle.meaning.specs.declared.SetNumber.{SetNumber}
use Rattle.meaning.proofs.Tests.{is_false, none_counted, passed_at}
use Rattle.plan.specs.Layout.{set_room, plan_of}

-- the bytes that the rooms need, as they are read from the body
needed : (b : List ℕ) → bytes_needed (rooms_of (opened_rooms b)) ≡ SETS-AT + SET-WIDTH * word b 0 + RULE-WIDTH * word b 2
unfolding bytes_needed rooms_of
needed b = rw (get_or-take ROOMS-BYTES b 0 0 (lit< tt), get_or-take ROOMS-BYTES b 1 0 (lit< tt), get_or-take ROOMS-BYTES b 2 0 (lit< tt), get_or-take ROOMS-BYTES b 3 0 (lit< tt))

pub lacks_is : (size : ℕ) (b : List ℕ) (sets rules : ℕ) → sets ≡ word b 0 → rules ≡ word b 2
    → ltb size (SETS-AT + SET-WIDTH * sets + RULE-WIDTH * rules) ≡ lacks_bytes size (opened_rooms b)
lacks_is size b sets rules e f = rw (e, f, needed b)

-- where opening is accepted, the memory has the bytes that the rooms need
pub opened_fits : (size : ℕ) (b : List ℕ) → first_of (opening_lines (lacks_bytes size) b) ≡ 0 → bytes_needed (rooms_of (opened_rooms b)) ≤ size
unfolding opening_lines
opened_fits size b e =
    ltb-false size (bytes_needed (rooms_of (opened_rooms b))) (is_false (lacks_bytes size (opened_rooms b)) (passed_at 1 (opening_lines (lacks_bytes size) b) tt e))

-- a set is in use exactly if the rules naming it are not 0
pub in_use : (p : Plan) (n k : ℕ) → k ≡ referrers p n → ltb 0 k ≡ any (names n) p.rules
unfolding referrers
in_use p n k e = go (any (names n) p.rules) refl
  where
    go : (u : Bool) → any (names n) p.rules ≡ u → ltb 0 k ≡ u
    go true q =
        let some-name : k ≢ 0 = λ z. true≢false (sym q ∙ (none_counted (names n) p.rules).1 (sym e ∙ z)) in
        lt-ltb 0 k (omega (arith, some-name))
    go false q = le-ltb 0 k (omega (arith, e, (none_counted (names n) p.rules).0 q))

-- a set's number that is not over the room is below it; `set` is the number that the body gives
pub below_room : (m b : List ℕ) (set : SetNumber) → set ≡ set_of (set_number b) → over_room (plan_of m) (set_number b) ≡ false → set.0 < set_room m
unfolding plan_of
below_room m b set set_is e = rw set_is (leb-false (set_room m) (set_number b) e)
