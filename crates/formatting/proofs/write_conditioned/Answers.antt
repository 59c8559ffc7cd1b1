-- At `end` the values of the codes before v are written and the rest is as it was (`JoiningOver`); each step gets the part from there on.
use Prim.Native.Nat.{ℕ, ◌+◌, ◌<◌}
use native.Mathlib.Omega.{arith}
use native.Mathlib.Numerals.{add-one}
use mathlib.Core.Path.{◌≡◌}
use mathlib.Core.List.{List, ◌∷◌}
use lib.ListN.{length, drop, get_or, length-take, length-drop, drop_of_length-le}
use lib.Seq.{drop-cons}
use borrow.Author.Rules.{rules}
use Rattle.formatting.proofs.Conditioned.{conditioned_room, conditioned_writes, over_long, over_all, over_room_lem, over_more}
use Rattle.formatting.proofs.write_conditioned.Goals as goal

goes_on : (codes : List ℕ) (i : ℕ) → i < length codes → drop i codes ≡ get_or codes i 0 ∷ drop (i + 1) codes
goes_on codes i h = rw (add-one, drop-cons codes i 0)

pub copy-requires : goal.copy-requires
copy-requires c = let a = c.args in
    let l = c.loop-v in
    let codes = c.conditioned_codes-v-items in
    let all = conditioned_room a.settings.now a.digits.now a.cas.now a.prefix codes.ensures c.requires.1 in
    let room = over_room_lem l.invariant.1 (goes_on codes.result.now l.v-index c.loop-v-test.true) _ c.conditioned_part-value.ensures all in
    simp (length-take, length-drop) (omega arith)

pub loop-v-preserved : goal.loop-v-preserved
loop-v-preserved c = let a = c.args in
    let l = c.loop-v in
    let codes = c.conditioned_codes-v-items in
    let all = conditioned_room a.settings.now a.digits.now a.cas.now a.prefix codes.ensures c.requires.1 in
    let g = over_more l.invariant.1 (goes_on codes.result.now l.v-index c.loop-v-test.true) _ c.conditioned_part-value.ensures all _ c.copy.ensures in
    (over_long g, g)

pub returns : goal.returns
returns c = let a = c.args in
    let codes = c.conditioned_codes-v-items in
    conditioned_writes a.settings.now a.digits.now a.cas.now a.prefix codes.ensures
    (over_all c.loop-v.invariant.1 (drop_of_length-le codes.result.now (search rules)))
