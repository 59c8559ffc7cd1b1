-- The first byte of a slot says whether the set is held.
use mathlib.Core.Path.{sym, ap, ◌∙◌}
use mathlib.Core.Bool.{not}
use Prim.Native.Nat.{ℕ}
use native.Mathlib.Omega.{arith}
use lib.ListN.{get_or}
use borrow.Author.Tests.{leb-true, leb-false}
use Rattle.meaning.specs.Basics.{is_some, is_zero}
use Rattle.meaning.proofs.Telling.{told}
use Rattle.plan.specs.Layout.{set_room, plan_of}
use Rattle.plan.proofs.ReadLaws.{numbers, held_over, held_byte}
use Rattle.plan.proofs.SoundPlan.is_held.Goals as goal

pub returns-then-is_over_room : goal.returns-then-is_over_room
unfolding plan_of
returns-then-is_over_room c = let m = c.args.self.memory.now in
    let n = c.args.set.0 in
    sym (ap is_some (held_over m n (leb-true (set_room m) n (told c.is_over_room.ensures c.if-is_over_room.true))))

pub bounds-self-at : goal.bounds-self-at
unfolding plan_of
bounds-self-at c = let m = c.args.self.memory.now in
    let n = c.args.set.0 in
    omega (arith, numbers m c.args.self.sound, leb-false (set_room m) n (told c.is_over_room.ensures c.if-is_over_room.false))

pub returns : goal.returns
unfolding plan_of
returns c = let m = c.args.self.memory.now in
    let n = c.args.set.0 in
    ap (λ (at : ℕ). not (is_zero (get_or m at 0))) c.set_start-at.ensures
    ∙ sym (held_byte m n (leb-false (set_room m) n (told c.is_over_room.ensures c.if-is_over_room.false)))
