-- What is at hand in a turn, by what was left and by what the system answered.
use Prim.Native.Nat.{ℕ, ◌+◌, ◌-◌, ◌≤◌}
use mathlib.Core.Path.{◌≡◌, refl, ap, sym, subst, ◌∙◌}
use mathlib.Core.Logic.{◌⊎◌, inl, inr}
use mathlib.Core.Bool.{Bool, true, false, not}
use mathlib.Core.List.{List}
use native.Mathlib.Omega.{arith}
use lib.ListN.{length, take, drop, length-append, length-drop}
use lib.Seq.{take_at, length-take-le}
use Rattle.meaning.specs.Basics.{written_over}
use Rattle.std.specs.Prelude.{if◌then◌else◌}
use Rattle.record.specs.Turns.{is_whole}
use Rattle.descriptors.specs.Moves.{FillPromise}
use Rattle.descriptors.proofs.MoveLaws.{Got, got}
use Rattle.descriptors.specs.declared.AtHand.{AtHand}
use Rattle.stream.specs.Turnings.{left_of, left_in, must_read, SuppliesBy, GatherPromise}
use Rattle.stream.specs.declared.Rest.{Rest}

pub record Hand (rest : Rest) (input input_left : List ℕ) (h : AtHand) : Type 0 where
  pub long : length input_left ≡ length input
  pub more : left_of rest ≤ h.end
  pub inside : h.end ≤ length input
  pub kept : take (left_of rest) input_left ≡ left_in rest input
  pub counted : h.source.given ≡ rest.source.given + (h.end - left_of rest)
  -- nothing is read behind the end
  pub ended_none : rest.source.ended ≡ true → (h.end ≡ left_of rest) × (h.source.ended ≡ true)
  -- where nothing more is at hand, the input has ended, or a whole record was left
  pub idle_why : h.source.failed ≡ false → h.end ≡ left_of rest → (h.source.ended ≡ true) ⊎ (is_whole (left_in rest input) ≡ true)

module _ (rest : Rest) (input input_left : List ℕ) (h : AtHand) (placed : rest.at ≤ rest.end) (inside : rest.end ≤ length input) (s : GatherPromise rest input input_left h) where
  abbrev left : ℕ
  left = left_of rest

  -- what was left, moved to the front
  abbrev moved : List ℕ
  moved = written_over (left_in rest input) input

  left_long : length (left_in rest input) ≡ left
  left_long = length-take-le left (drop rest.at input) (rw (length-drop rest.at input) (omega arith))

  front : take left moved ≡ left_in rest input
  front = take_at (left_in rest input) (drop (length (left_in rest input)) input) left left_long

  size : length moved ≡ length input
  size = length-append (left_in rest input) (drop (length (left_in rest input)) input) ∙ rw (length-drop (length (left_in rest input)) input, left_long) (omega (arith, inside))

  room : left ≤ length input
  room = omega (arith, inside)

  -- no read was made
  not_asked : must_read rest.source (left_in rest input) ≡ false → h ≡ record { end = left; source = rest.source } → input_left ≡ moved → Hand rest input input_left h
  not_asked why e same =
      subst (Hand rest input input_left) (sym e)
      (record {
        long = ap length same ∙ size;
        more = omega arith;
        inside = room;
        kept = ap (take left) same ∙ front;
        counted = omega arith;
        ended_none = λ t. (refl, t);
        idle_why = λ f n. go rest.source.ended (is_whole (left_in rest input)) refl refl why;
      })
    where
      go : (b w : Bool) → rest.source.ended ≡ b → is_whole (left_in rest input) ≡ w → (if b then false else not w) ≡ false
          → (rest.source.ended ≡ true) ⊎ (is_whole (left_in rest input) ≡ true)
      go true w e f y = inl e
      go false true e f y = inr f
      go false false e f y = absurd (let z : ◌≡◌ {A = ℕ} 0 1 = cc in omega arith)

  -- a read was made, so that the input had not ended
  module _ (why : must_read rest.source (left_in rest input) ≡ true) (q : FillPromise rest.source left moved input_left h) where
    not_ended : rest.source.ended ≡ true → ⊥
    not_ended e = let y : (if true then false else not (is_whole (left_in rest input))) ≡ true = rw e at why in let z : ◌≡◌ {A = ℕ} 0 1 = cc in omega arith

    filled : Hand rest input input_left h
    filled =
        let g : Got rest.source left moved h = got (omega (arith, room, size)) q in
        record {
          long = q.same_size ∙ size;
          more = g.more;
          inside = omega (arith, g.inside, size);
          kept = q.kept ∙ front;
          counted = g.counted;
          ended_none = λ t. absurd (not_ended t);
          idle_why = λ f none. inl (g.none_ends f none);
        }

  pub hand_facts : Hand rest input input_left h
  hand_facts = go (must_read rest.source (left_in rest input)) refl (rw front at s)
    where
      go : (b : Bool) → must_read rest.source (left_in rest input) ≡ b → SuppliesBy b rest.source left moved input_left h → Hand rest input input_left h
      go false why q = not_asked why q.0 q.1
      go true why q = filled why q
