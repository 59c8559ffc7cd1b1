-- An opening that is accepted keeps its promise, and what an accepted change of a set leaves: the image of the plan made, and the rest.
use Prim.Native.Nat.{ℕ}
use mathlib.Core.Path.{◌≡◌, ap, ◌∙◌}
use mathlib.Core.List.{List, ◌++◌}
use mathlib.Core.Option.{none, some}
use native.Mathlib.Omega.{arith}
use lib.ListN.{length, drop}
use lib.Seq.{take_all}
use Rattle.meaning.specs.Sizes.{OPENING-BYTES}
use Rattle.meaning.specs.Refusals.{first_of}
use Rattle.meaning.specs.Settings.{rooms_of, bytes_needed}
use Rattle.meaning.specs.Plan.{fresh, with_slot}
use Rattle.meaning.specs.Calls.{open_plan, body_length, opened_rooms, opened_settings, set_number, content_given, lacks_bytes, opening_lines}
use Rattle.meaning.specs.Answers.{set_of}
use Rattle.meaning.specs.declared.SetNumber.{SetNumber}
use Rattle.plan.specs.Layout.{image, plan_of}
use Rattle.plan.specs.State.{rest_of}
use Rattle.changes.specs.Promise.{number_for, Provides, calls}
use Rattle.changes.proofs.PromiseLaws.{number_whole, accepted}

-- OPENING

module _ (m b : List ℕ) (size : length b ≡ OPENING-BYTES) where
  -- the number of an opening is that of its checks
  pub opening_number : number_for (calls open_plan b) m ≡ first_of (opening_lines (lacks_bytes (length m)) b)
  unfolding body_length
  opening_number =
      number_whole open_plan m b (omega arith) ∙ ap (λ (x : List ℕ). first_of (opening_lines (lacks_bytes (length m)) x)) (take_all OPENING-BYTES b (omega arith))

  pub opened : (after : List ℕ) → first_of (opening_lines (lacks_bytes (length m)) b) ≡ 0
      → after ≡ image (fresh (opened_rooms b) (opened_settings b)) ++ drop (bytes_needed (rooms_of (opened_rooms b))) m → Provides (calls open_plan b) m after 0
  unfolding body_length fresh
  opened after e f =
      rw f (accepted (calls open_plan b) m (fresh (opened_rooms b) (opened_settings b)) (opening_number ∙ e) (rw (take_all OPENING-BYTES b (omega arith))))

-- THE CALLS ABOUT SETS: the set and the content are those that the body gives

module _ (m b : List ℕ) {set : SetNumber} {after : List ℕ} (set_is : set ≡ set_of (set_number b)) where
  pub stored : {content : List ℕ} → content ≡ content_given b → after ≡ image (with_slot set.0 (some content) (plan_of m)) ++ rest_of m
      → after ≡ image (with_slot (set_number b) (some (content_given b)) (plan_of m)) ++ rest_of m
  stored e f = f ∙ rw (set_is, e)

  pub cleared : after ≡ image (with_slot set.0 none (plan_of m)) ++ rest_of m → after ≡ image (with_slot (set_number b) none (plan_of m)) ++ rest_of m
  cleared f = f ∙ rw set_is
