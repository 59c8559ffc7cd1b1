-- The areas pass exactly if the slots and rules that they hold are those of a sound plan, and their bytes are its image: slot by slot, both ways.
use Prim.Native.Nat.{ℕ, zero, suc, ◌+◌, ◌*◌, ◌≤◌}
use mathlib.Core.Path.{◌≡◌, refl, ap, ap₂, sym, ◌∙◌}
use mathlib.Core.Bool.{Bool, ◌&&◌}
use mathlib.Core.List.{List, [], ◌∷◌, ◌++◌, map, append-nil}
use mathlib.Core.Option.{Option}
use native.Mathlib.Omega.{arith}
use lib.ListN.{length, drop, length-drop, length-map, take-append-drop}
use lib.Seq.{take_all, drop_at, length-take-le}
use lib.Dec.{T}
use Rattle.meaning.specs.Sizes.{SET-WIDTH, RULE-WIDTH}
use Rattle.meaning.specs.Basics.{all, is_zero}
use Rattle.meaning.specs.Rules.{Rule, rules_in_order}
use Rattle.meaning.specs.Plan.{slot_passes, code_passes, rules_fit, codes_pass}
use Rattle.meaning.proofs.Tests.{and_left, and_right, and_both, each_all, all_at, all_both}
use Rattle.buffer.specs.Zeros.{zeros}
use Rattle.buffer.specs.Slots.{slots, flat, Wide}
use Rattle.buffer.proofs.ZeroLaws.{all_zeros, zeros_pass}
use Rattle.buffer.proofs.SlotLaws.{length_slots, length_flat, flat_slots, slots_flat, times_next}
use Rattle.filter.specs.Slots.{rule_of, rules_of}
use Rattle.filter.proofs.RuleLaws.{length_rules}
use Rattle.plan.specs.Layout.{slot_image, rule_image, slot_of, slots_of}
use Rattle.plan.proofs.ImageLaws.{slot_size, rule_size}
use Rattle.examiner.specs.Examined.{slot_test, set_fits, rule_test, areas_tests, areas_pass, bytes_pass}
use Rattle.blocks.proofs.EndianLaws.{Bytes, bytes_front, bytes_behind}
use Rattle.examiner.proofs.SetSlots.{slot_content, slot_image_lem, image_passes}
use Rattle.examiner.proofs.RuleSlots.{rule_code, rule_fits, rule_image_lem, rule_passes_lem}
use Rattle.examiner.proofs.Rises.{rising_order, order_rising}

-- SLOTS OF ANY KIND

-- each slot has w bytes
abbrev pub Slots : ℕ → List (List ℕ) → Type 0
Slots w [] = Unit
Slots w (s ∷ ss) = ((length s ≡ w) × Bytes s) × Slots w ss

pub cut_slots : (w n : ℕ) (m : List ℕ) → w * n ≤ length m → Bytes m → Slots w (slots w n m)
cut_slots w zero m h b = tt
cut_slots w (suc n) m h b =
    let e : w * suc n ≡ w + w * n = times_next w n in
    let long : w * n ≤ length (drop w m) = rw (length-drop w m) (omega arith) in
    ((length-take-le w m (omega arith), bytes_front w m b), cut_slots w n (drop w m) long (bytes_behind w m b))

-- f reads a slot, g is its image, `ok` the test of a slot and `good` that of what it holds
module _ {A : Type 0} (w : ℕ) (f : List ℕ → A) (g : A → List ℕ) (ok : List ℕ → Bool) (good : A → Bool) where
  pub reads_pass : ((s : List ℕ) → length s ≡ w → T (ok s) → T (good (f s))) → (ss : List (List ℕ)) → Slots w ss → T (all ok ss) → T (all good (map f ss))
  reads_pass h [] k t = tt
  reads_pass h (s ∷ ss) k t =
      and_both (good (f s)) (all good (map f ss)) (h s k.0.0 (and_left (ok s) (all ok ss) t)) (reads_pass h ss k.1 (and_right (ok s) (all ok ss) t))

  pub images_are : ((s : List ℕ) → length s ≡ w → Bytes s → T (ok s) → g (f s) ≡ s) → (ss : List (List ℕ)) → Slots w ss → T (all ok ss) → map g (map f ss) ≡ ss
  images_are h [] k t = refl
  images_are h (s ∷ ss) k t = ap₂ ◌∷◌ (h s k.0.0 k.0.1 (and_left (ok s) (all ok ss) t)) (images_are h ss k.1 (and_right (ok s) (all ok ss) t))

  pub images_pass : ((a : A) → T (good a) → T (ok (g a))) → (xs : List A) → T (all good xs) → T (all ok (map g xs))
  images_pass h [] t = tt
  images_pass h (x ∷ xs) t =
      and_both (ok (g x)) (all ok (map g xs)) (h x (and_left (good x) (all good xs) t)) (images_pass h xs (and_right (good x) (all good xs) t))

  pub images_wide : ((a : A) → T (good a) → length (g a) ≡ w) → (xs : List A) → T (all good xs) → Wide w (map g xs)
  images_wide h [] t = tt
  images_wide h (x ∷ xs) t = (h x (and_left (good x) (all good xs) t), images_wide h xs (and_right (good x) (all good xs) t))

-- the slots of bytes that begin with images
pub slots_are : {A : Type 0} (w n : ℕ) (g : A → List ℕ) (xs : List A) (rest m : List ℕ) → Wide w (map g xs) → length xs ≡ n → flat (map g xs) ++ rest ≡ m
    → slots w n m ≡ map g xs
slots_are w n g xs rest m wide many e = rw (← e, ← many, ← length-map xs g) (slots_flat w (map g xs) rest wide)

-- THE AREAS

pub length_sets : (n : ℕ) (m : List ℕ) → length (slots_of n m) ≡ n
unfolding slots_of
length_sets n m = length-map (slots SET-WIDTH n m) slot_of ∙ length_slots SET-WIDTH n m

abbrev rule_passes : Rule → Bool
rule_passes r = code_passes r.code

-- what the areas hold is a sound plan's, and their bytes are its image; `rest` is how many rule slots are free
module _ (room : ℕ) (sets : List ℕ) (count rest : ℕ) (rules : List ℕ) where
  pub record Held : Type 0 where
    pub pass : T (all slot_passes (slots_of room sets))
    pub codes : T (codes_pass (rules_of count rules))
    pub order : T (rules_in_order (rules_of count rules))
    pub fits : T (rules_fit (slots_of room sets) (rules_of count rules))
    pub set_bytes : flat (map (slot_image 0) (slots_of room sets)) ≡ sets
    pub rule_bytes : flat (map rule_image (rules_of count rules)) ++ zeros (RULE-WIDTH * rest) ≡ rules

  module _ (set_size : length sets ≡ SET-WIDTH * room) (rule-size-is : length rules ≡ RULE-WIDTH * count + RULE-WIDTH * rest) where
    pub held_of : Bytes sets → Bytes rules → T (bytes_pass room sets count rules) → Held
    unfolding areas_pass slots_of rules_of codes_pass rules_fit set_fits
    held_of b c t =
        let ss : List (List ℕ) = slots SET-WIDTH room sets in
        let rs : List (List ℕ) = slots RULE-WIDTH count rules in
        let s-are : Slots SET-WIDTH ss = cut_slots SET-WIDTH room sets (omega arith) b in
        let r-are : Slots RULE-WIDTH rs = cut_slots RULE-WIDTH count rules (omega arith) c in
        let s-pass : T (all slot_test ss) = all_at 0 (areas_tests ss rs (drop (RULE-WIDTH * count) rules)) t in
        let r-pass : T (all (rule_test ss) rs) = all_at 1 (areas_tests ss rs (drop (RULE-WIDTH * count) rules)) t in
        let free : drop (RULE-WIDTH * count) rules ≡ zeros (RULE-WIDTH * rest) =
        all_zeros (drop (RULE-WIDTH * count) rules) (all_at 3 (areas_tests ss rs (drop (RULE-WIDTH * count) rules)) t) ∙ ap zeros (length-drop (RULE-WIDTH * count) rules ∙ omega arith) in
        record {
          pass = reads_pass SET-WIDTH slot_of (slot_image 0) slot_test slot_passes slot_content ss s-are s-pass;
          codes = reads_pass RULE-WIDTH rule_of rule_image (rule_test ss) rule_passes (rule_code ss) rs r-are r-pass;
          order = rising_order (map rule_of rs) (all_at 2 (areas_tests ss rs (drop (RULE-WIDTH * count) rules)) t);
          fits = reads_pass RULE-WIDTH rule_of rule_image (rule_test ss) (set_fits ss) (rule_fits ss) rs r-are r-pass;
          set_bytes =
              ap flat (images_are SET-WIDTH slot_of (slot_image 0) slot_test slot_passes (λ s h k. slot_image_lem s h) ss s-are s-pass)
              ∙ flat_slots SET-WIDTH room sets ∙ take_all (SET-WIDTH * room) sets (omega arith);
          rule_bytes =
              ap₂ (λ (x y : List ℕ). x ++ y)
              (ap flat (images_are RULE-WIDTH rule_of rule_image (rule_test ss) rule_passes (λ s h k u. rule_image_lem ss s h u k) rs r-are r-pass) ∙ flat_slots RULE-WIDTH count rules)
              (sym free)
              ∙ take-append-drop (RULE-WIDTH * count) rules;
        }

  pub held_pass : Held → T (bytes_pass room sets count rules)
  unfolding areas_pass slots_of rules_of codes_pass rules_fit set_fits
  held_pass h =
      let ss : List (List ℕ) = slots SET-WIDTH room sets in
      let os : List (Option (List ℕ)) = slots_of room sets in
      let rules-in : List Rule = rules_of count rules in
      let rs : List (List ℕ) = slots RULE-WIDTH count rules in
      let s-wide : Wide SET-WIDTH (map (slot_image 0) os) = images_wide SET-WIDTH slot_of (slot_image 0) slot_test slot_passes (slot_size 0) os h.pass in
      let r-wide : Wide RULE-WIDTH (map rule_image rules-in) = images_wide RULE-WIDTH rule_of rule_image (rule_test ss) rule_passes rule_size rules-in h.codes in
      let s-slots : slots SET-WIDTH room sets ≡ map (slot_image 0) os =
      slots_are SET-WIDTH room (slot_image 0) os [] sets s-wide (length_sets room sets) (append-nil (flat (map (slot_image 0) os)) ∙ h.set_bytes) in
      let r-slots : slots RULE-WIDTH count rules ≡ map rule_image rules-in = slots_are RULE-WIDTH count rule_image rules-in (zeros (RULE-WIDTH * rest)) rules r-wide (length_rules count rules) h.rule_bytes in
      let many : length (flat (map rule_image rules-in)) ≡ RULE-WIDTH * count = length_flat RULE-WIDTH (map rule_image rules-in) r-wide ∙ ap (λ n. RULE-WIDTH * n) (length-map rules-in rule_image ∙ length_rules count rules) in
      let free : drop (RULE-WIDTH * count) rules ≡ zeros (RULE-WIDTH * rest) =
      ap (drop (RULE-WIDTH * count)) (sym h.rule_bytes) ∙ drop_at (flat (map rule_image rules-in)) (zeros (RULE-WIDTH * rest)) (RULE-WIDTH * count) many in
      let s-pass : T (all slot_test (slots SET-WIDTH room sets)) = rw s-slots (images_pass SET-WIDTH slot_of (slot_image 0) slot_test slot_passes image_passes os h.pass) in
      let r-pass : T (all (rule_test ss) (slots RULE-WIDTH count rules)) =
      rw r-slots (images_pass RULE-WIDTH rule_of rule_image (rule_test ss) (λ r. rule_passes r && set_fits ss r)
      (λ r t. rule_passes_lem ss r (and_left (rule_passes r) (set_fits ss r) t) (and_right (rule_passes r) (set_fits ss r) t))
      rules-in (all_both rule_passes (set_fits ss) rules-in h.codes h.fits)) in
      let unused : T (all is_zero (drop (RULE-WIDTH * count) rules)) = rw free (zeros_pass (RULE-WIDTH * rest)) in
      each_all (areas_tests ss rs (drop (RULE-WIDTH * count) rules)) (s-pass, (r-pass, (order_rising rules-in h.order, (unused, tt))))
