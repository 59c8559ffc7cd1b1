-- What the examiner tests is soundness: header, set slots and rule slots are each the image of the plan that the memory holds, in both directions.
use Prim.Native.Nat.{ℕ, ◌+◌, ◌-◌, ◌*◌}
use mathlib.Core.Path.{◌≡◌, ap, ap₂, sym, subst, ◌∙◌}
use mathlib.Core.Bool.{true, false}
use mathlib.Core.List.{List, ◌++◌, map, append_assoc}
use mathlib.Core.Option.{Option}
use native.Mathlib.Omega.{arith}
use lib.ListN.{length, take, drop, length-drop, take-append-drop}
use lib.Seq.{take-add, take_at, drop_at, length-take-le}
use lib.Dec.{T, le→leb}
use Rattle.meaning.specs.Sizes.{ROOMS-BYTES, SETTINGS-BYTES, SETTINGS-AT, SETS-AT, SET-WIDTH, RULE-WIDTH}
use Rattle.meaning.specs.Basics.{all}
use Rattle.meaning.specs.Settings.{bytes_needed}
use Rattle.meaning.specs.Rules.{Rule, rules_in_order}
use Rattle.meaning.specs.Plan.{slot_passes, codes_pass, rules_fit}
use Rattle.meaning.proofs.Tests.{true_is, and_left, and_right, and_both, each_all, same_tests, same_self}
use Rattle.meaning.proofs.Soundness.{Sound, sound_of_lem}
use Rattle.buffer.specs.Zeros.{zeros}
use Rattle.buffer.specs.Slots.{flat}
use Rattle.buffer.proofs.SlotLaws.{slots_part}
use Rattle.filter.specs.Slots.{rules_of}
use Rattle.filter.proofs.RuleLaws.{length_rules, rules_part}
use Rattle.plan.specs.Layout.{slot_image, rule_image, header_image, sets_image, rules_image, image, size_of, set_room, rule_room, rule_count, slot_of, slots_of, plan_of}
use Rattle.plan.specs.State.{sound_tests, sound_of}
use Rattle.plan.proofs.ImageLaws.{header_size, sets_size, SoundMemory, sound_memory}
use Rattle.examiner.specs.Examined.{fixed_pass, header_passes, bytes_pass, set_area, rule_area, body_pass, examined, Sized}
use Rattle.blocks.proofs.EndianLaws.{Bytes, bytes_front, bytes_behind}
use Rattle.examiner.proofs.Headers.{Header, header_parts, header_of, header_numbers, header_image_lem, image_fixed}
use Rattle.examiner.proofs.Held.{Held, length_sets, held_of, held_pass}

-- two joined lists that are equal, where their first parts are as long
append_same : (a b c d : List ℕ) (n : ℕ) → length a ≡ n → length c ≡ n → a ++ b ≡ c ++ d → (a ≡ c) × (b ≡ d)
append_same a b c d n h k e =
    (sym (take_at a b n h) ∙ ap (take n) e ∙ take_at c d n k, sym (drop_at a b n h) ∙ ap (drop n) e ∙ drop_at c d n k)

module _ (m : List ℕ) where
  abbrev sets : List ℕ
  sets = set_area (set_room m) m

  abbrev rules : List ℕ
  rules = rule_area (set_room m) (rule_room m) m

  abbrev free : ℕ
  free = rule_room m - rule_count m

  -- THE MEMORY'S PARTS

  bytes_parts : take (size_of m) m ≡ take SETS-AT m ++ (sets ++ rules)
  unfolding bytes_needed
  bytes_parts =
      take-add (SETS-AT + SET-WIDTH * set_room m) (RULE-WIDTH * rule_room m) m
      ∙ ap (λ (l : List ℕ). l ++ rules) (take-add SETS-AT (SET-WIDTH * set_room m) m) ∙ append_assoc (take SETS-AT m) sets rules

  slots_in : (plan_of m).slots ≡ slots_of (set_room m) sets
  unfolding plan_of slots_of
  slots_in = ap (map slot_of) (sym (slots_part SET-WIDTH (set_room m) (SET-WIDTH * set_room m) (drop SETS-AT m) (omega arith)))

  sets_image_lem : sets_image (plan_of m) ≡ flat (map (slot_image 0) (slots_of (set_room m) sets))
  unfolding sets_image
  sets_image_lem = ap (λ (os : List (Option (List ℕ))). flat (map (slot_image 0) os)) slots_in

  module _ (h : Header m) where
    rules_in : (plan_of m).rules ≡ rules_of (rule_count m) rules
    unfolding plan_of
    rules_in = sym (rules_part (rule_count m) (RULE-WIDTH * rule_room m) (drop (SETS-AT + SET-WIDTH * set_room m) m) (omega (arith, h.held)))

    rules_image_lem : rules_image (plan_of m) ≡ flat (map rule_image (rules_of (rule_count m) rules)) ++ zeros (RULE-WIDTH * free)
    unfolding rules_image plan_of
    rules_image_lem =
        ap (λ (rs : List Rule). flat (map rule_image rs) ++ zeros (RULE-WIDTH * (rule_room m - length rs))) rules_in
        ∙ ap (λ n. flat (map rule_image (rules_of (rule_count m) rules)) ++ zeros (RULE-WIDTH * (rule_room m - n))) (length_rules (rule_count m) rules)

    set_size : length sets ≡ SET-WIDTH * set_room m
    set_size = let n = header_numbers m h in length-take-le (SET-WIDTH * set_room m) (drop SETS-AT m) (rw (length-drop SETS-AT m) (omega arith))

    rule_size : length rules ≡ RULE-WIDTH * rule_count m + RULE-WIDTH * free
    rule_size =
        let n = header_numbers m h in
        length-take-le (RULE-WIDTH * rule_room m) (drop (SETS-AT + SET-WIDTH * set_room m) m) (rw (length-drop (SETS-AT + SET-WIDTH * set_room m) m) (omega arith)) ∙ omega arith

  -- A MEMORY THAT PASSES IS SOUND

  module _ (h : Header m) (k : Held (set_room m) sets (rule_count m) free rules) where
    plan_sound : Sound (plan_of m)
    unfolding plan_of
    plan_sound =
        record {
          rooms_size = length-take-le ROOMS-BYTES (drop 8 m) (rw (length-drop 8 m) (omega (arith, h.whole)));
          rooms_range = h.rooms;
          settings_size = length-take-le SETTINGS-BYTES (drop SETTINGS-AT m) (rw (length-drop SETTINGS-AT m) (omega (arith, h.whole)));
          settings_range = h.settings;
          room = length_sets (set_room m) (drop SETS-AT m);
          pass = subst (λ (os : List (Option (List ℕ))). T (all slot_passes os)) (sym slots_in) k.pass;
          few = rw (length_rules (rule_count m) (drop (SETS-AT + SET-WIDTH * set_room m) m)) h.held;
          codes = subst (λ (rs : List Rule). T (codes_pass rs)) (sym (rules_in h)) k.codes;
          order = subst (λ (rs : List Rule). T (rules_in_order rs)) (sym (rules_in h)) k.order;
          fits = subst T (sym (ap₂ rules_fit slots_in (rules_in h))) k.fits;
        }

    own_bytes : Bytes m → take (size_of m) m ≡ image (plan_of m)
    unfolding image
    own_bytes b =
        let header : header_image (plan_of m) ≡ take SETS-AT m = header_image_lem m h b in
        let behind : sets_image (plan_of m) ++ rules_image (plan_of m) ≡ sets ++ rules =
        ap₂ (λ (x y : List ℕ). x ++ y) (sets_image_lem ∙ k.set_bytes) (rules_image_lem h ∙ k.rule_bytes) in
        bytes_parts ∙ sym (ap₂ (λ (x y : List ℕ). x ++ y) header behind)

    passing_sound : Bytes m → T (sound_of m)
    unfolding sound_of
    passing_sound b =
        each_all (sound_tests m) (
          le→leb SETS-AT (length m) h.whole,
          (le→leb (size_of m) (length m) h.fits, (sound_of_lem (plan_of m) plan_sound, (rw (own_bytes b) (same_self (image (plan_of m))), tt))),
        )

  -- A SOUND MEMORY PASSES

  module _ (s : SoundMemory m) where
    -- the header's bytes, and those behind it
    cut_header : (take SETS-AT m ≡ header_image (plan_of m)) × (sets ++ rules ≡ sets_image (plan_of m) ++ rules_image (plan_of m))
    unfolding image
    cut_header =
        append_same (take SETS-AT m) (sets ++ rules) (header_image (plan_of m)) (sets_image (plan_of m) ++ rules_image (plan_of m)) SETS-AT (length-take-le SETS-AT m s.header)
        (header_size (plan_of m) s.plan) (sym bytes_parts ∙ s.own)

    sound_header : Header m
    unfolding plan_of
    sound_header =
        let again : header_image (plan_of m) ++ drop SETS-AT m ≡ m = ap (λ (l : List ℕ). l ++ drop SETS-AT m) (sym cut_header.0) ∙ take-append-drop SETS-AT m in
        record {
          whole = s.header;
          fixed = subst (λ (l : List ℕ). T (fixed_pass l)) again (image_fixed (plan_of m) s.plan (drop SETS-AT m));
          rooms = s.plan.rooms_range;
          settings = s.plan.settings_range;
          held = rw (length_rules (rule_count m) (drop (SETS-AT + SET-WIDTH * set_room m) m)) at s.plan.few;
          fits = s.fits;
        }

    cut_sets : (sets ≡ sets_image (plan_of m)) × (rules ≡ rules_image (plan_of m))
    unfolding plan_of
    cut_sets =
        append_same sets rules (sets_image (plan_of m)) (rules_image (plan_of m)) (SET-WIDTH * set_room m) (set_size sound_header) (sets_size (plan_of m) s.plan) cut_header.1

    sound_held : Held (set_room m) sets (rule_count m) free rules
    sound_held =
        let rs-in : (plan_of m).rules ≡ rules_of (rule_count m) rules = rules_in sound_header in
        record {
          pass = subst (λ (os : List (Option (List ℕ))). T (all slot_passes os)) slots_in s.plan.pass;
          codes = subst (λ (rs : List Rule). T (codes_pass rs)) rs-in s.plan.codes;
          order = subst (λ (rs : List Rule). T (rules_in_order rs)) rs-in s.plan.order;
          fits = subst T (ap₂ rules_fit slots_in rs-in) s.plan.fits;
          set_bytes = sym (cut_sets.0 ∙ sets_image_lem);
          rule_bytes = sym (cut_sets.1 ∙ rules_image_lem sound_header);
        }

  -- THE BRIDGE

  pub examined_sound : Bytes m → examined m ≡ sound_of m
  unfolding examined
  examined_sound b = same_tests (examined m) (sound_of m) to from
    where
      to : T (examined m) → T (sound_of m)
      to t =
          let h : Header m = header_parts m (and_left (header_passes m) (bytes_pass (set_room m) sets (rule_count m) rules) t) in
          let k : Held (set_room m) sets (rule_count m) free rules =
          held_of (set_room m) sets (rule_count m) free rules (set_size h) (rule_size h) (bytes_front (SET-WIDTH * set_room m) (drop SETS-AT m) (bytes_behind SETS-AT m b))
          (bytes_front (RULE-WIDTH * rule_room m) (drop (SETS-AT + SET-WIDTH * set_room m) m) (bytes_behind (SETS-AT + SET-WIDTH * set_room m) m b))
          (and_right (header_passes m) (bytes_pass (set_room m) sets (rule_count m) rules) t) in
          passing_sound h k b

      from : T (sound_of m) → T (examined m)
      from t =
          let s : SoundMemory m = sound_memory m t in
          and_both (header_passes m) (bytes_pass (set_room m) sets (rule_count m) rules) (header_of m (sound_header s))
          (held_pass (set_room m) sets (rule_count m) free rules (sound_held s))

  -- THE TWO TESTS

  pub header_fails : Bytes m → header_passes m ≡ false → sound_of m ≡ false
  unfolding examined
  header_fails b e = sym (examined_sound b) ∙ rw e

  module _ (passed : header_passes m ≡ true) where
    pub body_numbers : Sized (set_room m) (rule_room m) (rule_count m) m
    body_numbers = header_numbers m (header_parts m (true_is (header_passes m) passed))

    pub body_decides : Bytes m → sound_of m ≡ body_pass m
    unfolding examined
    body_decides b = sym (examined_sound b) ∙ rw passed
