-- A header passes exactly if its bytes are the image's header and its fields are in range; and the numbers that it gives.
use Prim.Native.Nat.{ℕ, ◌+◌, ◌-◌, ◌≤◌}
use mathlib.Core.Path.{◌≡◌, refl, ap, ap₂, sym, ◌∙◌}
use mathlib.Core.List.{List, [], ◌∷◌, ◌++◌, append_assoc}
use native.Mathlib.Omega.{arith}
use lib.ListN.{length, take, drop}
use lib.Seq.{take-add, take_at, drop-drop, drop_at}
use lib.Dec.{T, eqb, eqb→eq, leb, leb→le, le→leb}
use Rattle.meaning.specs.Sizes.{ROOMS-BYTES, SETTINGS-BYTES, OPENING-BYTES, SETTINGS-AT, SETTINGS-END, SETS-AT}
use Rattle.meaning.specs.Basics.{all, is_zero, word, within, part, begins_with}
use Rattle.meaning.specs.Settings.{rooms_of, rooms_in_range, bytes_needed, settings_in_range}
use Rattle.meaning.specs.Plan.{Plan}
use Rattle.meaning.proofs.Tests.{and_left, and_right, each_all, all_at}
use Rattle.meaning.proofs.Soundness.{Sound}
use Rattle.buffer.specs.Zeros.{zeros}
use Rattle.buffer.proofs.ZeroLaws.{length_zeros, zeros_pass}
use Rattle.filter.proofs.RuleLaws.{length_rules}
use Rattle.plan.specs.Layout.{word_bytes, mark, header_image, rooms_at, size_of, set_room, rule_room, rule_count, rules_from, plan_of}
use Rattle.plan.proofs.ImageLaws.{two_unused}
use Rattle.examiner.specs.Examined.{fixed_tests, fixed_pass, opening_tests, opening_passes, size_tests, sizes_pass, header_tests, header_passes, Sized}
use Rattle.blocks.proofs.EndianLaws.{Bytes}
use Rattle.examiner.proofs.Bytes.{word_again, part_zeros}

-- WHAT A HEADER THAT PASSES HAS

pub record Header (m : List ℕ) : Type 0 where
  pub whole : SETS-AT ≤ length m
  pub fixed : T (fixed_pass m)
  pub rooms : T (rooms_in_range (rooms_at m))
  pub settings : T (settings_in_range (part SETTINGS-AT SETTINGS-BYTES m))
  pub held : rule_count m ≤ rule_room m
  pub fits : size_of m ≤ length m

pub header_parts : (m : List ℕ) → T (header_passes m) → Header m
unfolding header_passes opening_passes sizes_pass
header_parts m t =
    let opening : T (opening_passes m) = all_at 2 (header_tests m) t in
    let sizes : T (sizes_pass m) = all_at 3 (header_tests m) t in
    record {
      whole = leb→le SETS-AT (length m) (all_at 0 (header_tests m) t);
      fixed = all_at 1 (header_tests m) t;
      rooms = all_at 0 (opening_tests m) opening;
      settings = all_at 1 (opening_tests m) opening;
      held = leb→le (rule_count m) (rule_room m) (all_at 0 (size_tests m) sizes);
      fits = leb→le (size_of m) (length m) (all_at 1 (size_tests m) sizes);
    }

pub header_of : (m : List ℕ) → Header m → T (header_passes m)
unfolding header_passes opening_passes sizes_pass
header_of m h =
    each_all (header_tests m) (
      le→leb SETS-AT (length m) h.whole,
      (
        h.fixed,
        (
          each_all (opening_tests m) (h.rooms, (h.settings, tt)),
          (each_all (size_tests m) (le→leb (rule_count m) (rule_room m) h.held, (le→leb (size_of m) (length m) h.fits, tt)), tt),
        ),
      ),
    )

-- the rooms, the count and the size, as numbers
pub header_numbers : (m : List ℕ) → Header m → Sized (set_room m) (rule_room m) (rule_count m) m
unfolding rooms_in_range rooms_of bytes_needed
header_numbers m h =
    let b : List ℕ = rooms_at m in
    let sets : T (within 1 1024 (word b 0)) = and_left (within 1 1024 (word b 0)) (within 1 4096 (word b 2)) h.rooms in
    let rules : T (within 1 4096 (word b 2)) = and_right (within 1 1024 (word b 0)) (within 1 4096 (word b 2)) h.rooms in
    record {
      few_sets = leb→le (word b 0) 1024 (and_right (leb 1 (word b 0)) (leb (word b 0) 1024) sets);
      few_rules = leb→le (word b 2) 4096 (and_right (leb 1 (word b 2)) (leb (word b 2) 4096) rules);
      held = h.held;
      size = h.fits;
    }

-- THE HEADER'S BYTES

-- a part and the part behind it
part_next : (a n k : ℕ) (m : List ℕ) → take (n + k) (drop a m) ≡ take n (drop a m) ++ take k (drop (a + n) m)
part_next a n k m = take-add n k (drop a m) ∙ rw (drop-drop n a m)

begins_taken : (p m : List ℕ) → T (begins_with p m) → take (length p) m ≡ p
begins_taken [] m t = refl
begins_taken (x ∷ p) [] t = absurd t
begins_taken (x ∷ p) (y ∷ m) t =
    ap₂ ◌∷◌ (sym (eqb→eq x y (and_left (eqb x y) (begins_with p m) t))) (begins_taken p m (and_right (eqb x y) (begins_with p m) t))

pub header_image_lem : (m : List ℕ) → Header m → Bytes m → header_image (plan_of m) ≡ take SETS-AT m
unfolding header_image plan_of fixed_pass
header_image_lem m h bytes =
    let whole : SETS-AT ≤ length m = h.whole in
    let marked : take 4 m ≡ mark = begins_taken mark m (all_at 0 (fixed_tests m) h.fixed) in
    let count : part 4 2 m ≡ word_bytes (rule_count m) = sym (ap (take 2) (word_again m 4 (omega arith) bytes)) in
    let unused : part 6 2 m ≡ zeros 2 = part_zeros 6 2 m (omega arith) (all_at 1 (fixed_tests m) h.fixed) in
    let rest : ℕ = SETS-AT - SETTINGS-END in
    let last : part SETTINGS-END rest m ≡ zeros rest = part_zeros SETTINGS-END rest m (omega arith) (all_at 2 (fixed_tests m) h.fixed) in
    let parts : take SETS-AT m ≡ take 4 m ++ (part 4 2 m ++ (part 6 2 m ++ (rooms_at m ++ (part SETTINGS-AT SETTINGS-BYTES m ++ part SETTINGS-END rest m)))) =
    part_next 0 4 (SETS-AT - 4) m
    ∙ rw (part_next 4 2 (SETS-AT - 6) m, part_next 6 2 (SETS-AT - 8) m, part_next 8 ROOMS-BYTES (SETS-AT - SETTINGS-AT) m, part_next SETTINGS-AT SETTINGS-BYTES rest m) in
    sym (parts ∙ rw (marked, count, unused, last, length_rules (rule_count m) (rules_from m)))

-- the bytes that the image's header has alike for every plan
module _ (p : Plan) (s : Sound p) (rest : List ℕ) where
  abbrev unused : List ℕ
  unused = zeros (SETS-AT - SETTINGS-END)

  header_shape : header_image p ++ rest ≡ mark ++ (word_bytes (length p.rules) ++ 0 ∷ 0 ∷ (p.rooms ++ (p.settings ++ (unused ++ rest))))
  unfolding header_image
  header_shape = rw two_unused (simp append_assoc)

  pub image_fixed : T (fixed_pass (header_image p ++ rest))
  unfolding fixed_pass
  image_fixed =
      let opening : List ℕ = p.rooms ++ (p.settings ++ (unused ++ rest)) in
      let behind : drop OPENING-BYTES opening ≡ unused ++ rest =
      sym (drop-drop SETTINGS-BYTES ROOMS-BYTES opening) ∙ ap (drop SETTINGS-BYTES) (drop_at p.rooms (p.settings ++ (unused ++ rest)) ROOMS-BYTES s.rooms_size)
      ∙ drop_at p.settings (unused ++ rest) SETTINGS-BYTES s.settings_size in
      let last : T (all is_zero (take (SETS-AT - SETTINGS-END) (drop OPENING-BYTES opening))) =
      rw (behind, take_at unused rest (SETS-AT - SETTINGS-END) (length_zeros (SETS-AT - SETTINGS-END))) (zeros_pass (SETS-AT - SETTINGS-END)) in
      rw header_shape (each_all (fixed_tests (mark ++ (word_bytes (length p.rules) ++ 0 ∷ 0 ∷ opening))) (tt, (tt, (last, tt))))
