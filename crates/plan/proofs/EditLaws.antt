-- What each edit makes of the memory: bytes written to one slot, to the rule area and the count, or to a fresh memory, are the edited plan's
-- image. Every law is in the shape that the code has it.
use Prim.Native.Nat.{ℕ, zero, suc, ◌+◌, ◌-◌, ◌*◌, ◌/◌, ◌%◌, ◌≤◌, ◌<◌}
use mathlib.Core.Path.{◌≡◌, refl, ap, ap₂, sym, ◌∙◌}
use mathlib.Core.Bool.{true}
use mathlib.Core.List.{List, [], ◌∷◌, ◌++◌, map, append_assoc, append-nil}
use mathlib.Core.Option.{Option, none, some}
use native.Mathlib.Omega.{arith}
use native.Mathlib.Nat.{mul-suc, mul-zero, sub-zero}
use lib.ListN.{length, take, drop, get_or, set, replicate, length-append, length-map, length-set, get_or-map}
use lib.Seq.{take_at, drop_at, take-append-add, drop-append-add, append_snoc, set_at, length-take-le, drop-drop}
use borrow.Rule.Slice.PartMut.{put_mid, mid_of, Post-is, mid_len}
use Rattle.meaning.specs.Sizes.{ROOMS-BYTES, SETTINGS-BYTES, CONTENT-BYTES, FILTER-BYTES, SET-AT, RULE-BODY, SETTINGS-AT, SETTINGS-END, SETS-AT, CONTENT-AT, COUNT-AT, SET-WIDTH, RULE-WIDTH}
use Rattle.meaning.specs.Basics.{written_over}
use Rattle.meaning.specs.Settings.{rooms_of, bytes_needed}
use Rattle.meaning.specs.Rules.{Rule}
use Rattle.meaning.specs.Plan.{Plan, rooms_in, fresh, with_slot, with_rules}
use Rattle.meaning.specs.History.{no_rule}
use Rattle.meaning.proofs.Tests.{all_place}
use Rattle.meaning.proofs.Soundness.{Sound}
use Rattle.buffer.proofs.ListLaws.{map_set, map_insert, map_remove, length_insert, length_remove, element_at, rest_back, rest_is}
use Rattle.buffer.specs.Bytes.{with_word}
use Rattle.buffer.specs.Zeros.{zeros}
use Rattle.buffer.specs.Slots.{slots, flat, Wide, with_slots, insert_at, remove_at}
use Rattle.buffer.proofs.ZeroLaws.{length_zeros, zeros_add}
use Rattle.buffer.proofs.SlotLaws.{flat_append, length_flat, slots_flat, slot_at, set_bytes}
use Rattle.plan.specs.Layout.{word_bytes, mark, header_image, slot_image, rule_image, sets_image, rules_image, image, set_room, rule_room, rule_count, plan_of}
use Rattle.plan.specs.State.{sound_of, rest_of}
use Rattle.plan.specs.Edits.{rule_with, renamed_at}
use Rattle.plan.proofs.ImageLaws.{wide_sets, wide_rules, rule_passes, codes, code_size, header_size, sets_size, rule_area_lem}
use Rattle.plan.proofs.ReadLaws.{sound_is, numbers, rule_count_is}

-- LISTS

-- a two-byte number put over two bytes
pub word_between : (a : List ℕ) (x y : ℕ) (t : List ℕ) (at v : ℕ) → length a ≡ at → with_word (a ++ x ∷ y ∷ t) at v ≡ a ++ (word_bytes v ++ t)
unfolding with_word
word_between a x y t at v l =
    let first : set (a ++ x ∷ y ∷ t) at (v / 256) ≡ a ++ v / 256 ∷ y ∷ t = set_at a x (y ∷ t) (v / 256) at l in
    let long : length (a ++ v / 256 ∷ []) ≡ at + 1 = length-append a (v / 256 ∷ []) ∙ ap (λ n. n + 1) l in
    let second : set (a ++ v / 256 ∷ [] ++ y ∷ t) (at + 1) (v % 256) ≡ a ++ v / 256 ∷ [] ++ v % 256 ∷ t = set_at (a ++ v / 256 ∷ []) y t (v % 256) (at + 1) long in
    rw (first, ← append_snoc a (v / 256) (y ∷ t), second) (append_snoc a (v / 256) (v % 256 ∷ t))

-- x put over slot n of the slots that stand between h and t
pub put_among : (w n at : ℕ) (h : List ℕ) (ss : List (List ℕ)) (t x : List ℕ) → length h ≡ at → Wide w ss → n < length ss
    → put_mid (at + w * n) (at + w * n + w - (at + w * n)) (h ++ (flat ss ++ t)) x ≡ h ++ (flat (set ss n x) ++ t)
put_among w n at h ss t x l wide k =
    let area : List ℕ = flat ss ++ t in
    let a : ℕ = at + w * n in
    let end : a + w ≡ at + w * suc n = rw (mul-suc w n) (omega arith) in
    let front : take a (h ++ area) ≡ h ++ take (w * n) area = ap (λ (j : ℕ). take (j + w * n) (h ++ area)) (sym l) ∙ take-append-add h area (w * n) in
    let behind : drop (a + w) (h ++ area) ≡ drop (w * suc n) area =
    ap (λ (j : ℕ). drop j (h ++ area)) end ∙ (ap (λ (j : ℕ). drop (j + w * suc n) (h ++ area)) (sym l) ∙ drop-append-add h area (w * suc n)) in
    let cut : slots w (length ss) area ≡ ss = slots_flat w ss t wide in
    let rest : drop (w * length ss) area ≡ t = drop_at (flat ss) t (w * length ss) (length_flat w ss wide) in
    let inner : take (w * n) area ++ (x ++ drop (w * suc n) area) ≡ flat (set ss n x) ++ t =
    sym (set_bytes w n (length ss) area x k) ∙ ap₂ (λ (us : List (List ℕ)) (u : List ℕ). flat (set us n x) ++ u) cut rest in
    ap (λ (u : List ℕ). take a (h ++ area) ++ (x ++ u)) (Post-is a (a + w) (h ++ area) (omega arith))
    ∙ (ap₂ (λ (u v : List ℕ). u ++ (x ++ v)) front behind ∙ (append_assoc h (take (w * n) area) (x ++ drop (w * suc n) area) ∙ ap (λ (u : List ℕ). h ++ u) inner))

-- ONE SET

module _ (p : Plan) (s : Sound p) (r : List ℕ) where
  abbrev sets : List (List ℕ)
  sets = map (slot_image 0) p.slots

  sets_between : image p ++ r ≡ header_image p ++ (flat sets ++ (rules_image p ++ r))
  unfolding image sets_image
  sets_between = simp append_assoc

  module _ (n : ℕ) (o : Option (List ℕ)) where
    same_header : header_image (with_slot n o p) ≡ header_image p
    unfolding header_image with_slot
    same_header = refl

    same_rules : rules_image (with_slot n o p) ≡ rules_image p
    unfolding rules_image with_slot
    same_rules = refl

    slot_set : sets_image (with_slot n o p) ≡ flat (set sets n (slot_image 0 o))
    unfolding sets_image with_slot
    slot_set = ap flat (map_set (slot_image 0) n o p.slots)

    slot_between : image (with_slot n o p) ++ r ≡ header_image p ++ (flat (set sets n (slot_image 0 o)) ++ (rules_image p ++ r))
    unfolding image
    slot_between = rw (same_header, same_rules, slot_set) (simp append_assoc)

  slot_put : (n : ℕ) (o : Option (List ℕ)) → n < (rooms_in p).sets
      → put_mid (SETS-AT + SET-WIDTH * n) (SETS-AT + SET-WIDTH * n + SET-WIDTH - (SETS-AT + SET-WIDTH * n)) (image p ++ r) (slot_image 0 o) ≡ image (with_slot n o p) ++ r
  slot_put n o h =
      let many : length sets ≡ (rooms_in p).sets = length-map p.slots (slot_image 0) ∙ s.room in
      rw (sets_between, slot_between n o)
      (put_among SET-WIDTH n SETS-AT (header_image p) sets (rules_image p ++ r) (slot_image 0 o) (header_size p s) (wide_sets 0 p.slots s.pass) (rw many h))

-- the number 0 is two unused bytes
empty_word : zeros 2 ≡ word_bytes 0
unfolding zeros
empty_word = refl

-- a slot that is not held is all 0
pub empty_slot : slot_image 0 none ≡ zeros SET-WIDTH
empty_slot = rw (← empty_word) (zeros_add COUNT-AT 2)

-- slot n lent, and its image left in it
pub slot_stored : (m : List ℕ) (n a : ℕ) (o : Option (List ℕ)) (ys : List ℕ) → sound_of m ≡ true → n < set_room m → a ≡ SETS-AT + SET-WIDTH * n → ys ≡ slot_image 0 o
    → put_mid a (a + SET-WIDTH - a) m ys ≡ image (with_slot n o (plan_of m)) ++ rest_of m
unfolding plan_of
slot_stored m n a o ys e h a-is y =
    let s = sound_is m e in
    rw (a-is, y) (ap (λ (l : List ℕ). put_mid (SETS-AT + SET-WIDTH * n) (SETS-AT + SET-WIDTH * n + SET-WIDTH - (SETS-AT + SET-WIDTH * n)) l (slot_image 0 o)) s.bytes ∙ slot_put (plan_of m) s.plan (rest_of m) n o h)

-- slot n lent, and cleared
pub slot_cleared : (m : List ℕ) (n a : ℕ) (ys : List ℕ) → sound_of m ≡ true → n < set_room m → a ≡ SETS-AT + SET-WIDTH * n → ys ≡ zeros (length (mid_of a (a + SET-WIDTH - a) m))
    → put_mid a (a + SET-WIDTH - a) m ys ≡ image (with_slot n none (plan_of m)) ++ rest_of m
slot_cleared m n a ys e h a-is y =
    let width : a + SET-WIDTH - a ≡ SET-WIDTH = omega arith in
    let size : length (mid_of a (a + SET-WIDTH - a) m) ≡ SET-WIDTH = mid_len a (a + SET-WIDTH) m (omega (arith, numbers m e)) ∙ width in
    slot_stored m n a none ys e h a-is (y ∙ (ap zeros size ∙ sym empty_slot))

-- THE RULE AREA AND THE COUNT

-- where the rule slots begin
abbrev rules_at : Plan → ℕ
rules_at p = SETS-AT + SET-WIDTH * (rooms_in p).sets

-- the free slots behind n rules
abbrev free : Plan → ℕ → List ℕ
free p n = zeros (RULE-WIDTH * ((rooms_in p).rules - n))

module _ (p : Plan) (s : Sound p) (r : List ℕ) where
  abbrev many : ℕ
  many = length p.rules

  abbrev rules : List (List ℕ)
  rules = map rule_image p.rules

  rules_wide : Wide RULE-WIDTH rules
  rules_wide = wide_rules p.rules (codes p s)

  rules_long : length (flat rules) ≡ RULE-WIDTH * many
  rules_long = length_flat RULE-WIDTH rules rules_wide ∙ ap (λ n. RULE-WIDTH * n) (length-map p.rules rule_image)

  area_is : rules_image p ++ r ≡ flat rules ++ (free p many ++ r)
  unfolding rules_image
  area_is = append_assoc (flat rules) (free p many) r

  area_slots : slots RULE-WIDTH many (rules_image p ++ r) ≡ rules
  area_slots =
      rw (area_is, ← length-map p.rules rule_image) (slots_flat RULE-WIDTH rules (free p (length rules) ++ r) rules_wide)

  front_size : length (header_image p ++ sets_image p) ≡ rules_at p
  front_size = rw (length-append (header_image p) (sets_image p), header_size p s, sets_size p s)

  front_between : image p ++ r ≡ (header_image p ++ sets_image p) ++ (rules_image p ++ r)
  unfolding image
  front_between = simp append_assoc

  -- the count and the area of other rules
  module _ (rs : List Rule) where
    count_put : (t : List ℕ) → with_word (header_image p ++ t) 4 (length rs) ≡ header_image (with_rules rs p) ++ t
    unfolding header_image with_rules with_word
    count_put t = refl

    other_header : length rs ≡ many → header_image (with_rules rs p) ≡ header_image p
    unfolding header_image with_rules
    other_header e = rw e

    other_area : rules_image (with_rules rs p) ≡ flat (map rule_image rs) ++ free p (length rs)
    unfolding rules_image with_rules
    other_area = refl

    other_sets : sets_image (with_rules rs p) ≡ sets_image p
    unfolding sets_image with_rules
    other_sets = refl

    -- as many rules as before leave the header as it is
    same_count : length rs ≡ many → image (with_rules rs p) ++ r ≡ (header_image p ++ sets_image p) ++ (flat (map rule_image rs) ++ (free p many ++ r))
    unfolding image
    same_count e = rw (other_header e, other_area, other_sets, e) (simp append_assoc)

    rules_written : with_word (header_image p ++ sets_image p ++ (flat (map rule_image rs) ++ (free p (length rs) ++ r))) 4 (length rs) ≡ image (with_rules rs p) ++ r
    unfolding image
    rules_written =
        let t : List ℕ = flat (map rule_image rs) ++ (free p (length rs) ++ r) in
        rw (append_assoc (header_image p) (sets_image p) t, count_put (sets_image p ++ t), other_area, other_sets) (simp append_assoc)

  -- a slot put in
  module _ (k : ℕ) (x : Rule) (place : k ≤ many) (room : many < (rooms_in p).rules) where
    area_inserted : with_slots RULE-WIDTH (many + 1) (insert_at k (rule_image x) (slots RULE-WIDTH many (rules_image p ++ r))) (rules_image p ++ r)
        ≡ flat (map rule_image (insert_at k x p.rules)) ++ (free p (length (insert_at k x p.rules)) ++ r)
    area_inserted =
        let count : length (insert_at k x p.rules) ≡ suc many = length_insert k x p.rules place in
        let size : RULE-WIDTH * ((rooms_in p).rules - many) ≡ RULE-WIDTH + RULE-WIDTH * ((rooms_in p).rules - suc many) = omega arith in
        let split : free p many ++ r ≡ zeros RULE-WIDTH ++ (free p (suc many) ++ r) =
        ap (λ (n : ℕ). zeros n ++ r) size ∙ (ap (λ (l : List ℕ). l ++ r) (sym (zeros_add RULE-WIDTH (RULE-WIDTH * ((rooms_in p).rules - suc many)))) ∙ append_assoc (zeros RULE-WIDTH) (free p (suc many)) r) in
        let regroup : rules_image p ++ r ≡ (flat rules ++ zeros RULE-WIDTH) ++ (free p (suc many) ++ r) =
        area_is ∙ (ap (λ (l : List ℕ). flat rules ++ l) split ∙ sym (append_assoc (flat rules) (zeros RULE-WIDTH) (free p (suc many) ++ r))) in
        let long : length (flat rules ++ zeros RULE-WIDTH) ≡ RULE-WIDTH * (many + 1) = rw (length-append (flat rules) (zeros RULE-WIDTH), rules_long, length_zeros RULE-WIDTH) (omega arith) in
        let behind : drop (RULE-WIDTH * (many + 1)) (rules_image p ++ r) ≡ free p (suc many) ++ r =
        ap (drop (RULE-WIDTH * (many + 1))) regroup ∙ drop_at (flat rules ++ zeros RULE-WIDTH) (free p (suc many) ++ r) (RULE-WIDTH * (many + 1)) long in
        rw (area_slots, behind, count, map_insert rule_image k x p.rules)

  -- a slot taken out
  module _ (k : ℕ) (place : k < many) where
    area_removed : with_slots RULE-WIDTH many (remove_at k (slots RULE-WIDTH many (rules_image p ++ r)) ++ zeros RULE-WIDTH ∷ []) (rules_image p ++ r)
        ≡ flat (map rule_image (remove_at k p.rules)) ++ (free p (length (remove_at k p.rules)) ++ r)
    area_removed =
        let count : suc (length (remove_at k p.rules)) ≡ many = length_remove k p.rules place in
        let few : many ≤ (rooms_in p).rules = s.few in
        let size : RULE-WIDTH * ((rooms_in p).rules - length (remove_at k p.rules)) ≡ RULE-WIDTH + RULE-WIDTH * ((rooms_in p).rules - many) = omega arith in
        let join : zeros RULE-WIDTH ++ (free p many ++ r) ≡ free p (length (remove_at k p.rules)) ++ r =
        sym (append_assoc (zeros RULE-WIDTH) (free p many) r) ∙ ap (λ (l : List ℕ). l ++ r) (zeros_add RULE-WIDTH (RULE-WIDTH * ((rooms_in p).rules - many)) ∙ ap zeros (sym size)) in
        let behind : drop (RULE-WIDTH * many) (rules_image p ++ r) ≡ free p many ++ r =
        ap (drop (RULE-WIDTH * many)) area_is ∙ drop_at (flat rules) (free p many ++ r) (RULE-WIDTH * many) rules_long in
        rw (area_slots, behind, flat_append (remove_at k rules) (zeros RULE-WIDTH ∷ []), append-nil (zeros RULE-WIDTH), append_assoc (flat (remove_at k rules)) (zeros RULE-WIDTH) (free p many ++ r), join, map_remove rule_image k p.rules)

  -- the slot of one rule, and its set number put anew
  module _ (k : ℕ) (place : k < many) where
    rule_slot : mid_of (rules_at p + RULE-WIDTH * k) (rules_at p + RULE-WIDTH * k + RULE-WIDTH - (rules_at p + RULE-WIDTH * k)) (image p ++ r)
        ≡ rule_image (get_or p.rules k no_rule)
    rule_slot =
        let width : rules_at p + RULE-WIDTH * k + RULE-WIDTH - (rules_at p + RULE-WIDTH * k) ≡ RULE-WIDTH = omega arith in
        let area : drop (rules_at p + RULE-WIDTH * k) (image p ++ r) ≡ drop (RULE-WIDTH * k) (rules_image p ++ r) =
        sym (drop-drop (RULE-WIDTH * k) (rules_at p) (image p ++ r)) ∙ ap (drop (RULE-WIDTH * k)) (rule_area_lem p s r) in
        let here : take RULE-WIDTH (drop (RULE-WIDTH * k) (rules_image p ++ r)) ≡ get_or rules k [] =
        sym (slot_at RULE-WIDTH k many (rules_image p ++ r) place) ∙ ap (λ (ss : List (List ℕ)). get_or ss k []) area_slots in
        let within : k < length rules = rw (length-map p.rules rule_image) place in
        let one = element_at rules k [] within in
        let other = element_at rules k (rule_image no_rule) within in
        let any : get_or rules k [] ≡ get_or rules k (rule_image no_rule) = cc in
        ap₂ (λ (n : ℕ) (l : List ℕ). take n l) width area ∙ (here ∙ (any ∙ get_or-map rule_image p.rules k no_rule))

    rule_renamed : (v : ℕ) → with_word (rule_image (get_or p.rules k no_rule)) SET-AT v ≡ rule_image (rule_with (get_or p.rules k no_rule).code v)
    unfolding rule_image
    rule_renamed v =
        let x : Rule = get_or p.rules k no_rule in
        let size : length x.code ≡ FILTER-BYTES = code_size x.code (all_place rule_passes p.rules no_rule k (codes p s) place) in
        word_between x.code (x.set / 256) (x.set % 256) (zeros (RULE-WIDTH - RULE-BODY)) SET-AT v size

    slot_replaced : (x : Rule)
        → put_mid (rules_at p + RULE-WIDTH * k) (rules_at p + RULE-WIDTH * k + RULE-WIDTH - (rules_at p + RULE-WIDTH * k)) (image p ++ r) (rule_image x)
        ≡ image (with_rules (set p.rules k x) p) ++ r
    slot_replaced x =
        let rs : List Rule = set p.rules k x in
        let within : k < length rules = rw (length-map p.rules rule_image) place in
        let regroup : image p ++ r ≡ (header_image p ++ sets_image p) ++ (flat rules ++ (free p many ++ r)) =
        front_between ∙ ap (λ (l : List ℕ). (header_image p ++ sets_image p) ++ l) area_is in
        rw (
          regroup,
          put_among RULE-WIDTH k (rules_at p) (header_image p ++ sets_image p) rules (free p many ++ r) (rule_image x) front_size rules_wide within,
          ← map_set rule_image k x p.rules,
        )
        (sym (same_count (set p.rules k x) (length-set p.rules k x)))

-- WHAT THE CODE LEAVES

module _ (m : List ℕ) (a : ℕ) (e : sound_of m ≡ true) (a-is : a ≡ SETS-AT + SET-WIDTH * set_room m) where
  -- the rule area, lent to the end of the memory
  tail_area : mid_of a (length m - a) m ≡ rules_image (plan_of m) ++ rest_of m
  unfolding plan_of
  tail_area =
      let s = sound_is m e in
      rest_is a m ∙ (ap₂ (λ (n : ℕ) (l : List ℕ). drop n l) a-is s.bytes ∙ rule_area_lem (plan_of m) s.plan (rest_of m))

  front_is : take a m ≡ header_image (plan_of m) ++ sets_image (plan_of m)
  unfolding plan_of
  front_is =
      let s = sound_is m e in
      ap (take a) (s.bytes ∙ front_between (plan_of m) s.plan (rest_of m))
      ∙ take_at (header_image (plan_of m) ++ sets_image (plan_of m)) (rules_image (plan_of m) ++ rest_of m) a (front_size (plan_of m) s.plan (rest_of m) ∙ sym a-is)

  -- the area of other rules left there, and their count put
  area_left : (rs : List Rule) (ys : List ℕ) (v : ℕ) → ys ≡ flat (map rule_image rs) ++ (free (plan_of m) (length rs) ++ rest_of m) → v ≡ length rs
      → with_word (put_mid a (length m - a) m ys) 4 v ≡ image (with_rules rs (plan_of m)) ++ rest_of m
  area_left rs ys v y v-is =
      let s = sound_is m e in
      let within : a ≤ length m = omega (arith, (numbers m e).size) in
      rw (rest_back a m ys within, front_is, y, v-is) (rules_written (plan_of m) s.plan (rest_of m) rs)

  module _ (n k : ℕ) (n-is : n ≡ rule_count m) where
    pub rule_inserted : (x : Rule) (slot ys : List ℕ) → k ≤ n → n < rule_room m → slot ≡ rule_image x
        → ys ≡ with_slots RULE-WIDTH (n + 1) (insert_at k slot (slots RULE-WIDTH n (mid_of a (length m - a) m))) (mid_of a (length m - a) m)
        → with_word (put_mid a (length m - a) m ys) 4 (n + 1) ≡ image (with_rules (insert_at k x (plan_of m).rules) (plan_of m)) ++ rest_of m
    unfolding plan_of
    rule_inserted x slot ys place room slot_is y =
        let s = sound_is m e in
        let many : n ≡ length (plan_of m).rules = n-is ∙ rule_count_is m in
        let count : n + 1 ≡ length (insert_at k x (plan_of m).rules) = omega (arith, length_insert k x (plan_of m).rules (rw (← many) place)) in
        let area : ys ≡ with_slots RULE-WIDTH (length (plan_of m).rules + 1) (insert_at k (rule_image x) (slots RULE-WIDTH (length (plan_of m).rules) (rules_image (plan_of m) ++ rest_of m))) (rules_image (plan_of m) ++ rest_of m) =
        y ∙ rw (tail_area, slot_is, many) in
        area_left (insert_at k x (plan_of m).rules) ys (n + 1)
        (area ∙ area_inserted (plan_of m) s.plan (rest_of m) k x (rw (← many) place) (rw (← many) room)) count

    pub rule_removed : (ys : List ℕ) → k < n
        → ys ≡ with_slots RULE-WIDTH n (remove_at k (slots RULE-WIDTH n (mid_of a (length m - a) m)) ++ zeros RULE-WIDTH ∷ []) (mid_of a (length m - a) m)
        → with_word (put_mid a (length m - a) m ys) 4 (n - 1) ≡ image (with_rules (remove_at k (plan_of m).rules) (plan_of m)) ++ rest_of m
    rule_removed ys place y =
        let s = sound_is m e in
        let many : n ≡ length (plan_of m).rules = n-is ∙ rule_count_is m in
        let count : n - 1 ≡ length (remove_at k (plan_of m).rules) = omega (arith, length_remove k (plan_of m).rules (rw (← many) place)) in
        let area : ys ≡ with_slots RULE-WIDTH (length (plan_of m).rules) (remove_at k (slots RULE-WIDTH (length (plan_of m).rules) (rules_image (plan_of m) ++ rest_of m)) ++ zeros RULE-WIDTH ∷ []) (rules_image (plan_of m) ++ rest_of m) =
        y ∙ rw (tail_area, many) in
        area_left (remove_at k (plan_of m).rules) ys (n - 1)
        (area ∙ area_removed (plan_of m) s.plan (rest_of m) k (rw (← many) place)) count

  -- one rule's slot lent, and another set number put into it
  pub rule_changed : (k v : ℕ) (ys : List ℕ) → k < rule_count m → ys ≡ with_word (mid_of (a + RULE-WIDTH * k) (a + RULE-WIDTH * k + RULE-WIDTH - (a + RULE-WIDTH * k)) m) SET-AT v
      → put_mid (a + RULE-WIDTH * k) (a + RULE-WIDTH * k + RULE-WIDTH - (a + RULE-WIDTH * k)) m ys
      ≡ image (with_rules (renamed_at k v (plan_of m).rules) (plan_of m)) ++ rest_of m
  unfolding plan_of
  rule_changed k v ys place y =
      let s = sound_is m e in
      let p : Plan = plan_of m in
      let x : Rule = rule_with (get_or p.rules k no_rule).code v in
      let inside : k < length p.rules = rw (← rule_count_is m) place in
      let slot : mid_of (a + RULE-WIDTH * k) (a + RULE-WIDTH * k + RULE-WIDTH - (a + RULE-WIDTH * k)) m ≡ rule_image (get_or p.rules k no_rule) =
      ap₂ (λ (b : ℕ) (l : List ℕ). mid_of (b + RULE-WIDTH * k) (b + RULE-WIDTH * k + RULE-WIDTH - (b + RULE-WIDTH * k)) l) a-is s.bytes ∙ rule_slot p s.plan (rest_of m) k inside in
      let left : ys ≡ rule_image x = y ∙ (ap (λ (l : List ℕ). with_word l SET-AT v) slot ∙ rule_renamed p s.plan (rest_of m) k inside v) in
      ap₂ (λ (l u : List ℕ). put_mid (a + RULE-WIDTH * k) (a + RULE-WIDTH * k + RULE-WIDTH - (a + RULE-WIDTH * k)) l u) s.bytes left
      ∙ (ap (λ (b : ℕ). put_mid (b + RULE-WIDTH * k) (b + RULE-WIDTH * k + RULE-WIDTH - (b + RULE-WIDTH * k)) (image p ++ rest_of m) (rule_image x)) a-is
      ∙ slot_replaced p s.plan (rest_of m) k inside x)

-- SLOTS AND A HEADER WRITTEN FROM NOTHING

-- z is what clearing left, y what copying left of the part lent
pub set_written : (slot z y content : List ℕ) → length slot ≡ SET-WIDTH → length content ≡ CONTENT-BYTES → z ≡ zeros (length slot)
    → y ≡ written_over content (mid_of CONTENT-AT CONTENT-BYTES z) → set (put_mid CONTENT-AT CONTENT-BYTES z y) 0 1 ≡ slot_image 0 (some content)
unfolding zeros
set_written slot z y content l k z-is y-is =
    let cleared : z ≡ zeros SET-WIDTH = z-is ∙ ap zeros l in
    let copied : y ≡ content = y-is ∙ (rw (cleared, k) (append-nil content)) in
    rw (cleared, copied)

pub rule_written : (slot z y code : List ℕ) (v : ℕ) → length slot ≡ RULE-WIDTH → length code ≡ FILTER-BYTES → z ≡ zeros (length slot)
    → y ≡ written_over code z → with_word y SET-AT v ≡ rule_image (rule_with code v)
unfolding zeros rule_image
rule_written slot z y code v l k z-is y-is =
    let copied : y ≡ code ++ 0 ∷ 0 ∷ zeros (RULE-WIDTH - RULE-BODY) = y-is ∙ rw (z-is, l, k) in
    ap (λ (b : List ℕ). with_word b SET-AT v) copied ∙ word_between code 0 0 (zeros (RULE-WIDTH - RULE-BODY)) SET-AT v k

-- bytes put over as many unused ones
put_over : (xs : List ℕ) (n : ℕ) (t : List ℕ) → length xs ≡ n → written_over xs (zeros n ++ t) ≡ xs ++ t
put_over xs n t l = ap (λ (u : List ℕ). xs ++ u) (ap (λ (k : ℕ). drop k (zeros n ++ t)) l ∙ drop_at (zeros n) t n (length_zeros n))

pub put_whole : (xs : List ℕ) (n : ℕ) → length xs ≡ n → written_over xs (zeros n) ≡ xs
put_whole xs n l = ap (λ (u : List ℕ). written_over xs u) (sym (append-nil (zeros n))) ∙ (put_over xs n [] l ∙ append-nil xs)

-- the part between h and t lent, and come back
module _ (a n : ℕ) (h x t : List ℕ) (l : length h ≡ a) (k : length x ≡ n) where
  pub mid_between : mid_of a n (h ++ (x ++ t)) ≡ x
  mid_between = ap (take n) (drop_at h (x ++ t) a l) ∙ take_at x t n k

  pub put_between : (y : List ℕ) → put_mid a n (h ++ (x ++ t)) y ≡ h ++ (y ++ t)
  put_between y = ap₂ (λ (u v : List ℕ). u ++ (y ++ v)) (take_at h (x ++ t) a l) (ap (drop n) (drop_at h (x ++ t) a l) ∙ drop_at x t n k)

-- the header of a fresh plan, part by part
header_parts : (rooms settings : List ℕ) → mark ++ (zeros 4 ++ (rooms ++ (settings ++ zeros (SETS-AT - SETTINGS-END)))) ≡ header_image (fresh rooms settings)
unfolding header_image fresh
header_parts rooms settings =
    let four : zeros 4 ≡ word_bytes 0 ++ zeros 2 = sym (zeros_add 2 2) ∙ ap (λ (u : List ℕ). u ++ zeros 2) empty_word in
    rw four

-- z is what clearing left, m what copying the mark left, y and x what copying left of the two parts lent
pub header_written : (header z m y x rooms settings : List ℕ) → length header ≡ SETS-AT → length rooms ≡ ROOMS-BYTES → length settings ≡ SETTINGS-BYTES
    → z ≡ zeros (length header) → m ≡ written_over mark z → y ≡ written_over rooms (mid_of 8 ROOMS-BYTES m)
    → x ≡ written_over settings (mid_of SETTINGS-AT SETTINGS-BYTES (put_mid 8 ROOMS-BYTES m y))
    → put_mid SETTINGS-AT SETTINGS-BYTES (put_mid 8 ROOMS-BYTES m y) x ≡ header_image (fresh rooms settings)
header_written header z m y x rooms settings l k j z-is m-is y-is x-is =
    let unused : List ℕ = zeros (SETS-AT - SETTINGS-END) in
    let front : List ℕ = mark ++ zeros 4 in
    let front_size : length front ≡ 8 = rw (length_zeros 4) in
    let longer-size : length (front ++ rooms) ≡ SETTINGS-AT = length-append front rooms ∙ ap₂ (λ (a b : ℕ). a + b) front_size k in
    let behind : List ℕ = zeros SETTINGS-BYTES ++ unused in
    let parts : zeros 4 ++ (zeros 4 ++ (zeros ROOMS-BYTES ++ behind)) ≡ zeros SETS-AT =
    rw (zeros_add SETTINGS-BYTES (SETS-AT - SETTINGS-END), zeros_add ROOMS-BYTES (SETS-AT - SETTINGS-AT), zeros_add 4 (SETS-AT - 8), zeros_add 4 (SETS-AT - 4)) in
    let marked : m ≡ front ++ (zeros ROOMS-BYTES ++ behind) =
    m-is ∙ (ap (written_over mark) (z-is ∙ (ap zeros l ∙ sym parts)) ∙ put_over mark 4 (zeros 4 ++ (zeros ROOMS-BYTES ++ behind)) refl) in
    let roomy : y ≡ rooms =
    y-is ∙ (ap (λ (u : List ℕ). written_over rooms u) (ap (mid_of 8 ROOMS-BYTES) marked ∙ mid_between 8 ROOMS-BYTES front (zeros ROOMS-BYTES) behind front_size (length_zeros ROOMS-BYTES))
    ∙ put_whole rooms ROOMS-BYTES k) in
    let both : put_mid 8 ROOMS-BYTES m y ≡ (front ++ rooms) ++ behind =
    ap₂ (put_mid 8 ROOMS-BYTES) marked roomy ∙ (put_between 8 ROOMS-BYTES front (zeros ROOMS-BYTES) behind front_size (length_zeros ROOMS-BYTES) rooms ∙ sym (append_assoc front rooms behind)) in
    let set : x ≡ settings =
    x-is ∙ (ap (λ (u : List ℕ). written_over settings u) (ap (mid_of SETTINGS-AT SETTINGS-BYTES) both
    ∙ mid_between SETTINGS-AT SETTINGS-BYTES (front ++ rooms) (zeros SETTINGS-BYTES) unused longer-size (length_zeros SETTINGS-BYTES))
    ∙ put_whole settings SETTINGS-BYTES j) in
    ap₂ (put_mid SETTINGS-AT SETTINGS-BYTES) both set
    ∙ (put_between SETTINGS-AT SETTINGS-BYTES (front ++ rooms) (zeros SETTINGS-BYTES) unused longer-size (length_zeros SETTINGS-BYTES) settings
    ∙ (append_assoc front rooms (settings ++ unused) ∙ header_parts rooms settings))

-- A FRESH PLAN

fresh_slots : (n : ℕ) → flat (map (slot_image 0) (replicate n none)) ≡ zeros (SET-WIDTH * n)
unfolding zeros
fresh_slots zero = ap zeros (sym (mul-zero SET-WIDTH))
fresh_slots (suc n) =
    let one : slot_image 0 none ≡ zeros SET-WIDTH = empty_slot in
    let more : SET-WIDTH + SET-WIDTH * n ≡ SET-WIDTH * suc n = rw (mul-suc SET-WIDTH n) (omega arith) in
    ap₂ (λ (a b : List ℕ). a ++ b) one (fresh_slots n) ∙ (zeros_add SET-WIDTH (SET-WIDTH * n) ∙ ap zeros more)

module _ (rooms settings : List ℕ) where
  fresh_sets : sets_image (fresh rooms settings) ≡ zeros (SET-WIDTH * (rooms_of rooms).sets)
  unfolding sets_image fresh
  fresh_sets = fresh_slots (rooms_of rooms).sets

  fresh_rules : rules_image (fresh rooms settings) ≡ zeros (RULE-WIDTH * (rooms_of rooms).rules)
  unfolding rules_image fresh
  fresh_rules = ap (λ (n : ℕ). zeros (RULE-WIDTH * n)) (sub-zero (rooms_of rooms).rules)

  -- the bytes behind the header lent and cleared, and then the header lent and written
  pub started : (m z header : List ℕ) (size : ℕ) → size ≡ SETS-AT + SET-WIDTH * (rooms_of rooms).sets + RULE-WIDTH * (rooms_of rooms).rules → size ≤ length m
      → z ≡ zeros (length (mid_of SETS-AT (size - SETS-AT) m)) → header ≡ header_image (fresh rooms settings)
      → put_mid 0 SETS-AT (put_mid SETS-AT (size - SETS-AT) m z) header ≡ image (fresh rooms settings) ++ drop (bytes_needed (rooms_of rooms)) m
  unfolding image bytes_needed
  started m z header size size_is fits z-is h-is =
      let slots : size - SETS-AT ≡ SET-WIDTH * (rooms_of rooms).sets + RULE-WIDTH * (rooms_of rooms).rules = omega arith in
      let cleared : z ≡ zeros (SET-WIDTH * (rooms_of rooms).sets) ++ zeros (RULE-WIDTH * (rooms_of rooms).rules) =
      z-is ∙ (ap zeros (mid_len SETS-AT size m fits ∙ slots) ∙ sym (zeros_add (SET-WIDTH * (rooms_of rooms).sets) (RULE-WIDTH * (rooms_of rooms).rules))) in
      let behind : drop SETS-AT (put_mid SETS-AT (size - SETS-AT) m z) ≡ z ++ drop size m =
      drop_at (take SETS-AT m) (z ++ drop (size - SETS-AT) (drop SETS-AT m)) SETS-AT (length-take-le SETS-AT m (omega arith)) ∙ ap (λ (l : List ℕ). z ++ l) (Post-is SETS-AT size m (omega arith)) in
      rw (behind, h-is, cleared, fresh_sets, fresh_rules, ← size_is) (sym (append_assoc (header_image (fresh rooms settings)) _ (drop size m)))
