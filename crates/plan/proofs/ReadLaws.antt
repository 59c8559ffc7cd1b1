-- What the readers' bytes are in the plan's words: rooms and count, the areas of the slots, one set's slot, one rule's slot, and the rules
-- that name a set.
use Prim.Native.Nat.{ℕ, ◌+◌, ◌-◌, ◌*◌, ◌≤◌, ◌<◌}
use mathlib.Core.Path.{◌≡◌, refl, ap, sym, ◌∙◌}
use mathlib.Core.Bool.{Bool, true, false, not}
use mathlib.Core.List.{List, [], ◌∷◌, map}
use mathlib.Core.Option.{none, some}
use native.Mathlib.Omega.{arith}
use lib.ListN.{length, take, drop, get_or, length-map, length-drop, get_or-map, get_or-eq_default}
use lib.Seq.{get_or-take, get_or-drop, drop-drop, length-take-le}
use lib.Dec.{T, eqb, leb, leb→le, le→leb, lit<, lit≤}
use borrow.Author.Tests.{eq-eqb, ne_eqb, leb-false}
use Rattle.meaning.specs.Sizes.{ROOMS-BYTES, CONTENT-BYTES, PREFIX-AT, FILTER-BYTES, HEADER-BYTES, SETS-AT, CONTENT-AT, COUNT-AT, SET-WIDTH, RULE-WIDTH}
use Rattle.meaning.specs.Basics.{all, count, is_zero, is_some, within, word, part}
use Rattle.std.specs.Prelude.{if◌then◌else◌}
use Rattle.meaning.specs.Settings.{rooms_of, rooms_in_range, bytes_needed}
use Rattle.meaning.specs.Filters.{filter_in_range}
use Rattle.meaning.specs.Rules.{names}
use Rattle.meaning.specs.Plan.{held, sized, code_passes, codes_pass}
use Rattle.meaning.specs.History.{no_rule}
use Rattle.meaning.proofs.Tests.{true_is, and_left, and_right, and_both}
use Rattle.buffer.proofs.ListLaws.{part_part, element_at}
use Rattle.buffer.specs.Slots.{slots, Wide}
use Rattle.buffer.proofs.SlotLaws.{length_slots, slot_at, wide_slots}
use Rattle.filter.specs.Slots.{rule_of, rules_of, prefix_fits}
use Rattle.filter.proofs.FilterLaws.{range_bytes}
use Rattle.filter.proofs.RuleLaws.{length_rules, rule_at_lem, rules_part, rules_from as rulesLeft, rules_full, rules_end, rules_more}
use Rattle.plan.specs.Layout.{set_room, rule_room, rule_count, rules_from, slot_of, slots_of, plan_of}
use Rattle.plan.specs.State.{sound_of}
use Rattle.plan.specs.Readings.{RulesPart, Content}
use Rattle.plan.proofs.ImageLaws.{SoundMemory, sound_memory}

-- ROOMS AND COUNT

-- a two-byte number of a part
word_part : (a n k : ℕ) (m : List ℕ) → k + 1 < n → word (part a n m) k ≡ word m (a + k)
word_part a n k m h =
    let high : ◌≡◌ {A = ℕ} (get_or (part a n m) k 0) (get_or m (a + k) 0) = get_or-take n (drop a m) k 0 (omega arith) ∙ get_or-drop a m k 0 in
    let low : ◌≡◌ {A = ℕ} (get_or (part a n m) (k + 1) 0) (get_or m (a + (k + 1)) 0) = get_or-take n (drop a m) (k + 1) 0 h ∙ get_or-drop a m (k + 1) 0 in
    let e : a + (k + 1) ≡ a + k + 1 = omega arith in
    rw (high, low, e)

pub set_room_read : (m : List ℕ) → word m 8 ≡ set_room m
unfolding rooms_of
set_room_read m = sym (word_part 8 ROOMS-BYTES 0 m (lit< tt))

pub rule_room_read : (m : List ℕ) → word m 10 ≡ rule_room m
unfolding rooms_of
rule_room_read m = sym (word_part 8 ROOMS-BYTES 2 m (lit< tt))

-- the rules of a memory are as many as its count says, and the set slots as many as its room
pub rule_count_is : (m : List ℕ) → rule_count m ≡ length (plan_of m).rules
unfolding plan_of
rule_count_is m = sym (length_rules (rule_count m) (rules_from m))

pub set_room_is : (m : List ℕ) → set_room m ≡ length (plan_of m).slots
unfolding plan_of slots_of
set_room_is m = sym (length-map (slots SET-WIDTH (set_room m) (drop SETS-AT m)) slot_of ∙ length_slots SET-WIDTH (set_room m) (drop SETS-AT m))

-- the numbers of a sound memory
pub record Numbers (m : List ℕ) : Type 0 where
  pub header : HEADER-BYTES ≤ length m
  pub sets_least : 1 ≤ set_room m
  pub sets_most : set_room m ≤ 1024
  pub rules_least : 1 ≤ rule_room m
  pub rules_most : rule_room m ≤ 4096
  pub count_most : rule_count m ≤ rule_room m
  pub size : SETS-AT + SET-WIDTH * set_room m + RULE-WIDTH * rule_room m ≤ length m

in_range : (lo hi n : ℕ) → T (within lo hi n) → (lo ≤ n) × (n ≤ hi)
in_range lo hi n t = (leb→le lo n (and_left (leb lo n) (leb n hi) t), leb→le n hi (and_right (leb lo n) (leb n hi) t))

rooms_range : (b : List ℕ) → T (rooms_in_range b) → ((1 ≤ (rooms_of b).sets) × ((rooms_of b).sets ≤ 1024)) × ((1 ≤ (rooms_of b).rules) × ((rooms_of b).rules ≤ 4096))
unfolding rooms_in_range rooms_of
rooms_range b t = (
  in_range 1 1024 (word b 0) (and_left (within 1 1024 (word b 0)) (within 1 4096 (word b 2)) t),
  in_range 1 4096 (word b 2) (and_right (within 1 1024 (word b 0)) (within 1 4096 (word b 2)) t),
)

pub sound_is : (m : List ℕ) → sound_of m ≡ true → SoundMemory m
sound_is m e = sound_memory m (true_is (sound_of m) e)

pub numbers : (m : List ℕ) → sound_of m ≡ true → Numbers m
unfolding plan_of bytes_needed
numbers m e =
    let s = sound_is m e in
    let range = rooms_range (plan_of m).rooms s.plan.rooms_range in
    record {
      header = omega (arith, s.header);
      sets_least = range.0.0;
      sets_most = range.0.1;
      rules_least = range.1.0;
      rules_most = range.1.1;
      count_most = rw (rule_count_is m) s.plan.few;
      size = s.fits;
    }

-- THE AREAS

code_prefix : (slot : List ℕ) → length slot ≡ RULE-WIDTH → T (code_passes (rule_of slot).code) → T (prefix_fits slot)
unfolding code_passes rule_of
code_prefix slot l t =
    le→leb (get_or slot PREFIX-AT 0) 16 (range_bytes slot (omega arith) (and_right (sized FILTER-BYTES (take FILTER-BYTES slot)) (filter_in_range (take FILTER-BYTES slot)) t)).prefix

codes_prefixes : (ss : List (List ℕ)) → Wide RULE-WIDTH ss → T (codes_pass (map rule_of ss)) → T (all prefix_fits ss)
unfolding codes_pass
codes_prefixes [] w t = tt
codes_prefixes (s ∷ ss) w t =
    and_both (prefix_fits s) (all prefix_fits ss) (code_prefix s w.0 (and_left (code_passes (rule_of s).code) _ t))
    (codes_prefixes ss w.1 (and_right (code_passes (rule_of s).code) _ t))

pub rules_part_is : (m : List ℕ) → sound_of m ≡ true → RulesPart m (part (SETS-AT + SET-WIDTH * set_room m) (RULE-WIDTH * rule_room m) m)
unfolding plan_of rules_of
rules_part_is m e =
    let n = numbers m e in
    let area : List ℕ = part (SETS-AT + SET-WIDTH * set_room m) (RULE-WIDTH * rule_room m) m in
    let long : length area ≡ RULE-WIDTH * rule_room m =
    length-take-le (RULE-WIDTH * rule_room m) (rules_from m) (rw (length-drop (SETS-AT + SET-WIDTH * set_room m) m) (omega (arith, n.size))) in
    let room : RULE-WIDTH * rule_count m ≤ RULE-WIDTH * rule_room m = omega (arith, n.count_most) in
    let same : rules_of (rule_count m) area ≡ (plan_of m).rules = rules_part (rule_count m) (RULE-WIDTH * rule_room m) (rules_from m) room in
    let fits : RULE-WIDTH * rule_count m ≤ length area = rw long room in
    let codes : T (codes_pass (rules_of (rule_count m) area)) = rw same (sound_is m e).plan.codes in
    record {
      bytes = refl;
      rules = same;
      area = record {
        few = omega (arith, n.count_most, n.rules_most);
        room = fits;
        prefixes = codes_prefixes (slots RULE-WIDTH (rule_count m) area) (wide_slots RULE-WIDTH (rule_count m) area fits) codes;
      };
    }

-- the area as it is lent, from a to an end behind it
pub rules_lent : (m : List ℕ) (a k : ℕ) → sound_of m ≡ true → a ≡ SETS-AT + SET-WIDTH * set_room m → k ≡ rule_room m → RulesPart m (take (a + RULE-WIDTH * k - a) (drop a m))
rules_lent m a k e a-is k-is =
    let n : a + RULE-WIDTH * k - a ≡ RULE-WIDTH * rule_room m = omega arith in
    rw (n, a-is) (rules_part_is m e)

-- ONE SET

-- the slot of a set number under the room
pub held_slot : (m : List ℕ) (n : ℕ) → n < set_room m → held (plan_of m) n ≡ slot_of (part (SETS-AT + SET-WIDTH * n) SET-WIDTH m)
unfolding plan_of slots_of slot_of
held_slot m n h =
    let at : get_or (slots SET-WIDTH (set_room m) (drop SETS-AT m)) n [] ≡ part (SETS-AT + SET-WIDTH * n) SET-WIDTH m =
    slot_at SET-WIDTH n (set_room m) (drop SETS-AT m) h ∙ ap (take SET-WIDTH) (drop-drop (SET-WIDTH * n) SETS-AT m) in
    get_or-map slot_of (slots SET-WIDTH (set_room m) (drop SETS-AT m)) n [] ∙ ap slot_of at

pub held_over : (m : List ℕ) (n : ℕ) → set_room m ≤ n → held (plan_of m) n ≡ none
held_over m n h = get_or-eq_default (plan_of m).slots none (rw (← set_room_is m) h)

pub held_below : (m : List ℕ) (n : ℕ) → is_some (held (plan_of m) n) ≡ true → n < set_room m
held_below m n e = go (leb (set_room m) n) refl
  where
    go : (b : Bool) → leb (set_room m) n ≡ b → n < set_room m
    go true q =
        let none-held : held (plan_of m) n ≡ none = held_over m n (leb→le (set_room m) n (true_is (leb (set_room m) n) q)) in
        let z : false ≡ true = rw none-held at e in
        absurd (let y : ◌≡◌ {A = ℕ} 0 1 = cc in omega arith)
    go false q = leb-false (set_room m) n q

-- the byte that says whether a slot is held
some_slot : (s : List ℕ) → is_some (slot_of s) ≡ not (is_zero (get_or s 0 0))
unfolding slot_of
some_slot s = go (is_zero (get_or s 0 0))
  where
    go : (b : Bool) → is_some (if b then none else some (part CONTENT-AT CONTENT-BYTES s)) ≡ not b
    go true = refl
    go false = refl

pub held_byte : (m : List ℕ) (n : ℕ) → n < set_room m → is_some (held (plan_of m) n) ≡ not (is_zero (get_or m (SETS-AT + SET-WIDTH * n) 0))
held_byte m n h =
    let first : ◌≡◌ {A = ℕ} (get_or (part (SETS-AT + SET-WIDTH * n) SET-WIDTH m) 0 0) (get_or m (SETS-AT + SET-WIDTH * n + 0) 0) =
    get_or-take SET-WIDTH (drop (SETS-AT + SET-WIDTH * n) m) 0 0 (lit< tt) ∙ get_or-drop (SETS-AT + SET-WIDTH * n) m 0 0 in
    let here : SETS-AT + SET-WIDTH * n + 0 ≡ SETS-AT + SET-WIDTH * n = omega arith in
    ap is_some (held_slot m n h) ∙ (some_slot (part (SETS-AT + SET-WIDTH * n) SET-WIDTH m) ∙ rw (first, here))

-- the content of a slot that is held
some_content : (s : List ℕ) → is_some (slot_of s) ≡ true → slot_of s ≡ some (part CONTENT-AT CONTENT-BYTES s)
unfolding slot_of
some_content s e = go (is_zero (get_or s 0 0)) e
  where
    go : (b : Bool) → is_some (if b then none else some (part CONTENT-AT CONTENT-BYTES s)) ≡ true → (if b then none else some (part CONTENT-AT CONTENT-BYTES s)) ≡ some (part CONTENT-AT CONTENT-BYTES s)
    go true q = absurd (let z : ◌≡◌ {A = ℕ} 0 1 = cc in omega arith)
    go false q = refl

pub content_is : (m : List ℕ) (n : ℕ) → sound_of m ≡ true → is_some (held (plan_of m) n) ≡ true → Content (plan_of m) n (part (SETS-AT + SET-WIDTH * n + CONTENT-AT) CONTENT-BYTES m)
content_is m n e h =
    let below : n < set_room m = held_below m n h in
    let slot : List ℕ = part (SETS-AT + SET-WIDTH * n) SET-WIDTH m in
    let some_slot : is_some (slot_of slot) ≡ true = ap is_some (sym (held_slot m n below)) ∙ h in
    let inner : part CONTENT-AT CONTENT-BYTES slot ≡ part (SETS-AT + SET-WIDTH * n + CONTENT-AT) CONTENT-BYTES m =
    part_part CONTENT-AT CONTENT-BYTES SET-WIDTH (drop (SETS-AT + SET-WIDTH * n) m) (lit≤ tt) ∙ ap (take CONTENT-BYTES) (drop-drop CONTENT-AT (SETS-AT + SET-WIDTH * n) m) in
    let size : SETS-AT + SET-WIDTH * n + CONTENT-AT + CONTENT-BYTES ≤ length m = omega (arith, numbers m e) in
    record {
      is = held_slot m n below ∙ (some_content slot some_slot ∙ ap some inner);
      size = length-take-le CONTENT-BYTES (drop (SETS-AT + SET-WIDTH * n + CONTENT-AT) m) (rw (length-drop (SETS-AT + SET-WIDTH * n + CONTENT-AT) m) (omega arith));
    }

pub content_lent : (m : List ℕ) (n a : ℕ) → a ≡ SETS-AT + SET-WIDTH * n → sound_of m ≡ true → is_some (held (plan_of m) n) ≡ true
    → Content (plan_of m) n (take (a + COUNT-AT - (a + CONTENT-AT)) (drop (a + CONTENT-AT) m))
content_lent m n a a-is e h =
    let k : a + COUNT-AT - (a + CONTENT-AT) ≡ CONTENT-BYTES = omega arith in
    rw (k, a-is) (content_is m n e h)

-- ONE RULE

pub rule_there : (n k : ℕ) (area : List ℕ) → k < n → get_or (rules_of n area) k no_rule ≡ rule_of (take RULE-WIDTH (drop (RULE-WIDTH * k) area))
rule_there n k area h =
    let a = rule_at_lem n k area h in
    let b = element_at (rules_of n area) k no_rule (rw (length_rules n area) h) in
    cc

-- THE RULES THAT NAME A SET: what is left to count decides

abbrev pub Counting : (set : ℕ) (area : List ℕ) (n i so_far : ℕ) → Type 0
Counting set area n i so_far = so_far + count (names set) (rulesLeft n i area) ≡ count (names set) (rules_of n area)

pub counting_none : (set : ℕ) (area : List ℕ) (n : ℕ) → Counting set area n 0 0
counting_none set area n = let e = ap (count (names set)) (rules_full n area) in omega (arith, e)

module _ (set : ℕ) (area : List ℕ) (n i so_far : ℕ) (h : Counting set area n i so_far) where
  module _ (named : ℕ) (inside : i < n) (named-is : named ≡ (rule_of (take RULE-WIDTH (drop (RULE-WIDTH * i) area))).set) where
    counting_step : so_far + ((if eqb named set then 1 else 0) + count (names set) (rulesLeft n (i + 1) area)) ≡ count (names set) (rules_of n area)
    counting_step = rw (named-is) (rw (rules_more n i area inside) at h)

    pub counting_named : named ≡ set → Counting set area n (i + 1) (so_far + 1)
    counting_named e = let s = rw (eq-eqb named set e) at counting_step in omega (arith, s)

    pub counting_other : (named ≡ set → ⊥) → Counting set area n (i + 1) so_far
    counting_other e = let s = rw (ne_eqb named set e) at counting_step in omega (arith, s)

  pub counting_all : n ≤ i → so_far ≡ count (names set) (rules_of n area)
  counting_all l = let s = rw (rules_end n i area l) at h in omega (arith, s)
