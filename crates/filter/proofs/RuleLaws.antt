-- The rules of an area of slots: the one at a place, and what is left of them in a walk.
use Prim.Native.Nat.{ℕ, zero, suc, ◌+◌, ◌*◌, ◌-◌, ◌/◌, ◌≤◌, ◌<◌}
use mathlib.Core.Path.{◌≡◌, refl, ap, ◌∙◌}
use mathlib.Core.List.{List, [], ◌∷◌, map}
use mathlib.Core.Option.{Option, none, some}
use mathlib.Core.Bool.{Bool, true, false}
use native.Mathlib.Nat.{sub-zero}
use native.Mathlib.Omega.{arith}
use lib.ListN.{length, take, drop, get_or, get_elem?, length-map, get_or-map, length-drop}
use lib.Seq.{length-take-le, get_or-take, get_or-drop}
use lib.Dec.{T, ltb, lit<, leb→le}
use borrow.Author.Tests.{lt-ltb, le-ltb}
use Rattle.meaning.specs.Sizes.{PREFIX-AT, FILTER-BYTES, RULE-WIDTH}
use Rattle.meaning.specs.Basics.{word}
use Rattle.std.specs.Prelude.{if◌then◌else◌}
use Rattle.std.specs.Simd.{first_chunks}
use Rattle.meaning.specs.Filters.{filter_of}
use Rattle.meaning.specs.Rules.{Rule, filter_in, weight, first_largest_from, first_largest, chosen_place}
use Rattle.meaning.proofs.Tests.{all_place}
use Rattle.buffer.specs.Slots.{slots}
use Rattle.buffer.proofs.SlotLaws.{length_slots, slots_first, slots_next, slots_part, slot_at}
use Rattle.buffer.proofs.ListLaws.{element_at}
use Rattle.filter.specs.Slots.{FilterBytes, RuleArea, rule_of, rules_of, prefix_fits}
use Rattle.filter.proofs.FilterLaws.{filter_part}

-- ONE RULE

-- the filter of a slot's rule is read from the slot
pub filter_in_lem : (s : List ℕ) → filter_in (rule_of s) ≡ filter_of s
unfolding rule_of
filter_in_lem s = filter_part s

pub length_rules : (n : ℕ) (m : List ℕ) → length (rules_of n m) ≡ n
unfolding rules_of
length_rules n m = length-map (slots RULE-WIDTH n m) rule_of ∙ length_slots RULE-WIDTH n m

pub rule_at_lem : (n k : ℕ) (m : List ℕ) → k < n → get_elem? (rules_of n m) k ≡ some (rule_of (take RULE-WIDTH (drop (RULE-WIDTH * k) m)))
unfolding rules_of
rule_at_lem n k m h =
    element_at (map rule_of (slots RULE-WIDTH n m)) k (rule_of []) (rw (length_rules n m) h) ∙ ap some (get_or-map rule_of (slots RULE-WIDTH n m) k [] ∙ ap rule_of (slot_at RULE-WIDTH k n m h))

-- the set number of a slot that stands in an area
pub set_read : (a : ℕ) (m : List ℕ) → (rule_of (take RULE-WIDTH (drop a m))).set ≡ word m (a + FILTER-BYTES)
unfolding rule_of
set_read a m =
    let high : ◌≡◌ {A = ℕ} (get_or (take RULE-WIDTH (drop a m)) FILTER-BYTES 0) (get_or m (a + FILTER-BYTES) 0) = get_or-take RULE-WIDTH (drop a m) FILTER-BYTES 0 (lit< tt) ∙ get_or-drop a m FILTER-BYTES 0 in
    let low : ◌≡◌ {A = ℕ} (get_or (take RULE-WIDTH (drop a m)) (FILTER-BYTES + 1) 0) (get_or m (a + (FILTER-BYTES + 1)) 0) = get_or-take RULE-WIDTH (drop a m) (FILTER-BYTES + 1) 0 (lit< tt) ∙ get_or-drop a m (FILTER-BYTES + 1) 0 in
    let n : a + (FILTER-BYTES + 1) ≡ a + FILTER-BYTES + 1 = omega arith in
    rw (high, low, n)

-- the first n of the chunks that an area is cut into are its slots
chunks_as : (w k : ℕ) (m : List ℕ) → first_chunks w k m ≡ slots w k m
chunks_as w zero m = refl
chunks_as w (suc k) m = ap (λ (ss : List (List ℕ)). take w m ∷ ss) (chunks_as w k (drop w m))

pub lent_slots : (n : ℕ) (m : List ℕ) → RuleArea n m → take n (first_chunks RULE-WIDTH (length m / RULE-WIDTH) m) ≡ slots RULE-WIDTH n m
lent_slots n m area =
    let l : n ≤ length m / RULE-WIDTH = omega (arith, area.room) in
    rw (chunks_as RULE-WIDTH (length m / RULE-WIDTH) m) (slots_first RULE-WIDTH n (length m / RULE-WIDTH) m l)

-- slot i of an area has a filter's bytes
pub own_bytes : (n i : ℕ) (m : List ℕ) → RuleArea n m → i < n → FilterBytes (take RULE-WIDTH (drop (RULE-WIDTH * i) m))
own_bytes n i m area h =
    let l : RULE-WIDTH ≤ length (drop (RULE-WIDTH * i) m) = simp length-drop (omega (arith, area.room)) in
    let e : length (take RULE-WIDTH (drop (RULE-WIDTH * i) m)) ≡ RULE-WIDTH = length-take-le RULE-WIDTH (drop (RULE-WIDTH * i) m) l in
    let t : T (prefix_fits (get_or (slots RULE-WIDTH n m) i [])) = all_place prefix_fits (slots RULE-WIDTH n m) [] i area.prefixes (rw (length_slots RULE-WIDTH n m) h) in
    let u : T (prefix_fits (take RULE-WIDTH (drop (RULE-WIDTH * i) m))) = rw (slot_at RULE-WIDTH i n m h) at t in
    record { whole = omega arith; prefix = leb→le (get_or (take RULE-WIDTH (drop (RULE-WIDTH * i) m)) PREFIX-AT 0) 16 u }

-- the same where it is lent as a part
pub slot_bytes : (n i : ℕ) (m : List ℕ) → RuleArea n m → i < n → FilterBytes (take (RULE-WIDTH * i + RULE-WIDTH - RULE-WIDTH * i) (drop (RULE-WIDTH * i) m))
slot_bytes n i m area h =
    let k : RULE-WIDTH * i + RULE-WIDTH - RULE-WIDTH * i ≡ RULE-WIDTH = omega arith in
    rw k (own_bytes n i m area h)

-- A WALK: the rules from place i on

abbrev pub rules_from : ℕ → ℕ → List ℕ → List Rule
rules_from n i m = rules_of (n - i) (drop (RULE-WIDTH * i) m)

pub rules_full : (n : ℕ) (m : List ℕ) → rules_from n 0 m ≡ rules_of n m
rules_full n m = rw sub-zero

pub rules_end : (n i : ℕ) (m : List ℕ) → n ≤ i → rules_from n i m ≡ []
unfolding rules_of
rules_end n i m h = let k : n - i ≡ 0 = omega arith in rw k

pub rules_more : (n i : ℕ) (m : List ℕ) → i < n → rules_from n i m ≡ rule_of (take RULE-WIDTH (drop (RULE-WIDTH * i) m)) ∷ rules_from n (i + 1) m
unfolding rules_of
rules_more n i m h = ap (map rule_of) (slots_next RULE-WIDTH i n m h)

-- THE CHOICE: what is left to weigh decides. `best` is the place so far, `most` its weight, i the next place

abbrev weights : ℕ → List ℕ → List Rule → List ℕ
weights class ds rs = map (λ (r : Rule). weight class ds (filter_in r)) rs

abbrev pub Left : (rules : List ℕ) (n class : ℕ) (ds : List ℕ) → Option ℕ → ℕ → ℕ → Type 0
Left rules n class ds best most i = chosen_place class ds (rules_of n rules) ≡ first_largest_from best most i (weights class ds (rules_from n i rules))

pub left_all : (rules : List ℕ) (n class : ℕ) (ds : List ℕ) → Left rules n class ds none 0 0
unfolding chosen_place first_largest
left_all rules n class ds = rw (rules_full n rules)

module _ (rules : List ℕ) (n class : ℕ) (ds : List ℕ) (best : Option ℕ) (most i : ℕ) (h : Left rules n class ds best most i) where
  module _ (w : ℕ) (inside : i < n) (w-is : w ≡ weight class ds (filter_of (take (RULE-WIDTH * i + RULE-WIDTH - RULE-WIDTH * i) (drop (RULE-WIDTH * i) rules)))) where
    left_step : chosen_place class ds (rules_of n rules)
        ≡ first_largest_from (if ltb most w then some i else best) (if ltb most w then w else most) (i + 1) (weights class ds (rules_from n (i + 1) rules))
    left_step =
        let k : RULE-WIDTH * i + RULE-WIDTH - RULE-WIDTH * i ≡ RULE-WIDTH = omega arith in
        let v : w ≡ weight class ds (filter_in (rule_of (take RULE-WIDTH (drop (RULE-WIDTH * i) rules)))) = w-is ∙ rw (k, filter_in_lem (take RULE-WIDTH (drop (RULE-WIDTH * i) rules))) in
        h ∙ rw (rules_more n i rules inside, ← v)

    pub left_better : most < w → Left rules n class ds (some i) w (i + 1)
    left_better l = left_step ∙ rw (lt-ltb most w l)

    pub left_worse : w ≤ most → Left rules n class ds best most (i + 1)
    left_worse l = left_step ∙ rw (le-ltb most w l)

  pub left_none : n ≤ i → chosen_place class ds (rules_of n rules) ≡ best
  left_none l = h ∙ rw (rules_end n i rules l)

-- the place chosen is one of the list's
largest_within : (best : Option ℕ) (most i : ℕ) (ws : List ℕ) (k : ℕ) → (best ≡ some k → k < i) → first_largest_from best most i ws ≡ some k → k < i + length ws
largest_within best most i [] k h e = omega (arith, h e)
largest_within best most i (w ∷ ws) k h e =
    let n : i + 1 + length ws ≡ i + suc (length ws) = omega arith in
    rw n at (largest_within (if ltb most w then some i else best) (if ltb most w then w else most) (i + 1) ws k (go (ltb most w)) e)
  where
    go : (b : Bool) → (if b then some i else best) ≡ some k → k < i + 1
    go true q = let x : i ≡ k = cc in omega arith
    go false q = omega (arith, h q)

pub chosen_within : (class : ℕ) (ds : List ℕ) (rs : List Rule) (k : ℕ) → chosen_place class ds rs ≡ some k → k < length rs
unfolding chosen_place first_largest
chosen_within class ds rs k e =
    let l : length (weights class ds rs) ≡ length rs = length-map rs (λ (r : Rule). weight class ds (filter_in r)) in
    let h : none ≡ some k → k < 0 = λ q. let z : ◌≡◌ {A = ℕ} 0 1 = cc in absurd (omega arith) in
    omega (arith, l, largest_within none 0 0 (weights class ds rs) k h e)

-- WHAT STANDS BEHIND THE SLOTS DOES NOT MATTER

pub rules_part : (n k : ℕ) (m : List ℕ) → RULE-WIDTH * n ≤ k → rules_of n (take k m) ≡ rules_of n m
unfolding rules_of
rules_part n k m h = ap (map rule_of) (slots_part RULE-WIDTH n k m h)
