-- Narrowing the slots digit by digit: at depth j the places left hold every rule that may still weigh more than the best so far, and each of
-- them has the number's class and its first j digits.
use Prim.Native.Nat.{Ordering}
use Prim.Native.Nat.{ℕ, zero, suc, ◌+◌, ◌*◌, ◌-◌, ◌≤◌, ◌<◌, zero-le}
use mathlib.Core.Path.{◌≡◌, refl, ap, sym, ◌∙◌}
use mathlib.Core.Logic.{◌≢◌}
use mathlib.Core.Bool.{Bool, true, false}
use mathlib.Core.List.{List, [], ◌∷◌}
use mathlib.Core.Option.{Option, none, some}
use native.Mathlib.Nat.{le_of_suc-le-suc}
use native.Mathlib.Omega.{arith}
use lib.ListN.{length, take, drop, get_or, get_or-map}
use lib.Seq.{get_or-take, get_or-drop}
use lib.Dec.{T, ltb, lit<}
use borrow.Author.Tests.{ltb-true, ltb-false}
use Rattle.meaning.specs.Sizes.{CLASS-AT, PREFIX-AT, PREFIX-DIGITS-AT, LENGTH-AT, RULE-WIDTH}
use Rattle.meaning.specs.Basics.{all}
use Rattle.meaning.specs.Filters.{Filter, filter_of, compare_filters, is_before}
use Rattle.meaning.specs.Rules.{Rule, filter_in, weight, chosen_place, rules_in_order}
use Rattle.meaning.proofs.Tests.{true_is, and_left, and_right, all_place}
use Rattle.meaning.proofs.RuleLists.{is_lt_lem}
use Rattle.buffer.specs.Slots.{slots}
use Rattle.buffer.proofs.SlotLaws.{slot_at}
use Rattle.filter.specs.Slots.{FilterBytes, RuleArea, rule_of, rules_of}
use Rattle.filter.proofs.FilterLaws.{prefix_is, prefix_length}
use Rattle.filter.proofs.RuleLaws.{filter_in_lem, length_rules, own_bytes, Left, left_all, left_better, left_worse, left_none}
use Rattle.narrowing.specs.Columns.{byte_at, Narrowed, length_weight}
use Rattle.narrowing.proofs.Prefixes.{digits_rise, classes_rise, not_behind, one_more, other_class, other_digit, too_long, by_length}
use Rattle.narrowing.proofs.ColumnLaws.{Rising, Parted, parted}

-- THE FILTER AT A PLACE

abbrev pub filter_at : List ℕ → ℕ → Filter
filter_at m k = filter_of (take RULE-WIDTH (drop (RULE-WIDTH * k) m))

lent : (k : ℕ) → RULE-WIDTH * k + RULE-WIDTH - RULE-WIDTH * k ≡ RULE-WIDTH
lent k = omega arith

slot_byte : (m : List ℕ) (k c : ℕ) → c < RULE-WIDTH → get_or (take RULE-WIDTH (drop (RULE-WIDTH * k) m)) c 0 ≡ byte_at m c k
slot_byte m k c h = get_or-take RULE-WIDTH (drop (RULE-WIDTH * k) m) c 0 h ∙ get_or-drop (RULE-WIDTH * k) m c 0

module _ (n : ℕ) (m : List ℕ) (area : RuleArea n m) (k : ℕ) (inside : k < n) where
  bytes : FilterBytes (take RULE-WIDTH (drop (RULE-WIDTH * k) m))
  bytes = own_bytes n k m area inside

  class_at : (filter_at m k).class ≡ byte_at m CLASS-AT k
  unfolding filter_of
  class_at = slot_byte m k CLASS-AT (lit< tt)

  len_at : (filter_at m k).len ≡ byte_at m LENGTH-AT k
  unfolding filter_of
  len_at = slot_byte m k LENGTH-AT (lit< tt)

  few_at : byte_at m PREFIX-AT k ≤ 16
  few_at = rw (slot_byte m k PREFIX-AT (lit< tt)) at bytes.prefix

  prefix_at : length (filter_at m k).prefix ≡ byte_at m PREFIX-AT k
  prefix_at = prefix_length (take RULE-WIDTH (drop (RULE-WIDTH * k) m)) bytes ∙ slot_byte m k PREFIX-AT (lit< tt)

  digit_at : (j : ℕ) → j < length (filter_at m k).prefix → get_or (filter_at m k).prefix j 0 ≡ byte_at m (PREFIX-DIGITS-AT + j) k
  digit_at j h =
      let s = take RULE-WIDTH (drop (RULE-WIDTH * k) m) in
      let l : j < get_or s PREFIX-AT 0 = omega (arith, prefix_at, slot_byte m k PREFIX-AT (lit< tt)) in
      let w : PREFIX-DIGITS-AT + j < RULE-WIDTH = omega (arith, bytes.prefix) in
      ap (λ (ps : List ℕ). get_or ps j 0) (prefix_is s bytes) ∙ get_or-take (get_or s PREFIX-AT 0) (drop PREFIX-DIGITS-AT s) j 0 l ∙ get_or-drop PREFIX-DIGITS-AT s j 0 ∙ slot_byte m k (PREFIX-DIGITS-AT + j) w

-- THE ORDER OF TWO PLACES

ordered : (rs : List Rule) (d : Rule) (a b : ℕ) → T (rules_in_order rs) → a < b → b < length rs → compare_filters (filter_in (get_or rs a d)) (filter_in (get_or rs b d)) ≡ Ordering.lt
ordered [] d a b t h k = absurd (omega (arith, k))
ordered (r ∷ rs) d a zero t h k = absurd (omega (arith, h))
ordered (r ∷ rs) d zero (suc b) t h k =
    is_lt_lem _ (all_place (λ (s : Rule). is_before (filter_in r) (filter_in s)) rs d b (and_left (all (λ (s : Rule). is_before (filter_in r) (filter_in s)) rs) (rules_in_order rs) t) (le_of_suc-le-suc k))
ordered (r ∷ rs) d (suc a) (suc b) t h k =
    ordered rs d a b (and_right (all (λ (s : Rule). is_before (filter_in r) (filter_in s)) rs) (rules_in_order rs) t) (le_of_suc-le-suc h) (le_of_suc-le-suc k)

rule_filter : (n : ℕ) (m : List ℕ) (k : ℕ) → k < n → filter_in (get_or (rules_of n m) k (rule_of [])) ≡ filter_at m k
unfolding rules_of
rule_filter n m k h = ap filter_in (get_or-map rule_of (slots RULE-WIDTH n m) k [] ∙ ap rule_of (slot_at RULE-WIDTH k n m h)) ∙ filter_in_lem (take RULE-WIDTH (drop (RULE-WIDTH * k) m))

places_ordered : (n : ℕ) (m : List ℕ) → rules_in_order (rules_of n m) ≡ true → (a b : ℕ) → a < b → b < n → compare_filters (filter_at m a) (filter_at m b) ≡ Ordering.lt
places_ordered n m order a b h k =
    let e : compare_filters (filter_in (get_or (rules_of n m) a (rule_of []))) (filter_in (get_or (rules_of n m) b (rule_of []))) ≡ Ordering.lt =
    ordered (rules_of n m) (rule_of []) a b (true_is _ order) h (rw (length_rules n m) k) in
    rw (rule_filter n m a (omega arith), rule_filter n m b k) at e

class_rising : (n : ℕ) (m : List ℕ) → RuleArea n m → rules_in_order (rules_of n m) ≡ true → Rising m 0 n CLASS-AT
class_rising n m area order a b h l k =
    rw (class_at n m area a (omega arith), class_at n m area b k) at (classes_rise (filter_at m a) (filter_at m b) (places_ordered n m order a b l k))

-- WHAT IS LEFT AFTER PLACES THAT WEIGH NOTHING

-- no rule from place a to before b fits the number
abbrev pub Unfit : List ℕ → ℕ → List ℕ → ℕ → ℕ → Type 0
Unfit m class ds a b = (k : ℕ) → a ≤ k → k < b → weight class ds (filter_at m k) ≡ 0

module _ (m : List ℕ) (n class : ℕ) (ds : List ℕ) where
  weight_lent : (k : ℕ) → weight class ds (filter_at m k) ≡ weight class ds (filter_of (take (RULE-WIDTH * k + RULE-WIDTH - RULE-WIDTH * k) (drop (RULE-WIDTH * k) m)))
  weight_lent k = rw (lent k)

  skip : (best : Option ℕ) (most d i k : ℕ) → k ≡ i + d → k ≤ n → Unfit m class ds i k → Left m n class ds best most i → Left m n class ds best most k
  skip best most zero i k e h u l = let q : k ≡ i = omega arith in rw q l
  skip best most (suc d) i k e h u l =
      skip best most d (i + 1) k (omega arith) h (λ p g. u p (omega (arith, g)))
      (left_worse m n class ds best most i l (weight class ds (filter_at m i)) (omega arith) (weight_lent i) (omega (arith, u i (omega arith) (omega arith))))

  pub left_skip : (best : Option ℕ) (most i k : ℕ) → i ≤ k → k ≤ n → Unfit m class ds i k → Left m n class ds best most i → Left m n class ds best most k
  left_skip best most i k g h u l = skip best most (k - i) i k (omega arith) h u l

-- THE PLACES LEFT

-- the number's class, and its first j digits at the front of the prefix
pub record Agrees (class : ℕ) (ds : List ℕ) (j : ℕ) (f : Filter) : Type 0 where
  pub class_is : f.class ≡ class
  pub long : j ≤ length f.prefix
  pub same : take j f.prefix ≡ take j ds

-- at depth j the places from lo to hi are left, with the best so far
pub record Reached (m : List ℕ) (n class : ℕ) (ds : List ℕ) (best : Option ℕ) (most j lo hi : ℕ) : Type 0 where
  pub low : lo ≤ hi
  pub high : hi ≤ n
  pub many : n ≤ 4096
  pub room : RULE-WIDTH * n ≤ length m
  pub few : j ≤ 16
  pub deep : j ≤ length ds
  pub left : Left m n class ds best most lo
  pub agree : (k : ℕ) → lo ≤ k → k < hi → Agrees class ds j (filter_at m k)
  pub unfit : Unfit m class ds hi n

module _ {n : ℕ} {m : List ℕ} (area : RuleArea n m) (order : rules_in_order (rules_of n m) ≡ true) {class : ℕ} {ds : List ℕ} where
  -- the places of the number's class
  pub class_reached : {d lo hi : ℕ} → d ≡ class → Narrowed m 0 n CLASS-AT d lo hi → Reached m n class ds none 0 0 lo hi
  class_reached {d} {lo} {hi} e s =
      let p : Parted m 0 n CLASS-AT d lo hi = parted m 0 n CLASS-AT d lo hi (class_rising n m area order) s in
      let apart : (k : ℕ) → k < n → byte_at m CLASS-AT k ≢ d → weight class ds (filter_at m k) ≡ 0 =
      λ k h q. other_class class ds (filter_at m k) (λ x. q (sym (class_at n m area k h) ∙ x ∙ sym e)) in
      record {
        low = p.along;
        high = p.high;
        many = area.few;
        room = area.room;
        few = zero-le;
        deep = zero-le;
        left = left_skip m n class ds none 0 0 lo zero-le (omega (arith, p.along, p.high))
            (λ k h g. apart k (omega (arith, g, p.along, p.high)) (λ x. omega (arith, x, p.below k h g))) (left_all m n class ds);
        agree = λ k h g. record { class_is = class_at n m area k (omega (arith, g, p.high)) ∙ p.equal k h g ∙ e; long = zero-le; same = refl };
        unfit = λ k h g. apart k g (λ x. omega (arith, x, p.above k h g));
      }

  module _ {best : Option ℕ} {most j lo hi : ℕ} (r : Reached m n class ds best most j lo hi) where
    -- no place is left
    pub none_left : hi ≤ lo → chosen_place class ds (rules_of n m) ≡ best
    none_left h =
        left_none m n class ds best most n
        (left_skip m n class ds best most lo n (omega (arith, r.low, r.high)) (omega arith) (λ k g. r.unfit k (omega (arith, g))) r.left) (omega arith)

    module _ (more : lo < hi) where
      first : lo < n
      first = omega (arith, r.high)

      -- the prefix of the first place is the digits so far: its length decides
      module _ {w l : ℕ} (ends : byte_at m PREFIX-AT lo ≡ j) (l-is : l ≡ byte_at m LENGTH-AT lo) (w-is : w ≡ length_weight j (length ds) l) where
        own_weight : w ≡ weight class ds (filter_of (take (RULE-WIDTH * lo + RULE-WIDTH - RULE-WIDTH * lo) (drop (RULE-WIDTH * lo) m)))
        own_weight =
            let a = r.agree lo (omega arith) more in
            let e : weight class ds (filter_at m lo) ≡ length_weight j (length ds) (filter_at m lo).len =
            by_length class ds (filter_at m lo) j a.class_is (prefix_at n m area lo first ∙ ends) r.deep a.same in
            w-is ∙ ap (length_weight j (length ds)) (l-is ∙ sym (len_at n m area lo first)) ∙ sym e ∙ weight_lent m n class ds lo

        behind : (b : Option ℕ) (v : ℕ) → Left m n class ds b v (lo + 1) → Reached m n class ds b v j (lo + 1) hi
        behind b v left =
            record {
              low = omega arith;
              high = r.high;
              many = r.many;
              room = r.room;
              few = r.few;
              deep = r.deep;
              left = left;
              agree = λ k h g. r.agree k (omega (arith, h)) g;
              unfit = r.unfit;
            }

        pub own_better : most < w → Reached m n class ds (some lo) w j (lo + 1) hi
        own_better h = behind (some lo) w (left_better m n class ds best most lo r.left w first own_weight h)

        pub own_worse : w ≤ most → Reached m n class ds best most j (lo + 1) hi
        own_worse h = behind best most (left_worse m n class ds best most lo r.left w first own_weight h)

      -- it goes on, and so do those of all places behind it
      module _ (goes : byte_at m PREFIX-AT lo ≢ j) where
        first_longer : j < length (filter_at m lo).prefix
        first_longer = omega (arith, prefix_at n m area lo first, (r.agree lo (omega arith) more).long, goes)

        rise : (a b : ℕ) → lo ≤ a → a < b → b < hi → j < length (filter_at m a).prefix
            → (j < length (filter_at m b).prefix) × (get_or (filter_at m a).prefix j 0 ≤ get_or (filter_at m b).prefix j 0)
        rise a b h l k p =
            let x = r.agree a h (omega arith) in
            let y = r.agree b (omega arith) k in
            digits_rise (filter_at m a).prefix (filter_at m b).prefix j
            (not_behind (filter_at m a) (filter_at m b) (places_ordered n m order a b l (omega (arith, r.high))) (x.class_is ∙ sym y.class_is)) (x.same ∙ sym y.same) p y.long

        longer : (k : ℕ) → lo ≤ k → k < hi → j < length (filter_at m k).prefix
        longer k h g = go (ltb lo k) refl
          where
            go : (t : Bool) → ltb lo k ≡ t → j < length (filter_at m k).prefix
            go true q = (rise lo k (omega arith) (ltb-true lo k q) g first_longer).0
            go false q = let e : k ≡ lo = omega (arith, ltb-false lo k q) in rw e first_longer

        pub below_16 : j < 16
        below_16 = omega (arith, first_longer, prefix_at n m area lo first, few_at n m area lo first)

        -- the number ends here
        pub number_ends : length ds ≤ j → chosen_place class ds (rules_of n m) ≡ best
        number_ends h =
            left_none m n class ds best most n (left_skip m n class ds best most lo n (omega (arith, first)) (omega arith) (λ k g l. go k g l (ltb k hi) refl) r.left) (omega arith)
          where
            go : (k : ℕ) → lo ≤ k → k < n → (t : Bool) → ltb k hi ≡ t → weight class ds (filter_at m k) ≡ 0
            go k g l true q = too_long class ds (filter_at m k) (omega (arith, longer k g (ltb-true k hi q)))
            go k g l false q = r.unfit k (ltb-false k hi q) l

        -- the number goes on with digit d: the places whose prefix does too
        module _ (on : j < length ds) {d from to : ℕ} (d-is : d ≡ get_or ds j 0) (s : Narrowed m lo hi (PREFIX-DIGITS-AT + j) d from to) where
          byte_is : (k : ℕ) → lo ≤ k → k < hi → get_or (filter_at m k).prefix j 0 ≡ byte_at m (PREFIX-DIGITS-AT + j) k
          byte_is k h g = digit_at n m area k (omega (arith, r.high)) j (longer k h g)

          rising : Rising m lo hi (PREFIX-DIGITS-AT + j)
          rising a b h l k = rw (byte_is a h (omega arith), byte_is b (omega arith) k) at (rise a b h l k (longer a h (omega arith))).1

          apart : (k : ℕ) → lo ≤ k → k < hi → byte_at m (PREFIX-DIGITS-AT + j) k ≢ d → weight class ds (filter_at m k) ≡ 0
          apart k h g q = other_digit class ds (filter_at m k) j (longer k h g) on (λ x. q (sym (byte_is k h g) ∙ x ∙ sym d-is))

          pub digit_reached : Reached m n class ds best most (j + 1) from to
          digit_reached =
              let p : Parted m lo hi (PREFIX-DIGITS-AT + j) d from to = parted m lo hi (PREFIX-DIGITS-AT + j) d from to rising s in
              record {
                low = p.along;
                high = omega (arith, p.high, r.high);
                many = r.many;
                room = r.room;
                few = omega (arith, below_16);
                deep = omega arith;
                left = left_skip m n class ds best most lo from p.low (omega (arith, p.along, p.high, r.high))
                    (λ k h g. apart k h (omega (arith, g, p.along, p.high)) (λ x. omega (arith, x, p.below k h g))) r.left;
                agree = λ k h g. agrees k (omega (arith, h, p.low)) (omega (arith, g, p.high)) (p.equal k h g);
                unfit = λ k h g. over k (omega (arith, h, p.low, p.along)) g (p.above k h) (ltb k hi) refl;
              }
            where
              agrees : (k : ℕ) → lo ≤ k → k < hi → byte_at m (PREFIX-DIGITS-AT + j) k ≡ d → Agrees class ds (j + 1) (filter_at m k)
              agrees k h g e =
                  let a = r.agree k h g in
                  record {
                    class_is = a.class_is;
                    long = omega (arith, longer k h g);
                    same = one_more (filter_at m k).prefix ds j a.same (longer k h g) on (byte_is k h g ∙ e ∙ d-is);
                  }

              over : (k : ℕ) → lo ≤ k → k < n → (k < hi → d < byte_at m (PREFIX-DIGITS-AT + j) k) → (t : Bool) → ltb k hi ≡ t → weight class ds (filter_at m k) ≡ 0
              over k h g up true q = apart k h (ltb-true k hi q) (λ x. omega (arith, x, up (ltb-true k hi q)))
              over k h g up false q = r.unfit k (ltb-false k hi q) g
