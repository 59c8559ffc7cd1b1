-- The walks through two sound plans: what is left to be counted, and what is left to be written, decides.
use Prim.Native.Nat.{ℕ, ◌+◌, ◌-◌, ◌≤◌, ◌<◌}
use mathlib.Core.Path.{◌≡◌, refl, ap, ap₂, sym, ◌∙◌}
use mathlib.Core.Logic.{◌≢◌}
use mathlib.Core.Bool.{true}
use mathlib.Core.List.{List, [], ◌++◌}
use native.Mathlib.Omega.{arith}
use lib.ListN.{length, take, drop, length-append, length-drop}
use borrow.Rule.Slice.PartMut.{put_mid, mid_of, same_len_mid}
use Rattle.meaning.specs.Basics.{written_over}
use Rattle.meaning.specs.Plan.{Plan}
use Rattle.buffer.specs.Slots.{flat}
use Rattle.buffer.proofs.ListLaws.{rest_back, rest_is}
use Rattle.buffer.proofs.SlotLaws.{flat_append}
use Rattle.plan.specs.Layout.{plan_of}
use Rattle.plan.specs.State.{sound_of}
use Rattle.plan.proofs.ReadLaws.{numbers, rule_count_is}
use Rattle.compare.specs.Steps.{ENDED, kind_at, rule_in, entries_from, takes_left, takes_right, lists, listed_by, CountsEntries, PutsEntries}
use Rattle.compare.specs.Standings.{number_of}
use Rattle.compare.specs.declared.Standing.{Standing}
use Rattle.compare.specs.declared.Standing.TheVariants.{LeftOnly, RightOnly, InBoth, Alike}
use Rattle.compare.proofs.Steps.{Next, next, nothing_left, lists_length}
use Rattle.compare.proofs.Written.{over_next, over_long, over_none}

-- how many rules there are
abbrev pub many : List ℕ → ℕ
many m = length (plan_of m).rules

-- the places reached
pub record Reached (left right : List ℕ) (i j : ℕ) : Type 0 where
  pub left_few : many left ≤ 4096
  pub right_few : many right ≤ 4096
  pub on_left : i ≤ many left
  pub on_right : j ≤ many right

pub at_start_lem : (left right : List ℕ) → sound_of left ≡ true → sound_of right ≡ true → Reached left right 0 0
at_start_lem left right left-sound right-sound =
    let l = numbers left left-sound in
    let r = numbers right right-sound in
    record {
      left_few = omega (arith, rule_count_is left, l.count_most, l.rules_most);
      right_few = omega (arith, rule_count_is right, r.count_most, r.rules_most);
      on_left = omega arith;
      on_right = omega arith;
    }

module _ (left right : List ℕ) (i j k : ℕ) (at : Reached left right i j) (is : k ≡ kind_at (plan_of left) (plan_of right) i j) (on : k ≢ ENDED) where
  pub next_here : Next (plan_of left) (plan_of right) k i j
  next_here = next (plan_of left) (plan_of right) i j k at.on_left at.on_right is on

  module _ (a b : ℕ) (a-is : a ≡ takes_left k) (b-is : b ≡ takes_right k) where
    pub reached_next : Reached left right (i + a) (j + b)
    reached_next =
        record {
          left_few = at.left_few;
          right_few = at.right_few;
          on_left = omega (arith, next_here.on_left, a-is);
          on_right = omega (arith, next_here.on_right, b-is);
        }

    -- the way that is left falls
    pub falls : (many left - (i + a)) + (many right - (j + b)) < (many left - i) + (many right - j)
    falls = omega (arith, next_here.on_left, next_here.on_right, next_here.onward, a-is, b-is)

-- what stands at two places is no end
pub goes_on : (s : Standing) → number_of s ≢ ENDED
goes_on (LeftOnly x) e = omega (arith, e)
goes_on (RightOnly y) e = omega (arith, e)
goes_on (InBoth x y) e = omega (arith, e)
goes_on Alike e = omega (arith, e)

-- COUNTING

pub record Counting (left right : List ℕ) (i j n : ℕ) : Type 0 where
  pub at : Reached left right i j
  pub few : n ≤ i + j
  pub count : n + length (entries_from (plan_of left) (plan_of right) i j) ≡ length (entries_from (plan_of left) (plan_of right) 0 0)

pub counting_none : (left right : List ℕ) → sound_of left ≡ true → sound_of right ≡ true → Counting left right 0 0 0
counting_none left right e f = record { at = at_start_lem left right e f; few = omega arith; count = omega arith }

module _ (left right : List ℕ) (i j n k : ℕ) (inv : Counting left right i j n) (is : k ≡ kind_at (plan_of left) (plan_of right) i j) where
  pub counting_all : k ≡ ENDED → CountsEntries (plan_of left) (plan_of right) n
  counting_all e =
      let none_left = ap length (nothing_left (plan_of left) (plan_of right) i j k is e) in
      record {
        is = omega (arith, inv.count, none_left);
        few = omega (arith, inv.few, inv.at.on_left, inv.at.on_right, inv.at.left_few, inv.at.right_few);
      }

  module _ (on : k ≢ ENDED) (a b d : ℕ) (a-is : a ≡ takes_left k) (b-is : b ≡ takes_right k) (d-is : d ≡ lists k) where
    pub counting_next : Counting left right (i + a) (j + b) (n + d)
    counting_next =
        let p = plan_of left in
        let q = plan_of right in
        let step = next_here left right i j k inv.at is on in
        let split = ap length step.entries ∙ length-append (listed_by k (rule_in p i) (rule_in q j)) (entries_from p q (i + takes_left k) (j + takes_right k)) in
        let listed = lists_length k (rule_in p i) (rule_in q j) in
        let rest : length (entries_from p q (i + a) (j + b)) ≡ length (entries_from p q (i + takes_left k) (j + takes_right k)) =
        ap₂ (λ x y. length (entries_from p q (i + x) (j + y))) a-is b-is in
        record {
          at = reached_next left right i j k inv.at is on a b a-is b-is;
          few = omega (arith, inv.few, step.onward, step.one, a-is, b-is, d-is);
          count = omega (arith, inv.count, split, listed, rest, d-is);
        }

-- WRITING

pub record Writing (left right out : List ℕ) (i j end : ℕ) (s : List ℕ) : Type 0 where
  pub at : Reached left right i j
  pub room : end + length (flat (entries_from (plan_of left) (plan_of right) i j)) ≤ length s
  pub long : length s ≡ length out
  pub bytes : take end s ++ written_over (flat (entries_from (plan_of left) (plan_of right) i j)) (drop end s)
      ≡ written_over (flat (entries_from (plan_of left) (plan_of right) 0 0)) out

pub writing_none : (left right out : List ℕ) → sound_of left ≡ true → sound_of right ≡ true → length (flat (entries_from (plan_of left) (plan_of right) 0 0)) ≤ length out → Writing left right out 0 0 0 out
writing_none left right out e f fits = record { at = at_start_lem left right e f; room = omega (arith, fits); long = refl; bytes = refl }

module _ (left right out : List ℕ) (i j end k : ℕ) (s : List ℕ) (inv : Writing left right out i j end s) (is : k ≡ kind_at (plan_of left) (plan_of right) i j) where
  abbrev p : Plan
  p = plan_of left

  abbrev q : Plan
  q = plan_of right

  pub writing_all : k ≡ ENDED → s ≡ written_over (flat (entries_from p q 0 0)) out
  writing_all e =
      let none_left : flat (entries_from p q i j) ≡ [] = ap flat (nothing_left p q i j k is e) in
      sym (over_none s end) ∙ (ap (λ (b : List ℕ). take end s ++ written_over b (drop end s)) (sym none_left) ∙ inv.bytes)

  module _ (on : k ≢ ENDED) where
    abbrev listed : List ℕ
    listed = flat (listed_by k (rule_in p i) (rule_in q j))

    abbrev rest : List ℕ
    rest = flat (entries_from p q (i + takes_left k) (j + takes_right k))

    split : flat (entries_from p q i j) ≡ listed ++ rest
    split =
        ap flat (next_here left right i j k inv.at is on).entries
        ∙ flat_append (listed_by k (rule_in p i) (rule_in q j)) (entries_from p q (i + takes_left k) (j + takes_right k))

    sizes : length (flat (entries_from p q i j)) ≡ length listed + length rest
    sizes = ap length split ∙ length-append listed rest

    pub part_there : end ≤ length s
    part_there = omega (arith, inv.room)

    module _ (es : List (List ℕ)) (es-is : es ≡ listed_by k (rule_in p i) (rule_in q j)) where
      pub puts_here : (part : List ℕ) → part ≡ mid_of end (length s - end) s → length (flat es) ≤ length part
      puts_here part part_is =
          let l : length part ≡ length s - end = ap length (part_is ∙ rest_is end s) ∙ length-drop end s in
          omega (arith, l, inv.room, sizes, ap (λ (x : List (List ℕ)). length (flat x)) es-is)

      module _ (ys : List ℕ) (n : ℕ) (given : PutsEntries es (mid_of end (length s - end) s) ys n) where
        put : PutsEntries (listed_by k (rule_in p i) (rule_in q j)) (mid_of end (length s - end) s) ys n
        put = rw (← es-is) given

        pub end_fits : end + n ≤ length s
        end_fits = omega (arith, inv.room, sizes, put.bytes)

        pub writing_next : (a b : ℕ) → a ≡ takes_left k → b ≡ takes_right k
            → Writing left right out (i + a) (j + b) (end + n) (put_mid end (length s - end) s ys)
        writing_next a b a-is b-is =
            let after : ys ≡ written_over listed (drop end s) = put.buffer ∙ ap (written_over listed) (rest_is end s) in
            let back : put_mid end (length s - end) s ys ≡ take end s ++ written_over listed (drop end s) =
            rest_back end s ys part_there ∙ ap (λ (b : List ℕ). take end s ++ b) after in
            let later : flat (entries_from p q (i + a) (j + b)) ≡ rest = ap₂ (λ x y. flat (entries_from p q (i + x) (j + y))) a-is b-is in
            let part : mid_of end (length s - end) s ≡ drop end s = rest_is end s in
            let fits : length listed ≤ length (drop end s) = omega (arith, length-drop end s, inv.room, sizes) in
            let same : length ys ≡ length (mid_of end (length s - end) s) = ap length after ∙ (over_long listed (drop end s) fits ∙ ap length (sym part)) in
            let same-long : length (put_mid end (length s - end) s ys) ≡ length s = same_len_mid end (length s - end) s ys same in
            record {
              at = reached_next left right i j k inv.at is on a b a-is b-is;
              room = omega (arith, same-long, inv.room, sizes, put.bytes, ap length later);
              long = same-long ∙ inv.long;
              bytes =
                  ap₂ (λ (t : List ℕ) (m : ℕ). take (end + m) t ++ written_over (flat (entries_from p q (i + a) (j + b))) (drop (end + m) t)) back put.bytes
                  ∙ (ap (λ (r : List ℕ). take (end + length listed) (take end s ++ written_over listed (drop end s)) ++ written_over r (drop (end + length listed) (take end s ++ written_over listed (drop end s)))) later
                  ∙ (over_next s listed rest end part_there ∙ (ap (λ (r : List ℕ). take end s ++ written_over r (drop end s)) (sym split) ∙ inv.bytes)));
            }
