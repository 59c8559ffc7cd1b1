-- The listing order is a strict order on filters: it tells equal ones, it can be turned round, and it is transitive.
use Prim.Native.Nat.{ℕ, zero, suc, ◌<◌, compare, Ordering}
use mathlib.Core.Path.{◌≡◌, refl, ap, ap₂, sym, ◌∙◌}
use mathlib.Core.List.{List, [], ◌∷◌}
use native.Mathlib.Nat.{le_of_suc-le-suc}
use native.Mathlib.Omega.{arith}
use Rattle.meaning.specs.Filters.{Filter, ◌then◌, compare_prefixes, compare_lengths, compare_filters}

abbrev pub flip : Ordering → Ordering
flip Ordering.lt = Ordering.gt
flip Ordering.eq = Ordering.eq
flip Ordering.gt = Ordering.lt

pub record Lawful {A : Type 0} (c : A → A → Ordering) : Type 0 where
  pub same : (x y : A) → c x y ≡ Ordering.eq → x ≡ y
  pub self : (x : A) → c x x ≡ Ordering.eq
  pub swap : (x y : A) → c y x ≡ flip (c x y)
  pub trans : (x y z : A) → c x y ≡ Ordering.lt → c y z ≡ Ordering.lt → c x z ≡ Ordering.lt

then_left : (a b : Ordering) → a then b ≡ Ordering.eq → a ≡ Ordering.eq
then_left Ordering.lt b e = e
then_left Ordering.eq b e = refl
then_left Ordering.gt b e = e

then_right : (a b : Ordering) → a then b ≡ Ordering.eq → b ≡ Ordering.eq
then_right Ordering.lt b e = cc
then_right Ordering.eq b e = e
then_right Ordering.gt b e = cc

then_flip : (a b : Ordering) → flip a then flip b ≡ flip (a then b)
then_flip Ordering.lt b = refl
then_flip Ordering.eq b = refl
then_flip Ordering.gt b = refl

then_trans : (ab bc ac ab' bc' ac' : Ordering)
    → (ab ≡ Ordering.lt → bc ≡ Ordering.lt → ac ≡ Ordering.lt) → (ab ≡ Ordering.eq → ac ≡ bc) → (bc ≡ Ordering.eq → ac ≡ ab)
    → (ab' ≡ Ordering.lt → bc' ≡ Ordering.lt → ac' ≡ Ordering.lt)
    → ab then ab' ≡ Ordering.lt → bc then bc' ≡ Ordering.lt → ac then ac' ≡ Ordering.lt
then_trans Ordering.lt Ordering.lt ac ab' bc' ac' t l r t' p q = rw (t refl refl)
then_trans Ordering.lt Ordering.eq ac ab' bc' ac' t l r t' p q = rw (r refl)
then_trans Ordering.lt Ordering.gt ac ab' bc' ac' t l r t' p q = cc
then_trans Ordering.eq Ordering.lt ac ab' bc' ac' t l r t' p q = rw (l refl)
then_trans Ordering.eq Ordering.eq ac ab' bc' ac' t l r t' p q = rw (l refl) (t' p q)
then_trans Ordering.eq Ordering.gt ac ab' bc' ac' t l r t' p q = cc
then_trans Ordering.gt bc ac ab' bc' ac' t l r t' p q = cc

number_same : (x y : ℕ) → compare x y ≡ Ordering.eq → x ≡ y
number_same zero zero e = refl
number_same zero (suc y) e = cc (Prim.Native.Nat.compare.zero-suc y)
number_same (suc x) zero e = cc (Prim.Native.Nat.compare.suc-zero x)
number_same (suc x) (suc y) e = ap suc (number_same x y (sym (Prim.Native.Nat.compare.suc-suc x y) ∙ e))

number_self : (x : ℕ) → compare x x ≡ Ordering.eq
number_self zero = Prim.Native.Nat.compare.zero-zero
number_self (suc x) = Prim.Native.Nat.compare.suc-suc x x ∙ number_self x

number_swap : (x y : ℕ) → compare y x ≡ flip (compare x y)
number_swap zero zero = refl
number_swap zero (suc y) = rw (Prim.Native.Nat.compare.suc-zero y, Prim.Native.Nat.compare.zero-suc y)
number_swap (suc x) zero = rw (Prim.Native.Nat.compare.zero-suc x, Prim.Native.Nat.compare.suc-zero x)
number_swap (suc x) (suc y) = rw (Prim.Native.Nat.compare.suc-suc y x, Prim.Native.Nat.compare.suc-suc x y) (number_swap x y)

number_trans : (x y z : ℕ) → compare x y ≡ Ordering.lt → compare y z ≡ Ordering.lt → compare x z ≡ Ordering.lt
number_trans zero y zero p q = cc (number_swap zero y)
number_trans zero y (suc z) p q = Prim.Native.Nat.compare.zero-suc z
number_trans (suc x) zero z p q = cc (Prim.Native.Nat.compare.suc-zero x)
number_trans (suc x) (suc y) zero p q = cc (Prim.Native.Nat.compare.suc-zero y)
number_trans (suc x) (suc y) (suc z) p q =
    Prim.Native.Nat.compare.suc-suc x z ∙ number_trans x y z (sym (Prim.Native.Nat.compare.suc-suc x y) ∙ p) (sym (Prim.Native.Nat.compare.suc-suc y z) ∙ q)

pub numbers : Lawful compare
numbers = record { same = number_same; self = number_self; swap = number_swap; trans = number_trans }

-- one comparison and then another, of parts that the first or the second decides
left_eq : {A : Type 0} {c : A → A → Ordering} → Lawful c → (x y z : A) → c x y ≡ Ordering.eq → c x z ≡ c y z
left_eq {c} L x y z e = ap (λ a. c a z) (L.same x y e)

right_eq : {A : Type 0} {c : A → A → Ordering} → Lawful c → (x y z : A) → c y z ≡ Ordering.eq → c x z ≡ c x y
right_eq {c} L x y z e = ap (λ a. c x a) (sym (L.same y z e))

prefix_same : (x y : List ℕ) → compare_prefixes x y ≡ Ordering.eq → x ≡ y
prefix_same [] [] e = refl
prefix_same [] (y ∷ ys) e = cc
prefix_same (x ∷ xs) [] e = cc
prefix_same (x ∷ xs) (y ∷ ys) e = ap₂ ◌∷◌ (number_same x y (then_left (compare x y) (compare_prefixes xs ys) e)) (prefix_same xs ys (then_right (compare x y) (compare_prefixes xs ys) e))

prefix_self : (x : List ℕ) → compare_prefixes x x ≡ Ordering.eq
prefix_self [] = refl
prefix_self (x ∷ xs) = rw (number_self x) (prefix_self xs)

prefix_swap : (x y : List ℕ) → compare_prefixes y x ≡ flip (compare_prefixes x y)
prefix_swap [] [] = refl
prefix_swap [] (y ∷ ys) = refl
prefix_swap (x ∷ xs) [] = refl
prefix_swap (x ∷ xs) (y ∷ ys) = ap₂ ◌then◌ (number_swap x y) (prefix_swap xs ys) ∙ then_flip (compare x y) (compare_prefixes xs ys)

prefix_trans : (x y z : List ℕ) → compare_prefixes x y ≡ Ordering.lt → compare_prefixes y z ≡ Ordering.lt → compare_prefixes x z ≡ Ordering.lt
prefix_trans [] y [] p q = cc (prefix_swap [] y)
prefix_trans [] y (z ∷ zs) p q = refl
prefix_trans (x ∷ xs) [] z p q = cc
prefix_trans (x ∷ xs) (y ∷ ys) [] p q = cc
prefix_trans (x ∷ xs) (y ∷ ys) (z ∷ zs) p q =
    then_trans (compare x y) (compare y z) (compare x z) (compare_prefixes xs ys) (compare_prefixes ys zs) (compare_prefixes xs zs)
    (number_trans x y z) (left_eq numbers x y z) (right_eq numbers x y z) (prefix_trans xs ys zs) p q

pub prefixes : Lawful compare_prefixes
prefixes = record { same = prefix_same; self = prefix_self; swap = prefix_swap; trans = prefix_trans }

length_same : (x y : ℕ) → compare_lengths x y ≡ Ordering.eq → x ≡ y
length_same zero zero e = refl
length_same zero (suc y) e = cc
length_same (suc x) zero e = cc
length_same (suc x) (suc y) e = number_same (suc x) (suc y) e

length_self : (x : ℕ) → compare_lengths x x ≡ Ordering.eq
length_self zero = refl
length_self (suc x) = number_self (suc x)

length_swap : (x y : ℕ) → compare_lengths y x ≡ flip (compare_lengths x y)
length_swap zero zero = refl
length_swap zero (suc y) = refl
length_swap (suc x) zero = refl
length_swap (suc x) (suc y) = number_swap (suc x) (suc y)

length_trans : (x y z : ℕ) → compare_lengths x y ≡ Ordering.lt → compare_lengths y z ≡ Ordering.lt → compare_lengths x z ≡ Ordering.lt
length_trans zero zero z p q = cc
length_trans zero (suc y) z p q = cc
length_trans (suc x) y zero p q = refl
length_trans (suc x) zero (suc z) p q = cc
length_trans (suc x) (suc y) (suc z) p q = number_trans (suc x) (suc y) (suc z) p q

pub lengths : Lawful compare_lengths
lengths = record { same = length_same; self = length_self; swap = length_swap; trans = length_trans }

filter_same : (f g : Filter) → compare_filters f g ≡ Ordering.eq → f ≡ g
unfolding compare_filters
filter_same f g e =
    let c = compare f.class g.class in let d = compare_prefixes f.prefix g.prefix in let l = compare_lengths f.len g.len in
    let tail = then_right c (d then l) e in
    λ i. record {
      class = number_same f.class g.class (then_left c (d then l) e) i;
      prefix = prefix_same f.prefix g.prefix (then_left d l tail) i;
      len = length_same f.len g.len (then_right d l tail) i;
    }

filter_self : (f : Filter) → compare_filters f f ≡ Ordering.eq
unfolding compare_filters
filter_self f = rw (number_self f.class, prefix_self f.prefix) (length_self f.len)

filter_swap : (f g : Filter) → compare_filters g f ≡ flip (compare_filters f g)
unfolding compare_filters
filter_swap f g =
    rw (number_swap f.class g.class, prefix_swap f.prefix g.prefix, length_swap f.len g.len, then_flip, then_flip)

filter_trans : (f g h : Filter) → compare_filters f g ≡ Ordering.lt → compare_filters g h ≡ Ordering.lt → compare_filters f h ≡ Ordering.lt
unfolding compare_filters
filter_trans f g h =
    then_trans _ _ _ _ _ _ (number_trans f.class g.class h.class) (left_eq numbers f.class g.class h.class) (right_eq numbers f.class g.class h.class)
    (then_trans _ _ _ _ _ _ (prefix_trans f.prefix g.prefix h.prefix) (left_eq prefixes f.prefix g.prefix h.prefix) (right_eq prefixes f.prefix g.prefix h.prefix)
    (length_trans f.len g.len h.len))

pub filters : Lawful compare_filters
filters = record { same = filter_same; self = filter_self; swap = filter_swap; trans = filter_trans }

-- HOW A COMPARISON OF NUMBERS FALLS OUT

pub compare_less : (x y : ℕ) → x < y → compare x y ≡ Ordering.lt
compare_less x zero h = absurd (omega (arith, h))
compare_less zero (suc y) h = Prim.Native.Nat.compare.zero-suc y
compare_less (suc x) (suc y) h = Prim.Native.Nat.compare.suc-suc x y ∙ compare_less x y (le_of_suc-le-suc h)

pub compare_more : (x y : ℕ) → y < x → compare x y ≡ Ordering.gt
compare_more x y h = number_swap y x ∙ ap flip (compare_less y x h)
