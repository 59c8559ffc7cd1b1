-- The listing order of two filters, by what was read of their bytes.
use Prim.Native.Nat.{ℕ, ◌≤◌, ◌<◌, compare, Ordering}
use mathlib.Core.Path.{◌≡◌, refl, sym, ap, ◌∙◌}
use mathlib.Core.List.{List}
use lib.ListN.{length, get_or, drop, drop_of_length-le}
use lib.Seq.{drop-cons}
use Rattle.std.specs.Ordering.{nat_cmp}
use Rattle.std.specs.declared.cmp.Ordering.{Ordering as Compared}
use Rattle.std.specs.declared.cmp.Ordering.TheVariants.{Less, Equal, Greater}
use Rattle.std.proofs.lemmas.Cmp.{ranked, by_ranked}
use Rattle.meaning.specs.Sizes.{CLASS-AT, LENGTH-AT}
use Rattle.meaning.specs.Filters.{filter_of, ◌then◌, compare_prefixes, compare_lengths, compare_filters}
use Rattle.meaning.specs.Answers.{ordering_of}
use Rattle.meaning.proofs.ListingOrder.{numbers, compare_less, compare_more}

-- PREFIXES: what is left to compare decides

module _ (xs ys : List ℕ) (i : ℕ) (so_far : compare_prefixes xs ys ≡ compare_prefixes (drop i xs) (drop i ys)) where
  pub prefix_longer : i < length xs → length ys ≤ i → Ordering.gt ≡ compare_prefixes xs ys
  prefix_longer a l = sym (so_far ∙ rw (drop-cons xs i 0, drop_of_length-le ys))

  pub prefix_shorter : length xs ≤ i → i < length ys → Ordering.lt ≡ compare_prefixes xs ys
  prefix_shorter a b = sym (so_far ∙ rw (drop_of_length-le xs, drop-cons ys i 0))

-- FILTERS: by class; then, with o the order of the prefixes, by o and the lengths

-- the library's order of numbers
number_as : (x y : ℕ) → ordering_of (nat_cmp x y) ≡ compare x y
number_as x y =
    by_ranked _ _ _ (nat_cmp x y) (ranked x y (nat_cmp x y) refl)
    (λ e l. ap ordering_of e ∙ sym (compare_less x y l))
    (λ e q. ap ordering_of e ∙ rw q (sym (numbers.self y)))
    (λ e l. ap ordering_of e ∙ sym (compare_more x y l))

then_decided : (x y : Ordering) → (x ≡ Ordering.eq → ⊥) → x then y ≡ x
then_decided Ordering.lt y n = refl
then_decided Ordering.eq y n = absurd (n refl)
then_decided Ordering.gt y n = refl

undecided : (o : Compared) → ordering_of o ≡ Ordering.eq → o ≡ Equal
undecided Less e = cc
undecided Equal e = refl
undecided Greater e = cc

module _ (a b : List ℕ) where
  pub by_class : (o : Compared) → o ≡ nat_cmp (get_or a CLASS-AT 0) (get_or b CLASS-AT 0) → (get_or a CLASS-AT 0 ≡ get_or b CLASS-AT 0 → ⊥) → ordering_of o ≡ compare_filters (filter_of a) (filter_of b)
  unfolding compare_filters filter_of
  by_class o o_is n =
      let e : ordering_of o ≡ compare (get_or a CLASS-AT 0) (get_or b CLASS-AT 0) = ap ordering_of o_is ∙ number_as (get_or a CLASS-AT 0) (get_or b CLASS-AT 0) in
      let d : compare (get_or a CLASS-AT 0) (get_or b CLASS-AT 0) ≡ Ordering.eq → ⊥ = λ q. n (numbers.same (get_or a CLASS-AT 0) (get_or b CLASS-AT 0) q) in
      e ∙ sym (then_decided (compare (get_or a CLASS-AT 0) (get_or b CLASS-AT 0)) (compare_prefixes (filter_of a).prefix (filter_of b).prefix then compare_lengths (get_or a LENGTH-AT 0) (get_or b LENGTH-AT 0)) d)

  module _ (o : Compared) (h : get_or a CLASS-AT 0 ≡ get_or b CLASS-AT 0) (o_is : ordering_of o ≡ compare_prefixes (filter_of a).prefix (filter_of b).prefix) where
    class_same : compare_filters (filter_of a) (filter_of b) ≡ ordering_of o then compare_lengths (get_or a LENGTH-AT 0) (get_or b LENGTH-AT 0)
    unfolding compare_filters filter_of
    class_same = rw (h, numbers.self (get_or b CLASS-AT 0), o_is)

    pub by_length : o ≡ Equal → compare_lengths (get_or a LENGTH-AT 0) (get_or b LENGTH-AT 0) ≡ compare_filters (filter_of a) (filter_of b)
    by_length e = sym (class_same ∙ rw e)

    pub by_prefix : (o ≡ Equal → ⊥) → ordering_of o ≡ compare_filters (filter_of a) (filter_of b)
    by_prefix n = sym (class_same ∙ then_decided (ordering_of o) (compare_lengths (get_or a LENGTH-AT 0) (get_or b LENGTH-AT 0)) (λ q. n (undecided o q)))
