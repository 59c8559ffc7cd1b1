-- What the functions of a turn answer.
use Prim.Native.Nat.{ℕ, ◌-◌, ◌≤◌, ◌<◌}
use mathlib.Core.Path.{◌≡◌, refl, ap, sym, subst, ◌∙◌}
use mathlib.Core.Bool.{Bool, true, false, not}
use mathlib.Core.List.{List, ◌++◌, append_assoc}
use native.Mathlib.Omega.{arith}
use lib.ListN.{length, take, drop, length-drop, take-append-drop}
use lib.Seq.{drop-append-le, length-take-le}
use borrow.Rule.Slice.PartMut.{mid_of, put_mid, post_of, Post-is}
use Rattle.meaning.specs.Sizes.{LONGEST-RECORD}
use Rattle.meaning.specs.Basics.{written_over}
use Rattle.std.specs.Prelude.{if◌then◌else◌}
use Rattle.buffer.proofs.ListLaws.{drop_take}
use Rattle.record.specs.Turns.{is_whole}
use Rattle.record.proofs.Steps.{not_whole_few}
use Rattle.pump.specs.declared.Pumped.{Pumped}
use Rattle.descriptors.specs.Moves.{Fillable, FillPromise}
use Rattle.descriptors.specs.declared.Source.{Source}
use Rattle.descriptors.specs.declared.Sink.{Sink}
use Rattle.descriptors.specs.declared.AtHand.{AtHand}
use Rattle.pump.specs.Pumps.{is_over}
use Rattle.stream.specs.Turnings.{SuppliesBy, SupplyPromise, Suppliable, rest_by, ending_by, turned_by}
use Rattle.stream.specs.declared.Turned.{Turned}
use Rattle.stream.specs.declared.Turned.TheVariants.{Goes, Done, NotWritten}

-- the front of a list, as it is lent
pub front_is : (e : ℕ) (xs : List ℕ) → take (e - 0) xs ≡ take e xs
front_is e xs = let same : e - 0 ≡ e = omega arith in ap (λ (n : ℕ). take n xs) same

-- WHAT IS LEFT MOVES TO THE FRONT

pub settled : (input lent : List ℕ) (at end : ℕ) → at ≤ end → end ≤ length input
    → lent ≡ drop at (mid_of 0 (end - 0) input) ++ drop (length (mid_of 0 (end - 0) input) - at) (mid_of 0 (end - 0) input)
    → put_mid 0 (end - 0) input lent ≡ written_over (take (end - at) (drop at input)) input
settled input lent at end h k is =
    let part : List ℕ = take end input in
    let size : length part ≡ end = length-take-le end input k in
    let left : drop at part ≡ take (end - at) (drop at input) = drop_take at end input h in
    let long : length (take (end - at) (drop at input)) ≡ end - at = length-take-le (end - at) (drop at input) (rw (length-drop at input) (omega arith)) in
    let now : lent ≡ take (end - at) (drop at input) ++ drop (end - at) part = rw (front_is end input, left, size) at is in
    let behind : drop (end - at) part ++ post_of 0 (end - 0) input ≡ drop (end - at) input =
    ap (λ (l : List ℕ). drop (end - at) part ++ l) (Post-is 0 end input (omega arith))
    ∙ (sym (drop-append-le (end - at) part (drop end input) (omega (arith, size))) ∙ ap (drop (end - at)) (take-append-drop end input)) in
    ap (λ (l : List ℕ). l ++ post_of 0 (end - 0) input) now
    ∙ (append_assoc (take (end - at) (drop at input)) (drop (end - at) part) (post_of 0 (end - 0) input)
    ∙ ap (λ (l : List ℕ). take (end - at) (drop at input) ++ l) (behind ∙ ap (λ (n : ℕ). drop n input) (sym long)))

-- A READ OR NONE

module _ (s : Source) (left : ℕ) (input : List ℕ) where
  by : (after : List ℕ) (h : AtHand) (ended whole : Bool) → s.ended ≡ ended → is_whole (take left input) ≡ whole
      → SuppliesBy (if ended then false else not whole) s left input after h → SupplyPromise s left input after h
  by after h ended whole e w q =
      subst (λ (b : Bool). SuppliesBy (if b then false else not (is_whole (take left input))) s left input after h) (sym e)
      (subst (λ (b : Bool). SuppliesBy (if ended then false else not b) s left input after h) (sym w) q)

  pub none-at-end : s.ended ≡ true → SupplyPromise s left input input (record { end = left; source = s })
  none-at-end e = by input _ true (is_whole (take left input)) e refl (refl, refl)

  module _ {r : Bool} (r-is : r ≡ is_whole (take (left - 0) input)) where
    whole_is : is_whole (take left input) ≡ r
    whole_is = ap is_whole (sym (front_is left input)) ∙ sym r-is

    pub none-for-whole : s.ended ≡ false → r ≡ true → SupplyPromise s left input input (record { end = left; source = s })
    none-for-whole e w = by input _ false true e (whole_is ∙ w) (refl, refl)

    pub read-else : (after : List ℕ) (h : AtHand) → s.ended ≡ false → r ≡ false → FillPromise s left input after h → SupplyPromise s left input after h
    read-else after h e w q = by after h false false e (whole_is ∙ w) q

    pub may_read : Suppliable s left input → s.ended ≡ false → r ≡ false → Fillable s left input
    may_read p e w =
        let few : length (take left input) < LONGEST-RECORD = not_whole_few (take left input) (whole_is ∙ w) in
        record {
          more = omega (arith, few, length-take-le left input p.inside, p.enough);
          not_ended = e;
          not_failed = p.not_failed;
          counted = p.counted;
        }

-- HOW A TURN ENDED

module _ (h : AtHand) (p : Pumped) (sink : Sink) where
  so : {t : Turned} (failed over : Bool) → sink.failed ≡ failed → is_over p.stop ≡ over
      → t ≡ (if failed then NotWritten (rest_by h p sink) else if over then Done (ending_by h p sink) else Goes (rest_by h p sink)) → t ≡ turned_by h p sink
  so {t} failed over f o e =
      subst (λ (b : Bool). t ≡ (if b then NotWritten (rest_by h p sink) else if is_over p.stop then Done (ending_by h p sink) else Goes (rest_by h p sink))) (sym f)
      (subst (λ (b : Bool). t ≡ (if failed then NotWritten (rest_by h p sink) else if b then Done (ending_by h p sink) else Goes (rest_by h p sink))) (sym o) e)

  pub unwritten-so : sink.failed ≡ true → NotWritten (rest_by h p sink) ≡ turned_by h p sink
  unwritten-so f = so true (is_over p.stop) f refl refl

  pub goes_so : sink.failed ≡ false → is_over p.stop ≡ false → Goes (rest_by h p sink) ≡ turned_by h p sink
  goes_so f o = so false false f o refl

  pub done-so : sink.failed ≡ false → is_over p.stop ≡ true → Done (ending_by h p sink) ≡ turned_by h p sink
  done-so f o = so false true f o refl
