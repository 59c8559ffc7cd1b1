-- C-20 over the promises: where a comparison gives no difference, both plans answer and list alike.
use Prim.Native.Nat.{ℕ, zero, suc, ◌*◌}
use mathlib.Core.Path.{◌≡◌, refl, ap, sym, ◌∙◌}
use mathlib.Core.Bool.{Bool, true, false}
use mathlib.Core.List.{List, [], ◌∷◌, map}
use mathlib.Core.Option.{Option, none, some}
use native.Mathlib.Omega.{arith}
use lib.ListN.{length, take, get_elem?, length-map}
use lib.Dec.{ltb}
use Rattle.meaning.specs.Sizes.{DIFFERENCE-BYTES, NUMBER-BYTES}
use Rattle.meaning.specs.Basics.{written_over, padded}
use Rattle.std.specs.Prelude.{if◌then◌else◌}
use Rattle.meaning.specs.Refusals.{ROOM}
use Rattle.meaning.specs.Settings.{number_of}
use Rattle.meaning.specs.Filters.{Filter}
use Rattle.meaning.specs.Rules.{Rule, filter_in}
use Rattle.meaning.specs.Plan.{Plan}
use Rattle.meaning.specs.Answer.{Answer, answer, answer_of}
use Rattle.meaning.specs.View.{Viewed, viewed, view}
use Rattle.meaning.specs.Reads.{Count, listed, listing, listed_or, rule_at_place}
use Rattle.meaning.specs.Compare.{differences, difference_bytes, Comparison, count_in, uncompared, comparison, SideBySide}
use Rattle.meaning.specs.Answers.{answered_as, rule_given, rule_wanted}
use Rattle.meaning.specs.declared.Refusal.{Refusal}
use Rattle.meaning.specs.declared.ListedRule.{ListedRule}
use Rattle.std.specs.Prelude.{Result, Ok, Err}
use Rattle.meaning.proofs.Compare.{side_by_side}
use Rattle.plan.specs.Layout.{plan_of}
use Rattle.plan.specs.State.{sound_of, state_of}
use Rattle.plan.proofs.ImageLaws.{state_some, state_none}
use Rattle.plan.proofs.ReadLaws.{sound_is}
use Rattle.compare.specs.Alike.{SameSettings, NoDifference, ComparedAlike, SameFilter, ListsSameFilter, ListedAlike}

-- both memories are sound, and nothing differs between their plans
record Equal (left right : List ℕ) : Type 0 where
  left_state : state_of left ≡ some (plan_of left)
  right_state : state_of right ≡ some (plan_of right)
  sides : SideBySide (plan_of left) (plan_of right) (differences (plan_of left) (plan_of right))
  none_differ : differences (plan_of left) (plan_of right) ≡ []

none_of : {A : Type 0} (xs : List A) → length xs ≡ 0 → xs ≡ []
none_of [] e = refl
none_of (x ∷ xs) e = absurd (omega (arith, e))

-- of two plans, by what the comparison says
nothing_differs : (p q : Plan) (size : ℕ) → count_in (comparison (some p) (some q) size) ≡ record { refusal = 0; number = 0 } → differences p q ≡ []
nothing_differs p q size e = go (ltb size (DIFFERENCE-BYTES * length (differences p q))) e
  where
    go : (b : Bool) → count_in (if b then uncompared ROOM else record { refusal = 0; entries = map difference_bytes (differences p q) }) ≡ record { refusal = 0; number = 0 } → differences p q ≡ []
    go true k = absurd (omega (arith, ap (λ (c : Count). c.refusal) k))
    go false k = none_of (differences p q) (sym (length-map (differences p q) difference_bytes) ∙ ap (λ (c : Count). c.number) k)

equal : (left right : List ℕ) → NoDifference left right → Equal left right
equal left right n = go (sound_of left) refl (sound_of right) refl (sym n.promised.result ∙ n.none_listed)
  where
    size : ℕ
    size = length n.out

    refused : {r : ℕ} (c : Comparison) → c.refusal ≡ suc r → count_in c ≡ record { refusal = 0; number = 0 } → ⊥
    refused c e k = omega (arith, e, ap (λ (x : Count). x.refusal) k)

    go : (b : Bool) → sound_of left ≡ b → (c : Bool) → sound_of right ≡ c → count_in (comparison (state_of left) (state_of right) size) ≡ record { refusal = 0; number = 0 } → Equal left right
    go false e c f k =
        let is : (comparison (state_of left) (state_of right) size).refusal ≡ 3 = rw (state_none left e) in
        absurd (refused (comparison (state_of left) (state_of right) size) is k)
    go true e false f k =
        let is : (comparison (state_of left) (state_of right) size).refusal ≡ 3 = rw (state_some left e, state_none right f) in
        absurd (refused (comparison (state_of left) (state_of right) size) is k)
    go true e true f k =
        record {
          left_state = state_some left e;
          right_state = state_some right f;
          sides = side_by_side (plan_of left) (plan_of right) (sound_is left e).plan (sound_is right f).plan;
          none_differ = nothing_differs (plan_of left) (plan_of right) size (rw (state_some left e, state_some right f) at k);
        }

-- ANSWERS

same_answer : (left right : List ℕ) → Equal left right → SameSettings left right → (size : ℕ) (body : List ℕ) → answer (state_of left) size body ≡ answer (state_of right) size body
same_answer left right e s size body =
    let p : Plan = plan_of left in
    let q : Plan = plan_of right in
    let alike : answer_of p (number_of (take NUMBER-BYTES body)) ≡ answer_of q (number_of (take NUMBER-BYTES body)) =
    e.sides.alike e.none_differ s (number_of (take NUMBER-BYTES body)) in
    let known : answer (some p) size body ≡ answer (some q) size body = rw alike in
    ap (λ (x : Option Plan). answer x size body) e.left_state ∙ (known ∙ ap (λ (x : Option Plan). answer x size body) (sym e.right_state))

pub compared_alike : ComparedAlike
compared_alike left right n s body out a b x y l r =
    let same : answer (state_of left) (length out) body ≡ answer (state_of right) (length out) body = same_answer left right (equal left right n) s (length out) body in
    (l.result ∙ (ap answered_as same ∙ sym r.result), l.buffer ∙ (ap (λ (w : Answer). written_over w.digits out) same ∙ sym r.buffer))

-- LISTINGS

-- as the reads of the document give them
abbrev GivenSame : ℕ × Option ListedRule → ℕ × Option ListedRule → Type 0
GivenSame (n, some x) (m, some y) = SameFilter x y
GivenSame (n, some x) (m, none) = ⊥
GivenSame (n, none) (m, some y) = ⊥
GivenSame (n, none) (m, none) = n ≡ m

given_same : (x y : Result ListedRule Refusal) → GivenSame (rule_given x) (rule_given y) → ListsSameFilter x y
given_same (Ok x) (Ok y) s = s
given_same (Ok x) (Err g) s = s
given_same (Err f) (Ok y) s = s
given_same (Err f) (Err g) s = s

same_filters : (p q : Plan) (xs ys : List Rule) → map (viewed p) xs ≡ map (viewed q) ys → (k : ℕ)
    → GivenSame (rule_wanted (listed_or (get_elem? (map listed xs) k))) (rule_wanted (listed_or (get_elem? (map listed ys) k)))
same_filters p q [] [] e k = refl
same_filters p q [] (y ∷ ys) e k = absurd (let z : ◌≡◌ {A = ℕ} 0 1 = cc in omega arith)
same_filters p q (x ∷ xs) [] e k = absurd (let z : ◌≡◌ {A = ℕ} 0 1 = cc in omega arith)
same_filters p q (x ∷ xs) (y ∷ ys) e zero =
    let first : viewed p x ≡ viewed q y = cc in
    let f : filter_in x ≡ filter_in y = ap (λ (v : Viewed). v.filter) first in
    record {
      class = ap (λ (g : Filter). g.class) f;
      digits = ap (λ (g : Filter). length g.prefix) f;
      prefix = ap (λ (g : Filter). padded 16 g.prefix) f;
      length = ap (λ (g : Filter). g.len) f;
    }
same_filters p q (x ∷ xs) (y ∷ ys) e (suc k) = let rest : map (viewed p) xs ≡ map (viewed q) ys = cc in same_filters p q xs ys rest k

pub listed_alike : ListedAlike
unfolding view listing
listed_alike left right n k x y l r =
    let e = equal left right n in
    let same = same_filters (plan_of left) (plan_of right) (plan_of left).rules (plan_of right).rules (e.sides.empty.0 e.none_differ) k in
    let x-is : rule_given x ≡ rule_wanted (rule_at_place (some (plan_of left)) k) = l ∙ ap (λ (s : Option Plan). rule_wanted (rule_at_place s k)) e.left_state in
    let y-is : rule_given y ≡ rule_wanted (rule_at_place (some (plan_of right)) k) = r ∙ ap (λ (s : Option Plan). rule_wanted (rule_at_place s k)) e.right_state in
    given_same x y (rw (x-is, y-is) same)
