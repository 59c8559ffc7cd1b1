-- The rule chosen is the one that document 01 describes, and no other is: over any rules in listing order, for any number.
use Prim.Native.Nat.{ℕ, zero, suc, ◌+◌, ◌≤◌, ◌<◌}
use mathlib.Core.Path.{◌≡◌, refl, ap, sym, ◌∙◌}
use mathlib.Core.Logic.{◌≢◌, ◌⊎◌, inl, inr}
use mathlib.Core.Bool.{Bool, true, false, ◌&&◌}
use mathlib.Core.List.{List, [], ◌∷◌, map, Memᴰ}
use mathlib.Core.Option.{Option, none, some}
use native.Mathlib.Omega.{arith}
use lib.ListN.{length, take}
use lib.Dec.{T, eqb, ltb, eqb→eq}
use borrow.Author.Tests.{ltb-true, ltb-false}
use Rattle.meaning.specs.Basics.{any, is_some, begins_with}
use Rattle.std.specs.Prelude.{if◌then◌else◌}
use Rattle.meaning.specs.Filters.{Filter, length_fits, fits_number, stated, rank}
use Rattle.meaning.specs.Rules.{Rule, filter_in, weight, first_largest, chosen_place, rule_at, chosen, rules_in_order}
use Rattle.meaning.specs.Choice.{LessSpecific, shorter_prefix, wildcard_length, IsChoice, NoneFits}
use Rattle.meaning.proofs.Tests.{is_true, true_is, and_left, and_right, any_mem}
use Rattle.meaning.proofs.Largest.{AtMost, Found, first_largest_lem, place_mem}
use Rattle.meaning.proofs.RuleLists.{one_rule}

-- TWO FILTERS THAT FIT ONE NUMBER

pub begins_take : (ps ds : List ℕ) → T (begins_with ps ds) → ps ≡ take (length ps) ds
begins_take [] ds t = refl
begins_take (p ∷ ps) [] t = absurd t
begins_take (p ∷ ps) (d ∷ ds) t =
    let e : p ≡ d = eqb→eq p d (and_left (eqb p d) (begins_with ps ds) t) in
    let r : ps ≡ take (length ps) ds = begins_take ps ds (and_right (eqb p d) (begins_with ps ds) t) in cc

-- what fitting says, part by part
pub record Fits (f : Filter) (class : ℕ) (ds : List ℕ) : Type 0 where
  pub class_is : f.class ≡ class
  pub prefix_is : f.prefix ≡ take (length f.prefix) ds
  pub length_is : T (length_fits f.len (length ds))

pub fits_parts : (f : Filter) (class : ℕ) (ds : List ℕ) → T (fits_number f class ds) → Fits f class ds
unfolding fits_number
fits_parts f class ds t =
    let c = eqb f.class class in let b = begins_with f.prefix ds in let l = length_fits f.len (length ds) in
    record {
      class_is = eqb→eq f.class class (and_left c (b && l) t);
      prefix_is = begins_take f.prefix ds (and_left b l (and_right c (b && l) t));
      length_is = and_right b l (and_right c (b && l) t);
    }

stated_few : (l : ℕ) → stated l ≤ 1
stated_few zero = omega arith
stated_few (suc l) = omega arith

stated_none : (l : ℕ) → stated l ≡ 0 → l ≡ 0
stated_none zero e = refl
stated_none (suc l) e = absurd (omega (arith, e))

stated_one : (l : ℕ) → stated l ≡ 1 → l ≢ 0
stated_one zero e q = omega (arith, e)
stated_one (suc l) e q = omega (arith, q)

-- two lengths that both fit, and both are stated or both wildcards, are equal
same_length : (l m n : ℕ) → T (length_fits l n) → T (length_fits m n) → stated l ≡ stated m → l ≡ m
same_length zero zero n s t e = refl
same_length zero (suc m) n s t e = absurd (omega (arith, e))
same_length (suc l) zero n s t e = absurd (omega (arith, e))
same_length (suc l) (suc m) n s t e = eqb→eq (suc l) n s ∙ sym (eqb→eq (suc m) n t)

module _ (f g : Filter) (class : ℕ) (ds : List ℕ) (ff : Fits f class ds) (fg : Fits g class ds) where
  same_prefix : length f.prefix ≡ length g.prefix → f.prefix ≡ g.prefix
  same_prefix e = ff.prefix_is ∙ (ap (λ n. take n ds) e ∙ sym fg.prefix_is)

  -- the rank decides between them as document 01 says, and equal ranks are equal filters
  ranks_apart : rank f < rank g → LessSpecific f g
  unfolding rank
  ranks_apart h = go (ltb (length f.prefix) (length g.prefix)) refl
    where
      go : (b : Bool) → ltb (length f.prefix) (length g.prefix) ≡ b → LessSpecific f g
      go true e = shorter_prefix (ltb-true _ _ e)
      go false e =
          let k : length g.prefix ≤ length f.prefix = ltb-false _ _ e in
          let a : stated g.len ≤ 1 = stated_few g.len in
          let l : length f.prefix ≡ length g.prefix = omega arith in
          wildcard_length (same_prefix l) (stated_none f.len (omega arith)) (stated_one g.len (omega arith))

  ranks_same : rank f ≡ rank g → f ≡ g
  unfolding rank
  ranks_same e =
      let a : stated f.len ≤ 1 = stated_few f.len in
      let b : stated g.len ≤ 1 = stated_few g.len in
      let l : length f.prefix ≡ length g.prefix = omega arith in
      let c : f.class ≡ g.class = ff.class_is ∙ sym fg.class_is in
      let p : f.prefix ≡ g.prefix = same_prefix l in
      let n : f.len ≡ g.len = same_length f.len g.len (length ds) ff.length_is fg.length_is (omega arith) in
      λ i. record { class = c i; prefix = p i; len = n i }

-- THE RULE CHOSEN

module _ (class : ℕ) (ds : List ℕ) where
  weigh : Rule → ℕ
  weigh r = weight class ds (filter_in r)

  weight_fits : (r : Rule) → T (fits_number (filter_in r) class ds) → weigh r ≡ rank (filter_in r) + 1
  unfolding weigh weight
  weight_fits r t = rw (is_true (fits_number (filter_in r) class ds) t)

  weight_none : (r : Rule) → weigh r ≤ 0 → fits_number (filter_in r) class ds ≡ false
  unfolding weigh weight
  weight_none r h = go (fits_number (filter_in r) class ds) refl h
    where
      go : (b : Bool) → fits_number (filter_in r) class ds ≡ b → (if b then rank (filter_in r) + 1 else 0) ≤ 0 → fits_number (filter_in r) class ds ≡ false
      go true e k = absurd (omega (arith, k))
      go false e k = e

  weight_some : (r : Rule) → 0 < weigh r → T (fits_number (filter_in r) class ds)
  unfolding weigh weight
  weight_some r h = go (fits_number (filter_in r) class ds) refl h
    where
      go : (b : Bool) → fits_number (filter_in r) class ds ≡ b → 0 < (if b then rank (filter_in r) + 1 else 0) → T (fits_number (filter_in r) class ds)
      go true e k = true_is _ e
      go false e k = absurd (omega (arith, k))

  -- a rule that weighs the most is the one that document 01 describes
  largest_choice : (rs : List Rule) → T (rules_in_order rs) → (r : Rule) → Memᴰ r rs → 0 < weigh r
      → ((s : Rule) → Memᴰ s rs → weigh s ≤ weigh r) → IsChoice class ds rs r
  unfolding weigh
  largest_choice rs o r m h most =
      let fr : T (fits_number (filter_in r) class ds) = weight_some r h in
      record { held = m; fits = fr; others = λ s n fs. go s n fs (ltb (rank (filter_in s)) (rank (filter_in r))) refl }
    where
      go : (s : Rule) → Memᴰ s rs → T (fits_number (filter_in s) class ds) → (b : Bool) → ltb (rank (filter_in s)) (rank (filter_in r)) ≡ b
          → (s ≡ r) ⊎ LessSpecific (filter_in s) (filter_in r)
      go s n fs b e =
          let fr : T (fits_number (filter_in r) class ds) = weight_some r h in
          decide b e (fits_parts (filter_in s) class ds fs) (fits_parts (filter_in r) class ds fr)
        where
          decide : (b : Bool) → ltb (rank (filter_in s)) (rank (filter_in r)) ≡ b → Fits (filter_in s) class ds → Fits (filter_in r) class ds
              → (s ≡ r) ⊎ LessSpecific (filter_in s) (filter_in r)
          decide true e ps pr = inr (ranks_apart (filter_in s) (filter_in r) class ds ps pr (ltb-true _ _ e))
          decide false e ps pr =
              let w : rank (filter_in s) ≤ rank (filter_in r) =
              omega (arith, most s n, weight_fits s fs, weight_fits r (weight_some r h)) in
              let v : rank (filter_in r) ≤ rank (filter_in s) = ltb-false _ _ e in
              inl (one_rule rs o s r n m (ranks_same (filter_in s) (filter_in r) class ds ps pr (omega arith)))

  -- what is chosen: nothing, where none fits, or the rule that document 01 describes
  pub data Choice (rs : List Rule) : Option Rule → Type 0 where
    no_rule : NoneFits class ds rs → Choice rs none
    the_rule : (r : Rule) → IsChoice class ds rs r → Choice rs (some r)

  pub choice : (rs : List Rule) → T (rules_in_order rs) → Choice rs (chosen class ds rs)
  unfolding chosen chosen_place weigh
  choice rs o = go (first_largest_lem weigh rs)
    where
      go : ((first_largest (map weigh rs) ≡ none) × AtMost weigh 0 rs) ⊎ ((k : ℕ) × (first_largest (map weigh rs) ≡ some k) × Found weigh rs k)
          → Choice rs (rule_at rs (first_largest (map weigh rs)))
      go (inl t) = rw t.0 (no_rule (λ s m. weight_none s (t.1 s m)))
      go (inr t) =
          let found = t.2 in
          rw (t.1, found.largest.place)
          (the_rule found.x (largest_choice rs o found.x (place_mem rs t.0 found.x found.largest.place) found.above found.largest.most))

  -- two such rules are one
  apart : (f g : Filter) → LessSpecific f g → LessSpecific g f → ⊥
  apart f g (shorter_prefix h) (shorter_prefix k) = omega (arith, h, k)
  apart f g (shorter_prefix h) (wildcard_length p z s) = omega (arith, h, ap length p)
  apart f g (wildcard_length p z s) (shorter_prefix k) = omega (arith, k, ap length p)
  apart f g (wildcard_length p z s) (wildcard_length q y t) = t z

  pub one_choice : (rs : List Rule) (r s : Rule) → IsChoice class ds rs r → IsChoice class ds rs s → r ≡ s
  one_choice rs r s a b = go (a.others s b.held b.fits) (b.others r a.held a.fits)
    where
      go : (s ≡ r) ⊎ LessSpecific (filter_in s) (filter_in r) → (r ≡ s) ⊎ LessSpecific (filter_in r) (filter_in s) → r ≡ s
      go (inl e) y = sym e
      go (inr x) (inl e) = e
      go (inr x) (inr y) = absurd (apart (filter_in s) (filter_in r) x y)

  -- whatever rule is as document 01 describes it is the one chosen
  pub chosen_is : (rs : List Rule) → T (rules_in_order rs) → (r : Rule) → IsChoice class ds rs r → chosen class ds rs ≡ some r
  chosen_is rs o r a = go (choice rs o)
    where
      go : {c : Option Rule} → Choice rs c → c ≡ some r
      go (no_rule n) = absurd (let e : true ≡ false = sym (is_true _ a.fits) ∙ n r a.held in let z : ◌≡◌ {A = ℕ} 0 1 = cc in omega arith)
      go (the_rule s b) = ap some (one_choice rs s r b a)

  -- where none fits nothing is chosen
  pub none_chosen : (rs : List Rule) → T (rules_in_order rs) → NoneFits class ds rs → chosen class ds rs ≡ none
  none_chosen rs o n = go (choice rs o)
    where
      go : {c : Option Rule} → Choice rs c → c ≡ none
      go (no_rule m) = refl
      go (the_rule s b) = absurd (let e : true ≡ false = sym (is_true _ b.fits) ∙ n s b.held in let z : ◌≡◌ {A = ℕ} 0 1 = cc in omega arith)

  -- so the choice depends only on which rules are held
  pub same_choice : (rs ss : List Rule) → T (rules_in_order rs) → T (rules_in_order ss) → ((r : Rule) → Memᴰ r rs → Memᴰ r ss)
      → ((r : Rule) → Memᴰ r ss → Memᴰ r rs) → chosen class ds ss ≡ chosen class ds rs
  same_choice rs ss o q f g = go (choice rs o)
    where
      go : {c : Option Rule} → Choice rs c → chosen class ds ss ≡ c
      go (no_rule n) = none_chosen ss q (λ s m. n s (g s m))
      go (the_rule r b) =
          chosen_is ss q r (record { held = f r b.held; fits = b.fits; others = λ s m t. b.others s (g s m) t })

  -- a rule is chosen exactly if some filter fits, in whatever order the rules stand
  pub chosen_exactly : (rs : List Rule) → is_some (chosen class ds rs) ≡ any (λ (r : Rule). fits_number (filter_in r) class ds) rs
  unfolding chosen chosen_place weigh
  chosen_exactly rs = go (first_largest_lem weigh rs)
    where
      fits : Rule → Bool
      fits r = fits_number (filter_in r) class ds

      none_fits : (xs : List Rule) → AtMost weigh 0 xs → any fits xs ≡ false
      none_fits [] h = refl
      none_fits (x ∷ xs) h = rw (weight_none x (h x (mathlib.Core.List.Memᴰ.head refl)), none_fits xs (λ y m. h y (mathlib.Core.List.Memᴰ.tail m)))

      go : ((first_largest (map weigh rs) ≡ none) × AtMost weigh 0 rs) ⊎ ((k : ℕ) × (first_largest (map weigh rs) ≡ some k) × Found weigh rs k)
          → is_some (rule_at rs (first_largest (map weigh rs))) ≡ any fits rs
      go (inl t) = rw (t.0, none_fits rs t.1)
      go (inr t) =
          let found = t.2 in
          let m : Memᴰ found.x rs = place_mem rs t.0 found.x found.largest.place in
          rw (t.1, found.largest.place) (sym (is_true (any fits rs) (any_mem fits rs m (weight_some found.x found.above))))
