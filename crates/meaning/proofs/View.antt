-- The answer is a function of the settings and the view: set numbers do not enter it.
use Prim.Native.Nat.{ℕ, zero, suc}
use mathlib.Core.Path.{◌≡◌, refl, ap, ap₂, sym, ◌∙◌}
use mathlib.Core.List.{List, [], ◌∷◌, map}
use mathlib.Core.Option.{Option, none, some}
use lib.ListN.{get_elem?}
use Rattle.meaning.specs.Settings.{Number}
use Rattle.meaning.specs.Rules.{Rule, filter_in, weight, first_largest, chosen_place, rule_at, chosen}
use Rattle.meaning.specs.Plan.{Plan, settings_in}
use Rattle.meaning.specs.Answer.{answer_under, answer_of}
use Rattle.meaning.specs.View.{Viewed, viewed, view, viewed_at, answer_under_view, answer_by_view}

map-map : {A B C : Type 0} (g : B → C) (f : A → B) (xs : List A) → map g (map f xs) ≡ map (λ x. g (f x)) xs
map-map g f [] = refl
map-map g f (x ∷ xs) = ap (λ l. g (f x) ∷ l) (map-map g f xs)

module _ (p : Plan) (n : Number) where
  under : (rs : List Rule) (k : ℕ) → answer_under_view (settings_in p) n (get_elem? (map (viewed p) rs) k) ≡ answer_under p n (get_elem? rs k)
  under [] k = refl
  under (r ∷ rs) zero = refl
  under (r ∷ rs) (suc k) = under rs k

  at_place : (o : Option ℕ) → answer_under_view (settings_in p) n (viewed_at (map (viewed p) p.rules) o) ≡ answer_under p n (rule_at p.rules o)
  at_place none = refl
  at_place (some k) = under p.rules k

  pub answer_by_view_lem : answer_by_view (settings_in p) (view p) n ≡ answer_of p n
  unfolding answer_by_view view answer_of chosen chosen_place
  answer_by_view_lem =
      rw (map-map (λ (v : Viewed). weight n.class n.digits v.filter) (viewed p) p.rules)
      (at_place (first_largest (map (λ (r : Rule). weight n.class n.digits (filter_in r)) p.rules)))

-- plans with equal settings and equal views answer every number alike
pub same_answers : (p q : Plan) → settings_in p ≡ settings_in q → view p ≡ view q → (n : Number) → answer_of p n ≡ answer_of q n
same_answers p q s v n = sym (answer_by_view_lem p n) ∙ (ap₂ (λ x y. answer_by_view x y n) s v ∙ answer_by_view_lem q n)
