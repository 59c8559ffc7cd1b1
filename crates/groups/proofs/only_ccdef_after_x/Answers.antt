-- What is behind the first X action decides.
use Prim.Native.Nat.{ℕ, suc, ◌+◌}
use native.Mathlib.Omega.{arith}
use mathlib.Core.Path.{◌≡◌, refl, ap, ◌∙◌}
use mathlib.Core.Bool.{Bool, true, false, not, cond}
use mathlib.Core.List.{List, [], ◌∷◌}
use lib.ListN.{drop}
use Rattle.std.specs.List.{prefix_len}
use Rattle.std.specs.Prelude.{if◌then◌else◌}
use Rattle.std.proofs.Common.{rules, tests}
use Rattle.std.proofs.lemmas.Iterator.Adapters.{YieldsList-from_skip, YieldsList-from_skip_while}
use Rattle.std.proofs.lemmas.Iterator.Consumers.{YieldsList-at}
use Rattle.std.proofs.lemmas.Iterator.Search.{all_from_yields_List}
use Rattle.meaning.specs.Basics.{all}
use Rattle.meaning.specs.Actions.{CA, is_x, is_ccdef, cas_of}
use Rattle.meaning.specs.Groups.{only_ccdef_after_x}
use Rattle.actions.specs.Reading.{action_of}
use Rattle.actions.proofs.Walks.{gives_actions, all_is}
use Rattle.groups.proofs.only_ccdef_after_x.Goals as goal

abbrev no_x : CA → Bool
no_x a = not (is_x a)

abbrev from_x : List CA → List CA
from_x xs = drop (prefix_len no_x xs) xs

behind_x : (xs : List CA) → all is_ccdef (drop 1 (from_x xs)) ≡ only_ccdef_after_x xs
behind_x [] = refl
behind_x (a ∷ xs) = go (is_x a) (behind_x xs)
  where
    go : (t : Bool) → all is_ccdef (drop 1 (from_x xs)) ≡ only_ccdef_after_x xs
        → all is_ccdef (drop 1 (drop (cond (not t) (1 + prefix_len no_x xs) 0) (a ∷ xs))) ≡ (if t then all is_ccdef xs else only_ccdef_after_x xs)
    go true e = refl
    go false e = let n : 1 + prefix_len no_x xs ≡ suc (prefix_len no_x xs) = omega arith in
        ap (λ (k : ℕ). all is_ccdef (drop 1 (drop k (a ∷ xs)))) n ∙ e

pub returns : goal.returns
returns c = let cas = cas_of c.args.cas.now in
    all_from_yields_List is_ccdef c.all.new.self _ _ c.all.ensures.ran
    (YieldsList-from_skip 1
    (YieldsList-at c.skip.ensures.source
    (YieldsList-from_skip_while _ action_of _ no_x _ (λ x b q k. search (rules, tests)) (YieldsList-at c.skip_while.ensures.source (gives_actions cas c.actions_in.ensures)) c.skip_while.ensures.closure c.skip_while.ensures.done_skipping))
    c.skip.ensures.count)
    (λ x b q k. search (rules, tests))
    ∙ all_is is_ccdef (drop 1 (from_x cas)) ∙ behind_x cas
