-- Each action over the struct is document 01's over its stage.
use Prim.Native.Nat.{ℕ, zero, suc, ◌+◌, ◌<◌}
use mathlib.Core.Path.{◌≡◌, refl, sym, ◌∙◌}
use mathlib.Core.Bool.{Bool, true, false, ◌&&◌, not}
use mathlib.Core.List.{List, [], ◌∷◌, ◌++◌}
use native.Mathlib.Numerals.{add-one}
use native.Mathlib.Omega.{arith}
use lib.ListN.{length, take, drop, get_or, set}
use lib.Seq.{take-suc-set, drop-set-lt}
use lib.Dec.{eqb}
use borrow.Author.Tests.{ne_eqb, le-leb, lt-ltb}
use Rattle.meaning.specs.Basics.{is_empty, contains}
use Rattle.std.specs.Prelude.{if◌then◌else◌}
use Rattle.meaning.specs.Settings.{Settings, Lookup}
use Rattle.meaning.specs.Actions.{RN, INPRTG, CDPNNP, ASDLKUP, GRNLKUP, CDIAL}
use Rattle.meaning.specs.Services.{Stage, at_start, unsuccessful, inprtg, rn_set, cdpnnp, asdlkup, grnlkup, cdial, carry_out}
use Rattle.services.specs.declared.Served.{Served}
use Rattle.services.specs.declared.Effect.{Effect}
use Rattle.services.specs.Stages.{stage_of, served_with, effect_after, code_listed}

-- r is s with an action of document 01 carried out, for settings and lookups under which CDPNNP fails or not, and with an answer of INPRTG; places behind stay
pub record CarriesOut (action : Settings → Lookup → List ℕ → Stage → Stage) (fails : Bool) (answer : ℕ) (s r : Served) : Type 0 where
  pub stage : (settings : Settings) (lookup : Lookup) (fas : List ℕ) → unsuccessful settings lookup ≡ fails → get_or settings.answers lookup.kind 0 ≡ answer
      → stage_of settings lookup fas r ≡ action settings lookup fas (stage_of settings lookup fas s)
  pub count : r.count ≡ s.count + 1
  pub behind : drop (s.count + 1) r.actions ≡ drop (s.count + 1) s.actions

abbrev pub carrying_out : ℕ → Settings → Lookup → List ℕ → Stage → Stage
carrying_out code settings lookup fas s = carry_out settings lookup fas code s

-- ONE MORE ACTION

done_more : (code : ℕ) (s : Served) → s.count < length s.actions
    → take (s.count + 1) (set s.actions s.count code) ≡ take s.count s.actions ++ (code ∷ [])
done_more code s h = rw add-one (take-suc-set s.actions s.count code h)

behind_stays : (code : ℕ) (s : Served) → drop (s.count + 1) (set s.actions s.count code) ≡ drop (s.count + 1) s.actions
behind_stays code s = drop-set-lt (s.count + 1) s.actions s.count code (omega arith)

-- a value set anew is what it was, or what it would have been
set_again : (empty set : Bool) (xs : List ℕ) → is_empty xs ≡ empty → xs ≡ (if empty then (if set then xs else []) else xs)
set_again true true xs e = refl
set_again true false [] e = refl
set_again true false (x ∷ xs) e = let z : true ≡ false = sym e in cc
set_again false set xs e = refl

sp_again : (kind ported : Bool) (xs : List ℕ) → (if kind then xs else []) ≡ (if kind then xs else if ported && kind then xs else [])
sp_again true ported xs = refl
sp_again false true xs = refl
sp_again false false xs = refl

-- RN after one CDPNNP and after another
rn_again : (settings : Settings) (lookup : Lookup) (fas : List ℕ) (ported : Bool) (s : Stage)
    → s.rn ≡ (if ported then rn_set settings lookup fas at_start else []) → rn_set settings lookup fas at_start ≡ rn_set settings lookup fas s
unfolding rn_set at_start
rn_again settings lookup fas ported s e = rw e (go (eqb lookup.kind 2) (eqb lookup.kind 3 && (not (is_empty settings.dfltrn) && contains RN fas)) ported)
  where
    go : (a b p : Bool) → (if a then lookup.entity else if b then settings.dfltrn else [])
        ≡ (if a then lookup.entity else if b then settings.dfltrn else if p then (if a then lookup.entity else if b then settings.dfltrn else []) else [])
    go true b p = refl
    go false true p = refl
    go false false true = refl
    go false false false = refl

-- two actions that are the same on every stage
carries_as : {action other : Settings → Lookup → List ℕ → Stage → Stage} {fails : Bool} {answer : ℕ} {s r : Served}
    → ((settings : Settings) (lookup : Lookup) (fas : List ℕ) (x : Stage) → action settings lookup fas x ≡ other settings lookup fas x)
    → CarriesOut action fails answer s r → CarriesOut other fails answer s r
carries_as {action} {other} {fails} {answer} {s} {r} same o =
    record {
      stage = λ settings lookup fas f a. o.stage settings lookup fas f a ∙ same settings lookup fas (stage_of settings lookup fas s);
      count = o.count;
      behind = o.behind;
    }

-- ONE ACTION, listed behind the others

module _ (actions : List ℕ) (count : ℕ) (e : Effect) (h : count < length actions) where
  abbrev before : Served
  before = served_with actions count e

  -- with what it comes to
  abbrev after : ℕ → Effect → Served
  after code r = served_with (set actions count code) (count + 1) r

  listed : {action : Settings → Lookup → List ℕ → Stage → Stage} {fails : Bool} {answer : ℕ} (code : ℕ) (r : Effect)
      → ((settings : Settings) (lookup : Lookup) (fas : List ℕ) → unsuccessful settings lookup ≡ fails → get_or settings.answers lookup.kind 0 ≡ answer
      → stage_of settings lookup fas (after code r) ≡ action settings lookup fas (stage_of settings lookup fas before))
      → CarriesOut action fails answer before (after code r)
  listed code r same = record { stage = same; count = refl; behind = behind_stays code before }

  carries_inprtg : (fails : Bool) (answer : ℕ) → CarriesOut inprtg fails answer before (after INPRTG (effect_after INPRTG fails answer e))
  unfolding stage_of inprtg effect_after
  carries_inprtg fails answer = listed INPRTG _ (λ settings lookup fas f a. rw (done_more INPRTG before h, a))

  carries_cdpnnp : (fails : Bool) (answer : ℕ) → CarriesOut cdpnnp fails answer before (after CDPNNP (effect_after CDPNNP fails answer e))
  unfolding stage_of cdpnnp effect_after
  carries_cdpnnp fails answer =
      listed CDPNNP _
      (λ settings lookup fas f a.
      rw (done_more CDPNNP before h, f, ← rn_again settings lookup fas e.ported (stage_of settings lookup fas before) refl, ← sp_again (eqb lookup.kind 3) e.ported lookup.entity))

  carries_asdlkup : (fails : Bool) (answer : ℕ) → CarriesOut asdlkup fails answer before (after ASDLKUP (effect_after ASDLKUP fails answer e))
  unfolding stage_of asdlkup effect_after
  carries_asdlkup fails answer = listed ASDLKUP _ (λ settings lookup fas f a. rw (done_more ASDLKUP before h, ← set_again (is_empty lookup.asd) e.asd lookup.asd refl))

  carries_grnlkup : (fails : Bool) (answer : ℕ) → CarriesOut grnlkup fails answer before (after GRNLKUP (effect_after GRNLKUP fails answer e))
  unfolding stage_of grnlkup effect_after
  carries_grnlkup fails answer = listed GRNLKUP _ (λ settings lookup fas f a. rw (done_more GRNLKUP before h, ← set_again (is_empty lookup.grn) e.grn lookup.grn refl))

  carries_cdial : (fails : Bool) (answer : ℕ) → CarriesOut cdial fails answer before (after CDIAL (effect_after CDIAL fails answer e))
  unfolding stage_of cdial effect_after
  carries_cdial fails answer = listed CDIAL _ (λ settings lookup fas f a. rw (done_more CDIAL before h))

  -- every other code is carried out as CDIAL
  other_effect : (code : ℕ) (fails : Bool) (answer : ℕ) → CDIAL < code → effect_after code fails answer e ≡ effect_after CDIAL fails answer e
  unfolding effect_after
  other_effect code fails answer g =
      rw (ne_eqb code INPRTG (λ q. omega arith), ne_eqb code CDPNNP (λ q. omega arith), ne_eqb code ASDLKUP (λ q. omega arith), ne_eqb code GRNLKUP (λ q. omega arith), le-leb CDIAL code (omega arith))

  other_listed : (code : ℕ) → CDIAL < code → code_listed code ≡ CDIAL
  unfolding code_listed
  other_listed code g = rw (lt-ltb CDIAL code g)

  other_carries : (fails : Bool) (answer code : ℕ) → CDIAL < code → CarriesOut (carrying_out code) fails answer before (after (code_listed code) (effect_after code fails answer e))
  unfolding carry_out
  other_carries fails answer code g =
      rw (other_listed code g, other_effect code fails answer g)
      (carries_as
      (λ settings lookup fas x.
      rw (ne_eqb code INPRTG (λ q. omega arith), ne_eqb code CDPNNP (λ q. omega arith), ne_eqb code ASDLKUP (λ q. omega arith), ne_eqb code GRNLKUP (λ q. omega arith)))
      (carries_cdial fails answer))

  -- an action by its code
  pub carries : (fails : Bool) (answer code : ℕ) → 0 < code → CarriesOut (carrying_out code) fails answer before (after (code_listed code) (effect_after code fails answer e))
  unfolding carry_out code_listed
  carries fails answer zero g = absurd (omega arith)
  carries fails answer (suc zero) g = carries_as (λ settings lookup fas x. refl) (carries_inprtg fails answer)
  carries fails answer (suc (suc zero)) g = carries_as (λ settings lookup fas x. refl) (carries_cdpnnp fails answer)
  carries fails answer (suc (suc (suc zero))) g = carries_as (λ settings lookup fas x. refl) (carries_asdlkup fails answer)
  carries fails answer (suc (suc (suc (suc zero)))) g = carries_as (λ settings lookup fas x. refl) (carries_grnlkup fails answer)
  carries fails answer (suc (suc (suc (suc (suc zero))))) g = carries_as (λ settings lookup fas x. refl) (carries_cdial fails answer)
  carries fails answer (suc (suc (suc (suc (suc (suc n)))))) g = other_carries fails answer (suc (suc (suc (suc (suc (suc n)))))) (omega arith)
