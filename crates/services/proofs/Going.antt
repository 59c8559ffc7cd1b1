-- How the loop over the service actions goes on: what is left of the list, from the stage reached, decides.
use Prim.Native.Nat.{ℕ, ◌+◌, ◌-◌, ◌≤◌, ◌<◌}
use mathlib.Core.Path.{◌≡◌, refl, sym, ap, ◌∙◌}
use mathlib.Core.Bool.{Bool, true, false}
use mathlib.Core.List.{List, [], ◌∷◌, ◌++◌}
use native.Mathlib.Omega.{arith}
use lib.ListN.{length, take, drop, get_or, take-append-drop}
use lib.Dec.{leb}
use lib.Seq.{take-append-add, length-take-le, drop-drop, get_or-take, get_or-drop}
use borrow.Author.Tests.{le-leb, lt-leb}
use Rattle.meaning.specs.Sizes.{ANSWERS-AT}
use Rattle.meaning.specs.Settings.{Settings, Lookup, settings_of, lookup_of}
use Rattle.meaning.specs.Actions.{codes_of}
use Rattle.meaning.specs.Services.{Stage, at_start, responded, unsuccessful, serve, eight_places}
use Rattle.services.specs.declared.Served.{Served}
use Rattle.services.specs.Stages.{stage_of, no_effect, served_with, stage_after, ServedAs, ServedFrom, ServedAnew}
use Rattle.actions.proofs.Walks.{few_codes}
use Rattle.services.proofs.Stages.{CarriesOut, carrying_out}
use Rattle.buffer.specs.Zeros.{zeros}
use Rattle.buffer.proofs.ZeroLaws.{take_zeros, drop_zeros}

-- INPRTG's answer for the lookup's kind, as the bytes have it
answer_is : (settings lookup : List ℕ) → get_or lookup 0 0 ≤ 3 → get_or (settings_of settings).answers (lookup_of lookup).kind 0 ≡ get_or settings (ANSWERS-AT + get_or lookup 0 0) 0
unfolding settings_of lookup_of
answer_is settings lookup h = get_or-take 4 (drop ANSWERS-AT settings) (get_or lookup 0 0) 0 (omega arith) ∙ get_or-drop ANSWERS-AT settings (get_or lookup 0 0) 0

-- what is still to be carried out of the codes that are left, from the stage reached
abbrev pub rest : List ℕ → List ℕ → List ℕ → List ℕ → Served → Stage
rest fas settings lookup codes s = serve (settings_of settings) (lookup_of lookup) fas codes (stage_of (settings_of settings) (lookup_of lookup) fas s)

-- the codes that are left decide; there is a place for each, and the places behind the actions listed are as they were
pub record Going (places sas settings lookup codes : List ℕ) (s : Served) : Type 0 where
  pub few : s.count + length codes ≤ 8
  pub long : length s.actions ≡ 8
  pub behind : drop s.count s.actions ≡ drop s.count places
  pub left : (fas : List ℕ) → rest fas settings lookup codes s ≡ stage_after fas sas settings lookup

pub going_none : {codes : List ℕ} (places sas settings lookup : List ℕ) → length places ≡ 8 → length sas ≤ 8 → codes ≡ codes_of sas
    → Going places sas settings lookup codes (served_with places 0 no_effect)
unfolding stage_of at_start
going_none {codes} places sas settings lookup h k e = record { few = omega (arith, few_codes sas, ap length e); long = h; behind = refl; left = λ fas. rw e }

-- a response above RELAY ends the stage
responded_is : (settings : Settings) (lookup : Lookup) (fas : List ℕ) (s : Served) → responded (stage_of settings lookup fas s) ≡ leb 2 s.effect.response
unfolding responded stage_of
responded_is settings lookup fas s = refl

module _ {places sas settings lookup codes : List ℕ} {s : Served} (g : Going places sas settings lookup codes s) where
  pub going_more : {code answer : ℕ} {fails : Bool} {later : List ℕ} {r : Served} → codes ≡ code ∷ later → s.effect.response ≤ 1 → length r.actions ≡ 8
      → fails ≡ unsuccessful (settings_of settings) (lookup_of lookup) → get_or lookup 0 0 ≤ 3 → answer ≡ get_or settings (ANSWERS-AT + get_or lookup 0 0) 0
      → CarriesOut (carrying_out code) fails answer s r → Going places sas settings lookup later r
  going_more {code} {answer} {fails} {later} {r} e h l f m a o =
      let on : leb 2 s.effect.response ≡ false = lt-leb 2 s.effect.response (omega arith) in
      record {
        few = omega (arith, o.count, ap length e, g.few);
        long = l;
        behind = rw o.count (o.behind ∙ sym (drop-drop 1 s.count s.actions) ∙ ap (drop 1) g.behind ∙ drop-drop 1 s.count places);
        left =
            λ fas.
            rw (o.stage (settings_of settings) (lookup_of lookup) fas (sym f) (answer_is settings lookup m ∙ sym a))
            (rw (e, responded_is, on) at (g.left fas));
      }

  -- nothing more is carried out
  module _ (e : (fas : List ℕ) → rest fas settings lookup codes s ≡ stage_of (settings_of settings) (lookup_of lookup) fas s) where
    served : (fas : List ℕ) → stage_of (settings_of settings) (lookup_of lookup) fas s ≡ stage_after fas sas settings lookup
    served fas = sym (e fas) ∙ g.left fas

    done_is : (fas : List ℕ) → take s.count s.actions ≡ (stage_after fas sas settings lookup).done
    unfolding stage_of
    done_is fas = ap (λ (x : Stage). x.done) (served fas)

    done_long : length (take s.count s.actions) ≡ s.count
    done_long = length-take-le s.count s.actions (omega (arith, g.few, g.long))

    listed : s.actions ≡ take s.count s.actions ++ drop s.count places
    listed = sym (take-append-drop s.count s.actions) ∙ ap (λ (x : List ℕ). take s.count s.actions ++ x) g.behind

    served_from : ServedFrom places sas settings lookup s
    served_from =
        record {
          stage = served;
          count = λ fas. rw (← done_is fas) (sym done_long);
          actions = λ fas. rw (← done_is fas, done_long) listed;
          most = omega (arith, g.few);
        }

  pub served_all : codes ≡ [] → ServedFrom places sas settings lookup s
  served_all e = served_from (λ fas. rw e)

  pub served_responded : {code : ℕ} {later : List ℕ} → codes ≡ code ∷ later → 1 < s.effect.response → ServedFrom places sas settings lookup s
  served_responded e t =
      let ended : leb 2 s.effect.response ≡ true = le-leb 2 s.effect.response (omega arith) in
      served_from (λ fas. rw (e, responded_is, ended))

-- FROM EIGHT ZEROS

over_zeros : (xs : List ℕ) → length xs ≤ 8 → xs ++ drop (length xs) (zeros 8) ≡ take 8 (xs ++ zeros 8)
over_zeros xs h =
    let m : ℕ = 8 - length xs in
    let a : 8 ≡ length xs + m = omega arith in
    let b : 8 ≡ m + length xs = omega arith in
    let d : drop (length xs) (zeros 8) ≡ zeros m = ap (λ (n : ℕ). drop (length xs) (zeros n)) a ∙ drop_zeros (length xs) m in
    let f : take m (zeros 8) ≡ zeros m = ap (λ (n : ℕ). take m (zeros n)) b ∙ take_zeros m (length xs) in
    let t : take 8 (xs ++ zeros 8) ≡ xs ++ take m (zeros 8) = ap (λ (n : ℕ). take n (xs ++ zeros 8)) a ∙ take-append-add xs (zeros 8) m in
    rw d (sym (t ∙ rw f))

pub served_anew : {sas settings lookup : List ℕ} {r : Served} → ServedFrom (zeros 8) sas settings lookup r → ServedAnew sas settings lookup r
unfolding eight_places zeros
served_anew {sas} {settings} {lookup} {r} f =
    record {
      stage = f.stage;
      count = f.count;
      actions = λ fas. f.actions fas ∙ over_zeros (stage_after fas sas settings lookup).done (rw (← f.count fas) f.most);
      most = f.most;
    }

-- WHAT A CALLER READS OF THE STAGE

module _ {placed : List ℕ → List ℕ} {sas settings lookup : List ℕ} {r : Served} (s : ServedAs placed sas settings lookup r) (fas : List ℕ) where
  pub response_after_lem : (stage_after fas sas settings lookup).response ≡ r.effect.response
  unfolding stage_of
  response_after_lem = sym (ap (λ (x : Stage). x.response) (s.stage fas))

  pub withheld_after_lem : (stage_after fas sas settings lookup).withheld ≡ r.effect.withheld
  unfolding stage_of
  withheld_after_lem = sym (ap (λ (x : Stage). x.withheld) (s.stage fas))

  pub responded_after : responded (stage_after fas sas settings lookup) ≡ leb 2 r.effect.response
  responded_after = sym (ap responded (s.stage fas)) ∙ responded_is (settings_of settings) (lookup_of lookup) fas r
