-- Which answer each way through conditioning, the service actions and formatting gives.
use Prim.Native.Nat.{ℕ, ◌-◌, ◌≤◌, ◌<◌}
use mathlib.Core.Path.{◌≡◌, refl, ap, sym, subst, ◌∙◌}
use mathlib.Core.Bool.{true, false}
use mathlib.Core.List.{List, []}
use native.Mathlib.Nat.{sub-zero}
use native.Mathlib.Omega.{arith}
use lib.ListN.{length, take, drop, get_or, length-take, length-drop}
use borrow.Author.Tests.{le-leb, lt-leb}
use Rattle.meaning.specs.Sizes.{OUTGOING-AT}
use Rattle.meaning.specs.Basics.{is_empty, written_over}
use Rattle.meaning.specs.Refusals.{SHORT, LONG}
use Rattle.meaning.specs.Settings.{Settings, Number, settings_of}
use Rattle.meaning.specs.Filters.{Filter}
use Rattle.meaning.specs.Actions.{ActionSet, actions_of, cas_of, codes_of, ca_bytes, sa_bytes, fa_bytes}
use Rattle.meaning.specs.Conditioning.{short, value_from}
use Rattle.meaning.specs.Services.{value_to_send, join}
use Rattle.meaning.specs.Answer.{ESCAPED, RESPONDED, UNCHANGED, FORMATTED, Answer, refused, unserved, served, outgoing_class, formatted, after_services, answer_by, answer_with}
use Rattle.meaning.specs.Answers.{answered_as}
use Rattle.meaning.specs.declared.Answered.{Answered}
use Rattle.services.specs.declared.Served.{Served}
use Rattle.services.specs.Stages.{stage_after, ServedAnew, Serviceable}
use Rattle.services.proofs.Going.{response_after_lem, withheld_after_lem, responded_after}
use Rattle.formatting.specs.Joins.{JoinsInto}
use Rattle.formatting.proofs.Joining.{outgoing, outgoing_after, joined_count, joined_few, joined_many}
use Rattle.formatting.specs.Sources.{lookup_in}
use Rattle.number.specs.Answering.{counted_as, served_by, finished, given_by, Answerable}
use Rattle.number.specs.Promises.{HoldsAnswer, GivesAnswer}

-- AN ANSWER GIVEN

-- a refusal: the lent buffer stays
pub gives_refused : (a : Answer) (k : ℕ) (out : List ℕ) (r : Answered) → a ≡ refused k → r ≡ answered_as (refused k) → GivesAnswer a out out r
unfolding refused
gives_refused a k out r e p = subst (λ (x : Answer). GivesAnswer x out out r) (sym e) (record { result = p; buffer = refl })

-- the answer counts the digits that it holds
pub holds_count : {a : Answer} {after : List ℕ} {r : Answered} → HoldsAnswer a after r → r.digits ≡ length a.digits
holds_count h = ap (λ (x : Answered). x.digits) h.result

pub holds_few : {a : Answer} {after : List ℕ} {r : Answered} → HoldsAnswer a after r → r.digits ≤ 32
holds_few h = omega (arith, holds_count h, h.few)

-- an answer whose digits are copied to the front of a lent buffer
pub gives_copied : (a : Answer) (held out after : List ℕ) (r : Answered) → HoldsAnswer a held r → after ≡ written_over (take (r.digits - 0) held) out → GivesAnswer a out after r
gives_copied a held out after r h e = record { result = h.result; buffer = e ∙ rw (sub-zero, holds_count h, h.digits) }

pub holds : (a b : Answer) (after : List ℕ) (r : Answered) → a ≡ b → r ≡ answered_as b → length b.digits ≤ 32 → take (length b.digits) after ≡ b.digits → HoldsAnswer a after r
holds a b after r e p f q = subst (λ (x : Answer). HoldsAnswer x after r) (sym e) (record { result = p; few = f; digits = q })

-- a refusal, and an answer before the service actions
pub holds_refused : (a : Answer) (k : ℕ) (after : List ℕ) (r : Answered) → a ≡ refused k → r ≡ answered_as (refused k) → HoldsAnswer a after r
unfolding refused
holds_refused a k after r e p = holds a (refused k) after r e p (omega arith) refl

pub holds_unserved : (a : Answer) (outcome class : ℕ) (after : List ℕ) (r : Answered) → a ≡ unserved outcome class → r ≡ answered_as (unserved outcome class) → HoldsAnswer a after r
unfolding unserved
holds_unserved a outcome class after r e p = holds a (unserved outcome class) after r e p (omega arith) refl

-- AFTER THE SERVICE ACTIONS

module _ (incoming class : ℕ) (s : Served) (ds : List ℕ) where
  pub finished_responded : 2 ≤ s.effect.response → finished incoming class s ds ≡ served_by RESPONDED incoming s []
  unfolding finished
  finished_responded h = rw (le-leb 2 s.effect.response h)

  module _ (relay : s.effect.response < 2) where
    pub finished_withheld : s.effect.withheld ≡ true → finished incoming class s ds ≡ served_by UNCHANGED incoming s []
    unfolding finished
    finished_withheld w = rw (lt-leb 2 s.effect.response relay, w)

    module _ (w : s.effect.withheld ≡ false) where
      pub finished_long : 32 < length ds → finished incoming class s ds ≡ refused LONG
      unfolding finished
      finished_long h = rw (lt-leb 2 s.effect.response relay, w, lt-leb (length ds) 32 h)

      pub finished_formatted : length ds ≤ 32 → finished incoming class s ds ≡ served_by FORMATTED class s ds
      unfolding finished
      finished_formatted h = rw (lt-leb 2 s.effect.response relay, w, le-leb (length ds) 32 h)

-- each way after the service actions, with what the buffer holds
module _ (incoming class : ℕ) (s : Served) (ds after : List ℕ) (r : Answered) where
  pub holds_responded : 2 ≤ s.effect.response → r ≡ counted_as RESPONDED incoming s 0 → HoldsAnswer (finished incoming class s ds) after r
  holds_responded h p = holds (finished incoming class s ds) (served_by RESPONDED incoming s []) after r (finished_responded incoming class s ds h) p (omega arith) refl

  pub holds_withheld : s.effect.response < 2 → s.effect.withheld ≡ true → r ≡ counted_as UNCHANGED incoming s 0 → HoldsAnswer (finished incoming class s ds) after r
  holds_withheld l w p = holds (finished incoming class s ds) (served_by UNCHANGED incoming s []) after r (finished_withheld incoming class s ds l w) p (omega arith) refl

  -- the digits are joined: too many, or as many as are counted
  module _ (l : s.effect.response < 2) (w : s.effect.withheld ≡ false) (n : ℕ) (j : JoinsInto ds 32 after n) where
    pub holds_long : 32 < n → r ≡ answered_as (refused LONG) → HoldsAnswer (finished incoming class s ds) after r
    holds_long h p = holds_refused (finished incoming class s ds) LONG after r (finished_long incoming class s ds l w (joined_many j h)) p

    pub holds_written : n ≤ 32 → r ≡ counted_as FORMATTED class s n → HoldsAnswer (finished incoming class s ds) after r
    holds_written h p =
        let few : length ds ≤ 32 = joined_few j h in
        let n-is : n ≡ length ds = joined_count j few in
        holds (finished incoming class s ds) (served_by FORMATTED class s ds) after r (finished_formatted incoming class s ds l w few)
        (p ∙ ap (counted_as FORMATTED class s) n-is) few (ap (λ (k : ℕ). take k after) (sym n-is) ∙ j.digits few)

-- BY A RULE'S SET

module _ {sas settings lookup : List ℕ} {r : Served} (s : ServedAnew sas settings lookup r) (fas : List ℕ) where
  served_is : (outcome class : ℕ) (ds : List ℕ) → served outcome class (stage_after fas sas settings lookup) ds ≡ served_by outcome class r ds
  unfolding served
  served_is outcome class ds = rw (response_after_lem s fas, ← s.count fas, ← s.actions fas)

  after_is : (incoming class : ℕ) (ds : List ℕ) → after_services incoming class (stage_after fas sas settings lookup) ds ≡ finished incoming class r ds
  unfolding after_services formatted finished
  after_is incoming class ds =
      rw (responded_after s fas, withheld_after_lem s fas, served_is RESPONDED incoming [], served_is UNCHANGED incoming [], served_is FORMATTED class ds)

module _ (settings lookup : List ℕ) (class : ℕ) (digits : List ℕ) (prefix : ℕ) (content : List ℕ) where
  module _ (cas : List ℕ) (cas-is : cas ≡ ca_bytes content) (sent : ℕ) (sent_is : sent ≡ outgoing_class (get_or content OUTGOING-AT 0) class) where
    pub given_escaped : is_empty (cas_of cas) ≡ true → given_by settings lookup class digits prefix content ≡ unserved ESCAPED sent
    unfolding answer_with actions_of
    given_escaped e = let f : is_empty (cas_of (ca_bytes content)) ≡ true = rw (← cas-is) e in rw (f, ← sent_is)

    module _ (some : is_empty (cas_of cas) ≡ false) where
      pub given_short : short prefix (length digits) (cas_of cas) ≡ true → given_by settings lookup class digits prefix content ≡ refused SHORT
      unfolding answer_with actions_of
      given_short e =
          let f : is_empty (cas_of (ca_bytes content)) ≡ false = rw (← cas-is) some in
          let g : short prefix (length digits) (cas_of (ca_bytes content)) ≡ true = rw (← cas-is) e in
          rw (f, g)

      pub given_served : short prefix (length digits) (cas_of cas) ≡ false → (sas fas : List ℕ) → sas ≡ sa_bytes content → fas ≡ fa_bytes content
          → (s : Served) → ServedAnew sas settings lookup s
          → given_by settings lookup class digits prefix content ≡ finished class sent s (outgoing settings lookup digits cas prefix s fas)
      unfolding answer_with actions_of
      given_served e sas fas sas-is fas-is s done =
          let f : is_empty (cas_of (ca_bytes content)) ≡ false = rw (← cas-is) some in
          let g : short prefix (length digits) (cas_of (ca_bytes content)) ≡ false = rw (← cas-is) e in
          let d : List ℕ = join (value_to_send (settings_of settings) (value_from (settings_of settings).country prefix digits (cas_of cas)) (stage_after (codes_of fas) sas settings lookup)) (codes_of fas) in
          let is : given_by settings lookup class digits prefix content ≡ after_services class sent (stage_after (codes_of fas) sas settings lookup) d =
          rw (f, g, fas-is, sas-is, cas-is, ← sent_is) in
          is ∙ (after_is done (codes_of fas) class sent d ∙ ap (finished class sent s) (sym (outgoing_after done digits cas prefix fas)))

      -- so what follows the service actions is the answer
      pub holds_served : short prefix (length digits) (cas_of cas) ≡ false → (sas fas : List ℕ) → sas ≡ sa_bytes content → fas ≡ fa_bytes content
          → (s : Served) → ServedAnew sas settings lookup s → (after : List ℕ) (r : Answered)
          → HoldsAnswer (finished class sent s (outgoing settings lookup digits cas prefix s fas)) after r
          → HoldsAnswer (given_by settings lookup class digits prefix content) after r
      holds_served e sas fas sas-is fas-is s done after r g =
          subst (λ (x : Answer). HoldsAnswer x after r) (sym (given_served e sas fas sas-is fas-is s done)) g

-- the outgoing digits by another name
pub holds_digits : (incoming class : ℕ) (s : Served) {ds es : List ℕ} (after : List ℕ) (r : Answered) → ds ≡ es
    → HoldsAnswer (finished incoming class s ds) after r → HoldsAnswer (finished incoming class s es) after r
holds_digits incoming class s after r e g = subst (λ (x : List ℕ). HoldsAnswer (finished incoming class s x) after r) e g

-- WHAT THE SERVICE STAGE ASKS

module _ (settings body : List ℕ) (n : ℕ) (content out : List ℕ) (a : Answerable settings body n content out) where
  pub serviceable : (sas lookup : List ℕ) → sas ≡ sa_bytes content → lookup ≡ lookup_in body → Serviceable sas settings lookup
  serviceable sas lookup e f =
      record {
        few = rw e (rw (length-take 8 (drop 25 content)) (omega arith));
        settings_long = a.settings_long;
        lookup_long = rw (f, length-take, length-drop) (omega (arith, a.body_long));
        kind = rw f a.kind;
      }

-- the rule's filter is needed for its prefix's length alone
pub answer_with_lem : (settings : Settings) (n : Number) (f : Filter) (s : ActionSet) (prefix : ℕ) → prefix ≡ length f.prefix → answer_by settings n f s ≡ answer_with settings n prefix s
unfolding answer_by
answer_with_lem settings n f s prefix e = rw e
