-- What the checks of a call record leave: which number each way gives, and the answer and the ledger by that number.
use Prim.Native.Nat.{ℕ, zero, suc, ◌≤◌, ◌<◌}
use mathlib.Core.Path.{◌≡◌, refl, sym, ◌∙◌}
use mathlib.Core.Logic.{◌≢◌, ◌⊎◌, inl, inr}
use mathlib.Core.Bool.{true, false}
use mathlib.Core.List.{List, []}
use mathlib.Core.Option.{Option, none, some}
use lib.ListN.{length, take}
use lib.Dec.{leb}
use borrow.Author.Tests.{lt-ltb, le-ltb, eq-eqb, ne_eqb}
use Rattle.meaning.specs.Sizes.{CALL-BYTES, DIGIT-ROOM}
use Rattle.meaning.specs.Basics.{is_empty}
use Rattle.std.specs.Prelude.{if◌then◌else◌}
use Rattle.meaning.specs.Refusals.{CUT, PLAN, ROOM, RANGE, SHORT, LONG, NO-PRICE, LEDGER-FULL, first_of}
use Rattle.meaning.specs.Settings.{Settings, Number}
use Rattle.meaning.specs.Rules.{Rule, filter_in, chosen}
use Rattle.meaning.specs.Actions.{ActionSet}
use Rattle.meaning.specs.Conditioning.{short, value_from}
use Rattle.meaning.specs.Services.{Stage, at_start, responded, serve, value_to_send, join}
use Rattle.meaning.specs.Plan.{Plan, settings_in, held, actions_in}
use Rattle.meaning.specs.Prices.{PriceRow}
use Rattle.meaning.specs.Ledger.{Ledger, ledger_in_range, is_full}
use Rattle.meaning.specs.Answer.{ESCAPED, RESPONDED, UNCHANGED, FORMATTED, Answer, outgoing_class, refused, unserved, served, formatted, after_services, answer_with, answer_by, answer_under, answer_of, checked}
use Rattle.meaning.specs.Charges.{call_in_range, number_in, due_by, charge_lines, taking_refusal, charged, answer_in, entered_by, ledger_after}
use Rattle.meaning.proofs.Tests.{either}

-- BY THE NUMBER

checked_refused : (k : ℕ) (a : Answer) → k ≢ 0 → checked k a ≡ refused k
checked_refused zero a h = absurd (h refl)
checked_refused (suc k) a h = refl

-- a refused record gives its number, and leaves the ledger
pub refused_by : (s : Option Plan) (rows : Option (List PriceRow)) (l : Ledger) (size : ℕ) (body : List ℕ) (k : ℕ) → taking_refusal s rows l size body ≡ k → k ≢ 0
    → (charged s rows l size body ≡ refused k) × (ledger_after s rows l size body ≡ l)
unfolding charged ledger_after
refused_by s rows l size body k e h = (rw e (checked_refused k (answer_in s (take CALL-BYTES body)) h), rw (e, ne_eqb k 0 h))

-- an accepted one gives the number's answer, and its entry
pub accepted_by : (s : Option Plan) (rows : Option (List PriceRow)) (l : Ledger) (size : ℕ) (body : List ℕ) → taking_refusal s rows l size body ≡ 0
    → (charged s rows l size body ≡ answer_in s (take CALL-BYTES body)) × (ledger_after s rows l size body ≡ entered_by s rows (take CALL-BYTES body) l)
unfolding charged ledger_after
accepted_by s rows l size body e = (rw e, rw e)

-- AN ANSWER'S OWN REFUSAL is all that it says

abbrev Itself : Answer → Type 0
Itself a = (a.refusal ≡ 0) ⊎ (a ≡ refused a.refusal)

itself_refused : (k : ℕ) → Itself (refused k)
unfolding refused
itself_refused k = inr refl

formatted_itself : (class : ℕ) (t : Stage) (out : List ℕ) → Itself (formatted class t out)
unfolding formatted served
formatted_itself class t out = either Itself (leb (length out) 32) (served FORMATTED class t out) (refused LONG) (inl refl) (itself_refused LONG)

after_itself : (incoming class : ℕ) (t : Stage) (out : List ℕ) → Itself (after_services incoming class t out)
unfolding after_services served
after_itself incoming class t out =
    either Itself (responded t) (served RESPONDED incoming t []) (if t.withheld then served UNCHANGED incoming t [] else formatted class t out) (inl refl)
    (either Itself t.withheld (served UNCHANGED incoming t []) (formatted class t out) (inl refl) (formatted_itself class t out))

with_itself : (settings : Settings) (n : Number) (prefix : ℕ) (s : ActionSet) → Itself (answer_with settings n prefix s)
unfolding answer_with unserved
with_itself settings n prefix s =
    let stage : Stage = serve settings n.lookup s.fas s.sas at_start in
    let out : List ℕ = join (value_to_send settings (value_from settings.country prefix n.digits s.cas) stage) s.fas in
    let later : Answer = after_services n.class (outgoing_class s.class n.class) stage out in
    either Itself (is_empty s.cas) (unserved ESCAPED (outgoing_class s.class n.class)) (if short prefix (length n.digits) s.cas then refused SHORT else later) (inl refl)
    (either Itself (short prefix (length n.digits) s.cas) (refused SHORT) later (itself_refused SHORT) (after_itself n.class (outgoing_class s.class n.class) stage out))

under_itself : (p : Plan) (n : Number) (o : Option Rule) → Itself (answer_under p n o)
unfolding answer_by unserved
under_itself p n none = inl refl
under_itself p n (some r) = with_itself (settings_in p) n (length (filter_in r).prefix) (actions_in (held p r.set))

pub answer_itself : (p : Plan) (n : Number) → (answer_of p n).refusal ≢ 0 → refused (answer_of p n).refusal ≡ answer_of p n
unfolding answer_of
answer_itself p n h = go (under_itself p n (chosen n.class n.digits p.rules))
  where
    go : Itself (answer_under p n (chosen n.class n.digits p.rules)) → refused (answer_of p n).refusal ≡ answer_of p n
    go (inl e) = absurd (h e)
    go (inr e) = sym e

-- THE LINES

module _ (s : Option Plan) (rows : Option (List PriceRow)) (l : Ledger) (size : ℕ) (body : List ℕ) where
  pub taking_cut : length body < CALL-BYTES → taking_refusal s rows l size body ≡ CUT
  unfolding taking_refusal
  taking_cut h = go s
    where
      go : (s : Option Plan) → taking_refusal s rows l size body ≡ CUT
      go none = rw (lt-ltb (length body) CALL-BYTES h)
      go (some p) = rw (lt-ltb (length body) CALL-BYTES h)

module _ (rows : Option (List PriceRow)) (l : Ledger) (size : ℕ) (body : List ℕ) (whole : CALL-BYTES ≤ length body) where
  pub taking_unsound : taking_refusal none rows l size body ≡ PLAN
  unfolding taking_refusal
  taking_unsound = rw (le-ltb (length body) CALL-BYTES whole)

  pub taking_no_room : (p : Plan) → size < DIGIT-ROOM → taking_refusal (some p) rows l size body ≡ ROOM
  unfolding taking_refusal
  taking_no_room p h = rw (le-ltb (length body) CALL-BYTES whole, lt-ltb size DIGIT-ROOM h)

module _ (p : Plan) (l : Ledger) (size : ℕ) (body : List ℕ) (whole : CALL-BYTES ≤ length body) (room : DIGIT-ROOM ≤ size) where
  pub taking_no_list : taking_refusal (some p) none l size body ≡ RANGE
  unfolding taking_refusal
  taking_no_list = rw (le-ltb (length body) CALL-BYTES whole, le-ltb size DIGIT-ROOM room)

  module _ (rs : List PriceRow) where
    lines_left : taking_refusal (some p) (some rs) l size body ≡ first_of (charge_lines p rs l (take CALL-BYTES body))
    unfolding taking_refusal
    lines_left = rw (le-ltb (length body) CALL-BYTES whole, le-ltb size DIGIT-ROOM room)

    pub taking_bad_call : call_in_range (take CALL-BYTES body) ≡ false → taking_refusal (some p) (some rs) l size body ≡ RANGE
    unfolding charge_lines
    taking_bad_call h = lines_left ∙ rw h

    pub taking_bad_ledger : call_in_range (take CALL-BYTES body) ≡ true → ledger_in_range l ≡ false → taking_refusal (some p) (some rs) l size body ≡ RANGE
    unfolding charge_lines
    taking_bad_ledger h i = lines_left ∙ rw (h, i)

    module _ (range : call_in_range (take CALL-BYTES body) ≡ true) (ledger_in : ledger_in_range l ≡ true) where
      abbrev a : Answer
      a = answer_of p (number_in (take CALL-BYTES body))

      pub taking_own : a.refusal ≢ 0 → taking_refusal (some p) (some rs) l size body ≡ a.refusal
      unfolding charge_lines
      taking_own h = lines_left ∙ rw (range, ledger_in, ne_eqb a.refusal 0 h)

      module _ (given : a.refusal ≡ 0) where
        pub taking_no_price : due_by p rs (take CALL-BYTES body) ≡ none → taking_refusal (some p) (some rs) l size body ≡ NO-PRICE
        unfolding charge_lines
        taking_no_price h = lines_left ∙ rw (range, ledger_in, eq-eqb a.refusal 0 given, h)

        module _ (due : ℕ) (due_is : due_by p rs (take CALL-BYTES body) ≡ some due) where
          pub taking_full : is_full l ≡ true → taking_refusal (some p) (some rs) l size body ≡ LEDGER-FULL
          unfolding charge_lines
          taking_full h = lines_left ∙ rw (range, ledger_in, eq-eqb a.refusal 0 given, due_is, h)

          pub taking_accepted : is_full l ≡ false → taking_refusal (some p) (some rs) l size body ≡ 0
          unfolding charge_lines
          taking_accepted h = lines_left ∙ rw (range, ledger_in, eq-eqb a.refusal 0 given, due_is, h)
