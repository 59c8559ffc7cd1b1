-- C-12, "a subscriber without entity is still ours": what the setting byte decides, and that it decides nothing else.
use Prim.Native.Nat.{ℕ, zero, suc, ◌+◌}
use mathlib.Core.Path.{◌≡◌, refl, ap, ap₂, sym, subst, ◌∙◌}
use mathlib.Core.Logic.{◌≢◌}
use mathlib.Core.Bool.{Bool, true, false, ◌&&◌, ◌||◌, not}
use mathlib.Core.List.{List, [], ◌∷◌, map}
use mathlib.Core.Option.{Option, none, some}
use native.Mathlib.Omega.{arith}
use lib.ListN.{length, take, drop, get_or}
use lib.Seq.{get_or-take, get_or-drop}
use lib.Dec.{leb, ltb, eqb}
use borrow.Author.Tests.{ne_eqb, lt-leb, eqb-true, eqb-false}
use Rattle.meaning.specs.Sizes.{ROOMS-BYTES, ACCEPTING-AT, SETTINGS-BYTES, NUMBER-BYTES, DIGIT-ROOM}
use Rattle.meaning.specs.Basics.{is_zero, is_empty}
use Rattle.std.specs.Prelude.{if◌then◌else◌}
use Rattle.meaning.specs.Refusals.{CUT, ROOM, RANGE, SHORT, first_of}
use Rattle.meaning.specs.Settings.{Settings, settings_of, Lookup, Number, number_of, number_in_range}
use Rattle.meaning.specs.Rules.{Rule, weight, first_largest, chosen}
use Rattle.meaning.specs.Actions.{INPRTG, CDPNNP, ASDLKUP, GRNLKUP, ActionSet}
use Rattle.meaning.specs.Conditioning.{short, value_from}
use Rattle.meaning.specs.Services.{Stage, at_start, responded, unsuccessful, inprtg, rn_set, cdpnnp, asdlkup, grnlkup, cdial, carry_out, serve, value_to_send, join}
use Rattle.meaning.specs.Plan.{Plan, settings_in}
use Rattle.meaning.specs.Answer.{ESCAPED, RESPONDED, UNCHANGED, Answer, refused, unserved, served, outgoing_class, formatted, after_services, answer_with, answer_by, answer_under, answer_of, checked, answer}
use Rattle.meaning.specs.View.{Viewed, view, viewed_at, answer_under_view, answer_by_view}
use Rattle.meaning.specs.Calls.{Call, opened_settings}
use Rattle.meaning.specs.History.{PutIn}
use Rattle.meaning.proofs.Tests.{either}
use Rattle.meaning.proofs.Serving.{by_code, serve_keeps}
use Rattle.meaning.proofs.View.{answer_by_view_lem}

-- SUCCESS BY KIND

-- "0 as before": kinds 0 and 1 are unsuccessful, and no other
pub as_before : (settings : Settings) (lookup : Lookup) → settings.accepting ≡ 0 → unsuccessful settings lookup ≡ leb lookup.kind 1
unfolding unsuccessful
as_before settings lookup e = rw e (go lookup.kind)
  where
    go : (k : ℕ) → (is_zero k || (eqb k 1 && true)) ≡ leb k 1
    go zero = refl
    go (suc zero) = refl
    go (suc (suc k)) = rw (ne_eqb (suc (suc k)) 0 (λ q. omega arith), ne_eqb (suc (suc k)) 1 (λ q. omega arith), lt-leb (suc (suc k)) 1 (omega arith))

-- kind 0 is unsuccessful whatever the setting: behind CDPNNP formatting is withheld
pub kind_0_fails : (settings : Settings) (lookup : Lookup) (fas : List ℕ) (s : Stage) → lookup.kind ≡ 0 → (cdpnnp settings lookup fas s).withheld ≡ true
unfolding cdpnnp unsuccessful
kind_0_fails settings lookup fas s e = rw e

-- "1 for success on kind 1": no list of service actions withholds formatting
pub kind_1_succeeds : (settings : Settings) (lookup : Lookup) (fas sas : List ℕ) → settings.accepting ≡ 1 → lookup.kind ≡ 1
    → (serve settings lookup fas sas at_start).withheld ≡ false
unfolding inprtg cdpnnp asdlkup grnlkup cdial unsuccessful at_start
kind_1_succeeds settings lookup fas sas a k =
    serve_keeps settings lookup fas (λ s. s.withheld ≡ false)
    (λ c s h. by_code settings lookup fas (λ s. s.withheld ≡ false) c s h (rw (k, a) h) h h refl)
    sas at_start refl

-- "with RN and SP empty", under both values: DFLTRN is not sent for kind 1
pub accepted_empty : (settings : Settings) (lookup : Lookup) (fas sas : List ℕ) → lookup.kind ≡ 1
    → ((serve settings lookup fas sas at_start).rn ≡ []) × ((serve settings lookup fas sas at_start).sp ≡ [])
unfolding inprtg cdpnnp asdlkup grnlkup cdial rn_set at_start
accepted_empty settings lookup fas sas k =
    serve_keeps settings lookup fas (λ s. (s.rn ≡ []) × (s.sp ≡ []))
    (λ c s h. by_code settings lookup fas (λ s. (s.rn ≡ []) × (s.sp ≡ [])) c s h (rw k h) h h h)
    sas at_start (refl, refl)

-- WHAT SUCH A NUMBER IS ANSWERED

module _ (settings : Settings) (n : Number) (prefix : ℕ) (s : ActionSet) where
  abbrev stage : Stage
  stage = serve settings n.lookup s.fas s.sas at_start

  abbrev outgoing : List ℕ
  outgoing = join (value_to_send settings (value_from settings.country prefix n.digits s.cas) stage) s.fas

  -- "there the number is formatted": document 01's answer without "Withheld: outcome 3 UNCHANGED"
  pub formatted_there : settings.accepting ≡ 1 → n.lookup.kind ≡ 1
      → answer_with settings n prefix s
      ≡ (if is_empty s.cas then unserved ESCAPED (outgoing_class s.class n.class) else
      if short prefix (length n.digits) s.cas then refused SHORT else
      if responded stage then served RESPONDED n.class stage [] else formatted (outgoing_class s.class n.class) stage outgoing)
  unfolding answer_with after_services
  formatted_there a k = rw (kind_1_succeeds settings n.lookup s.fas s.sas a k)

  abbrev Changes : Answer → Type 0
  Changes a = a.outcome ≢ UNCHANGED

  with_changes : settings.accepting ≡ 1 → n.lookup.kind ≡ 1 → Changes (answer_with settings n prefix s)
  unfolding unserved refused served formatted
  with_changes a k =
      rw (formatted_there a k)
      (either Changes (is_empty s.cas) _ _ (λ e. omega (arith, e))
      (either Changes (short prefix (length n.digits) s.cas) _ _ (λ e. omega (arith, e))
      (either Changes (responded stage) _ _ (λ e. omega (arith, e)) (either Changes (leb (length outgoing) 32) _ _ (λ e. omega (arith, e)) (λ e. omega (arith, e))))))

-- no such number is left unchanged, over any plan, for any buffer and any body
pub never_unchanged : (p : Plan) (size : ℕ) (body : List ℕ) → (settings_in p).accepting ≡ 1 → (number_of (take NUMBER-BYTES body)).lookup.kind ≡ 1 → (answer (some p) size body).outcome ≢ UNCHANGED
unfolding answer_of answer_by unserved refused
never_unchanged p size body a k =
    go (first_of ((ltb (length body) NUMBER-BYTES, CUT) ∷ (ltb size DIGIT-ROOM, ROOM) ∷ (not (number_in_range (take NUMBER-BYTES body)), RANGE) ∷ []))
    (under (chosen n.class n.digits p.rules))
  where
    n : Number
    n = number_of (take NUMBER-BYTES body)

    under : (o : Option Rule) → (answer_under p n o).outcome ≢ UNCHANGED
    under none = λ e. omega (arith, e)
    under (some r) = with_changes (settings_in p) n _ _ a k

    go : (r : ℕ) → (answer_of p n).outcome ≢ UNCHANGED → (checked r (answer_of p n)).outcome ≢ UNCHANGED
    go zero c = c
    go (suc r) c = λ e. omega (arith, e)

-- NOTHING ELSE

-- the same settings with another byte
abbrev pub accept : ℕ → Settings → Settings
accept v s =
    record { country = s.country; dfltrn = s.dfltrn; delimiter_a = s.delimiter_a; delimiter_b = s.delimiter_b; answers = s.answers; accepting = v }

-- two stages for a lookup kind that are the same, but for the withholding where the kind is 1
pub record SameFor (kind : ℕ) (s t : Stage) : Type 0 where
  pub response : s.response ≡ t.response
  pub done : s.done ≡ t.done
  pub rn : s.rn ≡ t.rn
  pub sp : s.sp ≡ t.sp
  pub asd : s.asd ≡ t.asd
  pub grn : s.grn ≡ t.grn
  pub withheld : kind ≢ 1 → s.withheld ≡ t.withheld

same_self : (kind : ℕ) (s : Stage) → SameFor kind s s
same_self kind s = record { response = refl; done = refl; rn = refl; sp = refl; asd = refl; grn = refl; withheld = λ k. refl }

same_stage : {kind : ℕ} (s t : Stage) → SameFor kind s t → s.withheld ≡ t.withheld → s ≡ t
same_stage s t h w = rw (h.response, h.done, h.rn, h.sp, h.asd, h.grn, w)

-- by the same test
one_taken : {kind : ℕ} (b : Bool) (s t u w : Stage) → SameFor kind s t → SameFor kind u w → SameFor kind (if b then s else u) (if b then t else w)
one_taken true s t u w h k = h
one_taken false s t u w h k = k

module _ (v : ℕ) (settings : Settings) (lookup : Lookup) (fas : List ℕ) where
  carried_alike : (c : ℕ) (s t : Stage) → SameFor lookup.kind s t → SameFor lookup.kind (carry_out (accept v settings) lookup fas c s) (carry_out settings lookup fas c t)
  unfolding carry_out inprtg cdpnnp asdlkup grnlkup cdial rn_set unsuccessful
  carried_alike c s t h =
      one_taken (eqb c INPRTG) _ _ _ _
      (record { response = refl; done = rw h.done; rn = h.rn; sp = h.sp; asd = h.asd; grn = h.grn; withheld = h.withheld })
      (one_taken (eqb c CDPNNP) _ _ _ _
      (record {
        response = h.response;
        done = rw h.done;
        rn = rw h.rn;
        sp = rw h.sp;
        asd = h.asd;
        grn = h.grn;
        withheld = λ k. rw (ne_eqb lookup.kind 1 k, h.withheld k);
      })
      (one_taken (eqb c ASDLKUP) _ _ _ _
      (record { response = h.response; done = rw h.done; rn = h.rn; sp = h.sp; asd = rw h.asd; grn = h.grn; withheld = h.withheld })
      (one_taken (eqb c GRNLKUP) _ _ _ _
      (record { response = h.response; done = rw h.done; rn = h.rn; sp = h.sp; asd = h.asd; grn = rw h.grn; withheld = h.withheld })
      (record { response = h.response; done = rw h.done; rn = h.rn; sp = h.sp; asd = h.asd; grn = h.grn; withheld = λ k. refl }))))

  serve_alike : (sas : List ℕ) (s t : Stage) → SameFor lookup.kind s t → SameFor lookup.kind (serve (accept v settings) lookup fas sas s) (serve settings lookup fas sas t)
  unfolding responded
  serve_alike [] s t h = h
  serve_alike (c ∷ cs) s t h =
      let u : Stage = serve (accept v settings) lookup fas cs (carry_out (accept v settings) lookup fas c s) in
      let w : Stage = serve settings lookup fas cs (carry_out settings lookup fas c t) in
      subst (λ (b : Bool). SameFor lookup.kind (if responded s then s else u) (if b then t else w)) (ap (leb 2) h.response)
      (one_taken (responded s) s t u w h (serve_alike cs _ _ (carried_alike c s t h)))

  -- the response, the actions carried out and every value are the same under both values of the byte: INPRTG, DFLTRN, ASD and GRN do not depend on it. For kinds 0, 2 and 3
  -- so is the withholding
  pub nothing_else : (sas : List ℕ) → SameFor lookup.kind (serve (accept v settings) lookup fas sas at_start) (serve settings lookup fas sas at_start)
  nothing_else sas = serve_alike sas at_start at_start (same_self lookup.kind at_start)

module _ (settings : Settings) (n : Number) (prefix : ℕ) (s : ActionSet) where
  with_alike : (v : ℕ) → n.lookup.kind ≢ 1 → answer_with (accept v settings) n prefix s ≡ answer_with settings n prefix s
  unfolding answer_with value_to_send
  with_alike v k =
      let h = nothing_else v settings n.lookup s.fas s.sas in
      rw (same_stage (serve (accept v settings) n.lookup s.fas s.sas at_start) (stage settings n prefix s) h (h.withheld k))

  -- what each stage makes of the number
  abbrev byStage : Stage → Answer
  byStage t =
      if is_empty s.cas then unserved ESCAPED (outgoing_class s.class n.class) else
      if short prefix (length n.digits) s.cas then refused SHORT else
      after_services n.class (outgoing_class s.class n.class) t (join (value_to_send settings (value_from settings.country prefix n.digits s.cas) t) s.fas)

  by_stage : {kind : ℕ} (t u : Stage) → SameFor kind t u → (u.withheld ≡ false → t.withheld ≡ false) → (byStage u).outcome ≢ UNCHANGED → byStage t ≡ byStage u
  unfolding after_services served responded
  by_stage t u h w c = go (is_empty s.cas) (short prefix (length n.digits) s.cas) (responded u) u.withheld refl refl refl refl
    where
      go : (a b r d : Bool) → is_empty s.cas ≡ a → short prefix (length n.digits) s.cas ≡ b → responded u ≡ r → u.withheld ≡ d → byStage t ≡ byStage u
      go true b r d ea eb er ed = rw ea
      go false true r d ea eb er ed = rw (ea, eb)
      go false false true d ea eb er ed = let et : responded t ≡ true = ap (leb 2) h.response ∙ er in rw (ea, eb, et, er, h.response, h.done)
      go false false false true ea eb er ed = absurd (c (rw (ea, eb, er, ed)))
      go false false false false ea eb er ed = ap byStage (same_stage t u h (w ed ∙ sym ed))

  with_option : (answer_with settings n prefix s).outcome ≢ UNCHANGED → answer_with (accept 1 settings) n prefix s ≡ answer_with settings n prefix s
  unfolding answer_with value_to_send
  with_option c =
      let h = nothing_else 1 settings n.lookup s.fas s.sas in
      by_stage _ _ h (λ w. go (eqb n.lookup.kind 1) refl h w) c
    where
      t : Stage
      t = serve (accept 1 settings) n.lookup s.fas s.sas at_start

      go : (b : Bool) → eqb n.lookup.kind 1 ≡ b → SameFor n.lookup.kind t (stage settings n prefix s) → (stage settings n prefix s).withheld ≡ false → t.withheld ≡ false
      go true e h w = kind_1_succeeds (accept 1 settings) n.lookup s.fas s.sas refl (eqb-true n.lookup.kind 1 e)
      go false e h w = h.withheld (eqb-false n.lookup.kind 1 e) ∙ w

-- TWO PLANS ALIKE BUT FOR THE BYTE

module _ (p q : Plan) (v : ℕ) (same : settings_in q ≡ accept v (settings_in p)) (seen : view q ≡ view p) (n : Number) where
  abbrev viewedFor : Option Viewed
  viewedFor = viewed_at (view p) (first_largest (map (λ (x : Viewed). weight n.class n.digits x.filter) (view p)))

  -- an answer goes by the rule that both choose
  under : answer_under_view (accept v (settings_in p)) n viewedFor ≡ answer_under_view (settings_in p) n viewedFor → answer_of q n ≡ answer_of p n
  unfolding answer_by_view
  under e = sym (answer_by_view_lem q n) ∙ (ap₂ (λ x y. answer_by_view x y n) same seen ∙ (e ∙ answer_by_view_lem p n))

  -- they answer every number with another lookup than kind 1 alike
  pub other_kinds : n.lookup.kind ≢ 1 → answer_of q n ≡ answer_of p n
  unfolding answer_by
  other_kinds k = under (go viewedFor)
    where
      go : (o : Option Viewed) → answer_under_view (accept v (settings_in p)) n o ≡ answer_under_view (settings_in p) n o
      go none = refl
      go (some x) = with_alike (settings_in p) n _ _ v k

  -- the option changes the answer of a number only if it was left unchanged
  pub option_changes : v ≡ 1 → (answer_of p n).outcome ≢ UNCHANGED → answer_of q n ≡ answer_of p n
  unfolding answer_by_view answer_by
  option_changes e c = under (go viewedFor (λ x. c (ap (λ (a : Answer). a.outcome) (sym (answer_by_view_lem p n)) ∙ x)))
    where
      go : (o : Option Viewed) → (answer_under_view (settings_in p) n o).outcome ≢ UNCHANGED → answer_under_view (accept v (settings_in p)) n o ≡ answer_under_view (settings_in p) n o
      go none h = refl
      go (some x) h = rw e (with_option (settings_in p) n _ _ h)

-- THE SETTING IN FORCE

opened_byte : (b : List ℕ) → (settings_of (opened_settings b)).accepting ≡ get_or b (ROOMS-BYTES + ACCEPTING-AT) 0
unfolding settings_of
opened_byte b = get_or-take SETTINGS-BYTES (drop ROOMS-BYTES b) ACCEPTING-AT 0 (omega arith) ∙ get_or-drop ROOMS-BYTES b ACCEPTING-AT 0

-- "Demands 2 and 3 read with the setting in force": behind any list of calls it is the last byte of the last accepted opening
pub in_force : {lacks : List ℕ → Bool} {cs : List Call} (q : PutIn lacks cs) → (settings_in q.plan).accepting ≡ get_or q.opening (ROOMS-BYTES + ACCEPTING-AT) 0
in_force q = ap (λ (b : List ℕ). (settings_of b).accepting) q.settings ∙ opened_byte q.opening
