-- What an answer tells: a function that decides, of the test that it stands for, where the code leaves by it and where it goes on; a number, of the case answered.
use Prim.Native.Nat.{ℕ, zero, suc, ◌≤◌}
use mathlib.Core.Path.{◌≡◌, refl, ap, sym, ◌∙◌}
use mathlib.Core.Logic.{◌≢◌}
use mathlib.Core.Bool.{Bool, true, false, not, true≢false}
use native.Mathlib.Omega.{arith}
use borrow.Author.Tests.{not-true, not-false, ne_eqb}
use Rattle.std.specs.Prelude.{if◌then◌else◌}
use Rattle.meaning.specs.Settings.{is_class, AS-INCOMING}
use Rattle.std.proofs.lemmas.Bool.Decides.{nat_tests}
use Rattle.meaning.specs.Calls.{LIST, CALL, LOSSES, is_kind, is_call, body_length, operation_of}
use Rattle.meaning.specs.declared.kinds.Edit.TheVariants.{AddSet, ReplaceSet, RemoveSet, AddRule, ChangeRule, RemoveRule}
use Rattle.meaning.specs.declared.kinds.Edit.{Edit}
use Rattle.meaning.specs.declared.kinds.UnknownKind.{UnknownKind}
use Rattle.meaning.specs.declared.kinds.Kind.{Kind as KindByte}
use Rattle.meaning.specs.declared.kinds.Kind.TheVariants.{Opening, Edit as EditOf, Number, Refs, List, Call, Price, Losses}
use Rattle.meaning.specs.Answers.{edit_of, number_of_edit, number_of_kind, GivesKind, class_of, class_numbered, given, outgoing_of, number_of_refusal, number_of_provisioned}
use Rattle.meaning.specs.declared.Class.{Class}
use Rattle.meaning.specs.declared.UnknownClass.{UnknownClass}
use Rattle.meaning.specs.declared.Refusal.{Refusal}
use Rattle.meaning.specs.declared.Refusal.TheVariants.{Cut, Kind, Plan, Room, Range, Groups, Taken, Absent, Misfit, Full, InUse, Short, Long, NoPrice, LedgerFull}
use Rattle.std.specs.Prelude.{Result, Ok, Err, is_ok}

pub told : {r test value : Bool} → r ≡ test → r ≡ value → test ≡ value
told e h = sym e ∙ h

pub failed : {r test : Bool} → r ≡ test → not r ≡ true → test ≡ false
failed {r} e h = sym e ∙ not-true r h

pub passed : {r test : Bool} → r ≡ test → not r ≡ false → test ≡ true
passed {r} e h = sym e ∙ not-false r h

-- CHECKS IN ORDER: the one that refuses gives its number; one that does not leaves it to those behind it

pub refuses : {r test : Bool} {number : ℕ} (others : ℕ) → r ≡ test → r ≡ true → number ≡ (if test then number else others)
refuses others e h = rw (told e h)

pub goes_on : {r test : Bool} (number : ℕ) {others n : ℕ} → r ≡ test → r ≡ false → n ≡ others → n ≡ (if test then number else others)
goes_on number e h f = rw (told e h) f

-- the same for a check that something holds
pub refuses_unless : {r test : Bool} {number : ℕ} (others : ℕ) → r ≡ test → not r ≡ true → number ≡ (if not test then number else others)
refuses_unless others e h = rw (failed e h)

pub goes_on_where : {r test : Bool} (number : ℕ) {others n : ℕ} → r ≡ test → not r ≡ false → n ≡ others → n ≡ (if not test then number else others)
goes_on_where number e h f = rw (passed e h) f

-- and for that check where the code's own test of it is known to be false, or true
pub refuses_where_not : {r test : Bool} {number : ℕ} (others : ℕ) → r ≡ test → r ≡ false → number ≡ (if not test then number else others)
refuses_where_not others e h = rw (told e h)

pub goes_on_if : {r test : Bool} (number : ℕ) {others n : ℕ} → r ≡ test → r ≡ true → n ≡ others → n ≡ (if not test then number else others)
goes_on_if number e h f = rw (told e h) f

-- a refusal by checks, each answered by a function that promises just its test
pub ruleset checks = (refuses, goes_on, refuses_unless, goes_on_where, refuses_where_not, goes_on_if)

-- THE NUMBER OF AN ANSWER

-- the number of the case that was answered
pub answered : {r case : Result Unit Refusal} {n : ℕ} → number_of_provisioned r ≡ n → r ≡ case → n ≡ number_of_provisioned case
answered e h = sym e ∙ ap number_of_provisioned h

-- a byte is known as a class exactly if it is one
pub class_known : (b : ℕ) → is_ok (class_of b) ≡ is_class b
class_known b = go (is_class b)
  where
    go : (t : Bool) → is_ok {T = Class} {E = UnknownClass} (if t then Ok (class_numbered b) else Err (record { 0 = b })) ≡ t
    go true = refl
    go false = refl

-- the outgoing class of a byte that does not say "as incoming"
pub outgoing_given : {b : ℕ} {r : Result Class UnknownClass} → (b ≡ AS-INCOMING → ⊥) → r ≡ class_of b → outgoing_of b ≡ given r
outgoing_given {b} n e = rw (ne_eqb b AS-INCOMING n, e)

-- a refusal's number is not 0
pub refusal_number : (r : Refusal) → number_of_refusal r ≢ 0
refusal_number Cut e = omega (arith, e)
refusal_number Kind e = omega (arith, e)
refusal_number Plan e = omega (arith, e)
refusal_number Room e = omega (arith, e)
refusal_number Range e = omega (arith, e)
refusal_number Groups e = omega (arith, e)
refusal_number Taken e = omega (arith, e)
refusal_number Absent e = omega (arith, e)
refusal_number Misfit e = omega (arith, e)
refusal_number Full e = omega (arith, e)
refusal_number InUse e = omega (arith, e)
refusal_number Short e = omega (arith, e)
refusal_number Long e = omega (arith, e)
refusal_number NoPrice e = omega (arith, e)
refusal_number LedgerFull e = omega (arith, e)

-- KINDS

-- a byte that is no kind: above that of a listing, and none of C-11's
pub no_kind : (b : ℕ) → (b ≤ LIST → ⊥) → ((CALL ≤ b) × (b ≤ LOSSES) → ⊥) → is_kind b ≡ false
unfolding is_kind
no_kind b low high = grind (arith, nat_tests)

-- it has no body
pub no_body : (b : ℕ) → is_kind b ≡ false → body_length b ≡ 0
unfolding is_kind body_length
no_body zero e = absurd (true≢false e)
no_body (suc zero) e = absurd (true≢false e)
no_body (suc (suc zero)) e = absurd (true≢false e)
no_body (suc (suc (suc zero))) e = absurd (true≢false e)
no_body (suc (suc (suc (suc zero)))) e = absurd (true≢false e)
no_body (suc (suc (suc (suc (suc zero))))) e = absurd (true≢false e)
no_body (suc (suc (suc (suc (suc (suc zero)))))) e = absurd (true≢false e)
no_body (suc (suc (suc (suc (suc (suc (suc zero))))))) e = absurd (true≢false e)
no_body (suc (suc (suc (suc (suc (suc (suc (suc zero)))))))) e = absurd (true≢false e)
no_body (suc (suc (suc (suc (suc (suc (suc (suc (suc zero))))))))) e = refl
no_body (suc (suc (suc (suc (suc (suc (suc (suc (suc (suc zero)))))))))) e = refl
no_body (suc (suc (suc (suc (suc (suc (suc (suc (suc (suc (suc zero))))))))))) e = refl
no_body (suc (suc (suc (suc (suc (suc (suc (suc (suc (suc (suc (suc zero)))))))))))) e = refl
no_body (suc (suc (suc (suc (suc (suc (suc (suc (suc (suc (suc (suc (suc zero))))))))))))) e = refl
no_body (suc (suc (suc (suc (suc (suc (suc (suc (suc (suc (suc (suc (suc (suc zero)))))))))))))) e = refl
no_body (suc (suc (suc (suc (suc (suc (suc (suc (suc (suc (suc (suc (suc (suc (suc zero))))))))))))))) e = refl
no_body (suc (suc (suc (suc (suc (suc (suc (suc (suc (suc (suc (suc (suc (suc (suc (suc zero)))))))))))))))) e = absurd (true≢false e)
no_body (suc (suc (suc (suc (suc (suc (suc (suc (suc (suc (suc (suc (suc (suc (suc (suc (suc zero))))))))))))))))) e = absurd (true≢false e)
no_body (suc (suc (suc (suc (suc (suc (suc (suc (suc (suc (suc (suc (suc (suc (suc (suc (suc (suc zero)))))))))))))))))) e = refl
no_body (suc (suc (suc (suc (suc (suc (suc (suc (suc (suc (suc (suc (suc (suc (suc (suc (suc (suc (suc b))))))))))))))))))) e = refl

-- the number of a kind is a kind, and that of a call exactly where it opens or edits
pub kind_is : (k : KindByte) → is_kind (number_of_kind k) ≡ true
unfolding is_kind
kind_is Opening = refl
kind_is (EditOf AddSet) = refl
kind_is (EditOf ReplaceSet) = refl
kind_is (EditOf RemoveSet) = refl
kind_is (EditOf AddRule) = refl
kind_is (EditOf ChangeRule) = refl
kind_is (EditOf RemoveRule) = refl
kind_is Number = refl
kind_is Refs = refl
kind_is List = refl
kind_is Call = refl
kind_is Price = refl
kind_is Losses = refl

pub kind_known : (b : ℕ) (r : Result KindByte UnknownKind) → GivesKind b r → is_ok r ≡ is_kind b
kind_known b (Ok k) g = sym (kind_is k) ∙ ap is_kind g
kind_known b (Err e) g = sym g

-- and the number of the kind that a byte is known as is the byte
pub kind_told : {b : ℕ} {r : Result KindByte UnknownKind} {k : KindByte} → GivesKind b r → r ≡ Ok k → number_of_kind k ≡ b
kind_told g e = rw e at g

pub kind_untold : (b : ℕ) {r : Result KindByte UnknownKind} {x : UnknownKind} → GivesKind b r → r ≡ Err x → is_kind b ≡ false
kind_untold b g e = rw e at g

-- a call's is
pub edit_call : (e : Edit) → is_call (number_of_edit e) ≡ true
unfolding is_call
edit_call AddSet = refl
edit_call ReplaceSet = refl
edit_call RemoveSet = refl
edit_call AddRule = refl
edit_call ChangeRule = refl
edit_call RemoveRule = refl

-- and its kind says what it is to do
pub edit_asked : (e : Edit) → operation_of (number_of_edit e) ≡ edit_of e
unfolding operation_of
edit_asked AddSet = refl
edit_asked ReplaceSet = refl
edit_asked RemoveSet = refl
edit_asked AddRule = refl
edit_asked ChangeRule = refl
edit_asked RemoveRule = refl

pub no_call : (b : ℕ) → is_kind b ≡ false → is_call b ≡ false
unfolding is_kind is_call
no_call b e = grind (arith, nat_tests)
