-- Document 01's numbers and values, and C-11's, for each case of the answers that the functions give.
use Prim.Native.Nat.{ℕ, Ordering}
use Rattle.std.specs.Prelude.{◌≡◌, ℤ, length, eqb, Option as Optional, Some, None, Result, Ok, Err, MatchResult, false}
use Rattle.std.specs.declared.cmp.Ordering.{Ordering as Compared}
use Rattle.std.specs.declared.cmp.Ordering.TheVariants.{Less, Equal, Greater}
use Rattle.std.proofs.Math.Option.{Option, none, some}
use Rattle.meaning.specs.Basics.{padded}
use Rattle.std.specs.Prelude.{if◌then◌else◌}
use Rattle.meaning.specs.Refusals.{ACCEPTED, CUT, KIND, PLAN, ROOM, RANGE, GROUPS, TAKEN, ABSENT, MISFIT, FULL, IN-USE, SHORT, LONG, NO-PRICE, LEDGER-FULL}
use Rattle.meaning.specs.Settings.{is_class, AS-INCOMING}
use Rattle.meaning.specs.Answer.{Answer}
use Rattle.meaning.specs.Conditioning.{Stretch}
use Rattle.meaning.specs.Reads.{Read, Count, Listed}
use Rattle.meaning.specs.Calls.{Operation, add_set, replace_set, remove_set, add_rule, change_rule, remove_rule, OPEN-PLAN, NUMBER, REFS, LIST, CALL, PRICE, LOSSES, kind_of, is_kind}
use Rattle.meaning.specs.declared.kinds.Edit.{Edit}
use Rattle.meaning.specs.declared.kinds.Edit.TheVariants.{AddSet, ReplaceSet, RemoveSet, AddRule, ChangeRule, RemoveRule}
use Rattle.meaning.specs.declared.kinds.Kind.{Kind as KindByte}
use Rattle.meaning.specs.declared.kinds.Kind.TheVariants.{Opening, Edit as EditOf, Number, Refs, List, Call, Price, Losses}
use Rattle.meaning.specs.declared.kinds.UnknownKind.{UnknownKind}
use Rattle.meaning.specs.declared.Class.{Class}
use Rattle.meaning.specs.declared.UnknownClass.{UnknownClass}
use Rattle.meaning.specs.declared.Outgoing.{Outgoing}
use Rattle.meaning.specs.declared.Outgoing.TheVariants.{Given, AsIncoming}
use Rattle.meaning.specs.declared.«Loss».{«Loss» as LossRead}
use Rattle.meaning.specs.declared.SetNumber.{SetNumber}
use Rattle.meaning.specs.declared.RulePlace.{RulePlace}
use Rattle.meaning.specs.declared.Refusal.{Refusal}
use Rattle.meaning.specs.declared.Refusal.TheVariants.{Cut, Kind, Plan, Room, Range, Groups, Taken, Absent, Misfit, Full, InUse, Short, Long, NoPrice, LedgerFull}
use Rattle.meaning.specs.declared.Answered.{Answered}
use Rattle.meaning.specs.declared.Span.{Span}
use Rattle.meaning.specs.declared.ListedRule.{ListedRule}

-- CLASSES

abbrev pub code_of : Class → ℕ
code_of c = c.0

abbrev pub class_numbered : ℕ → Class
class_numbered c = record { 0 = c }

-- the class of a byte, or that it is none
abbrev pub class_of : ℕ → Result Class UnknownClass
class_of c = if is_class c then Ok (class_numbered c) else Err (record { 0 = c })

abbrev pub given : Result Class UnknownClass → Result Outgoing UnknownClass
given (Ok c) = Ok (Given c)
given (Err e) = Err e

abbrev pub outgoing_of : ℕ → Result Outgoing UnknownClass
outgoing_of c = if eqb c AS-INCOMING then Ok AsIncoming else given (class_of c)

-- SET NUMBERS AND PLACES

abbrev pub set_of : ℕ → SetNumber
set_of n = record { 0 = n }

abbrev pub place_of : ℕ → RulePlace
place_of k = record { 0 = k }

-- KINDS OF HOUSE RECORDS: what an edit is to do, and the numbers

abbrev pub edit_of : Edit → Operation
edit_of AddSet = add_set
edit_of ReplaceSet = replace_set
edit_of RemoveSet = remove_set
edit_of AddRule = add_rule
edit_of ChangeRule = change_rule
edit_of RemoveRule = remove_rule

abbrev pub number_of_edit : Edit → ℕ
number_of_edit e = kind_of (edit_of e)

abbrev pub number_of_kind : KindByte → ℕ
number_of_kind Opening = OPEN-PLAN
number_of_kind (EditOf e) = number_of_edit e
number_of_kind Number = NUMBER
number_of_kind Refs = REFS
number_of_kind List = LIST
number_of_kind Call = CALL
number_of_kind Price = PRICE
number_of_kind Losses = LOSSES

-- the kind of a byte, or that it is none
abbrev pub GivesKind : ℕ → Result KindByte UnknownKind → Type 0
GivesKind b r = MatchResult r (λ kind. number_of_kind kind ≡ b) (λ e. is_kind b ≡ false)

-- REFUSALS

abbrev pub number_of_refusal : Refusal → ℕ
number_of_refusal Cut = CUT
number_of_refusal Kind = KIND
number_of_refusal Plan = PLAN
number_of_refusal Room = ROOM
number_of_refusal Range = RANGE
number_of_refusal Groups = GROUPS
number_of_refusal Taken = TAKEN
number_of_refusal Absent = ABSENT
number_of_refusal Misfit = MISFIT
number_of_refusal Full = FULL
number_of_refusal InUse = IN-USE
number_of_refusal Short = SHORT
number_of_refusal Long = LONG
number_of_refusal NoPrice = NO-PRICE
number_of_refusal LedgerFull = LEDGER-FULL

-- 0 for an accepted call
abbrev pub number_of_provisioned : Result Unit Refusal → ℕ
number_of_provisioned (Ok _) = ACCEPTED
number_of_provisioned (Err r) = number_of_refusal r

-- READS

-- the refusal number or 0, and how many bytes were written
abbrev pub refusal_of_written : Result ℕ Refusal → ℕ
refusal_of_written (Ok n) = 0
refusal_of_written (Err r) = number_of_refusal r

abbrev pub bytes_written : Result ℕ Refusal → ℕ
bytes_written (Ok n) = n
bytes_written (Err r) = 0

-- it answers what a read gives
pub record AnswersRead (w : Result ℕ Refusal) (r : Read) : Type 0 where
  pub refusal : refusal_of_written w ≡ r.refusal
  pub bytes : bytes_written w ≡ length r.bytes

-- how many rules, or how many differences there are between two plans (C-20)
abbrev pub count_of : Result ℕ Refusal → Count
count_of (Ok n) = record { refusal = 0; number = n }
count_of (Err r) = record { refusal = number_of_refusal r; number = 0 }

-- THE CHOICE AND THE LISTING

abbrev pub place_chosen : Optional RulePlace → Option ℕ
place_chosen (Some k) = some k.0
place_chosen None = none

abbrev pub ordering_of : Compared → Ordering
ordering_of Less = Ordering.lt
ordering_of Equal = Ordering.eq
ordering_of Greater = Ordering.gt

-- a rule of the listing, with its prefix at its full width
abbrev pub rule_listed : Listed → ListedRule
rule_listed l =
    record {
      class = l.filter.class;
      digits = length l.filter.prefix;
      prefix = padded 16 l.filter.prefix;
      length = l.filter.len;
      set = set_of l.set;
    }

-- the refusal number or 0, and the rule
abbrev pub rule_given : Result ListedRule Refusal → ℕ × Option ListedRule
rule_given (Ok l) = (0, some l)
rule_given (Err r) = (number_of_refusal r, none)

abbrev pub rule_wanted : ℕ × Option Listed → ℕ × Option ListedRule
rule_wanted (n, none) = (n, none)
rule_wanted (n, some l) = (n, some (rule_listed l))

-- THE ANSWER TO A NUMBER: the digits are counted here, and stand in the lent buffer

abbrev pub answered_as : Answer → Answered
answered_as a =
    record {
      refusal = a.refusal;
      outcome = a.outcome;
      class = a.class;
      response = a.response;
      count = a.count;
      actions = a.actions;
      digits = length a.digits;
    }

abbrev pub span_of : Stretch → Span
span_of s = record { start = s.start; count = s.count }

-- A LOSS: the refusal number or 0, and the loss in units and in whole cents

abbrev pub loss_given : Result (Optional LossRead) Refusal → ℕ × Option (ℤ × ℤ)
loss_given (Ok (Some l)) = (0, some (l.units, l.cents))
loss_given (Ok None) = (0, none)
loss_given (Err r) = (number_of_refusal r, none)
