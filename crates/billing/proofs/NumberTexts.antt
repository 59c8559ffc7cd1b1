-- The line of an answer whose digits are lent from the front of a buffer.
use Prim.Native.Nat.{ℕ}
use mathlib.Core.Path.{◌≡◌, ap}
use mathlib.Core.List.{List}
use lib.ListN.{take}
use Rattle.meaning.specs.Answer.{Answer}
use Rattle.meaning.specs.Records.{number_line}
use Rattle.meaning.specs.declared.Answered.{Answered}
use Rattle.number.specs.Promises.{HoldsAnswer}
use Rattle.number.proofs.Answering.{holds_count}
use Rattle.number.proofs.AnswerFacts.{Printable}
use Rattle.text.specs.Writes.{answer_in, NumberIn}

module _ {a : Answer} {held : List ℕ} {r : Answered} (p : Printable a) (h : HoldsAnswer a held r) where
  abbrev lent : List ℕ
  lent = take r.digits held

  lent_are : lent ≡ a.digits
  lent_are = rw (holds_count h) h.digits

  pub number_in_lem : NumberIn r lent
  number_in_lem =
      let outcome : r.outcome ≡ a.outcome = ap (λ (x : Answered). x.outcome) h.result in
      let class : r.class ≡ a.class = ap (λ (x : Answered). x.class) h.result in
      let response : r.response ≡ a.response = ap (λ (x : Answered). x.response) h.result in
      let count : r.count ≡ a.count = ap (λ (x : Answered). x.count) h.result in
      record {
        outcome = rw outcome p.outcome;
        class = rw class p.class;
        response = rw response p.response;
        count = rw count p.count;
        few = rw lent_are p.few;
        digits = rw lent_are p.digits;
      }

  pub line_is : number_line (answer_in r lent) ≡ number_line a
  line_is = ap number_line (rw lent_are (ap (λ (x : Answered). answer_in x a.digits) h.result))
