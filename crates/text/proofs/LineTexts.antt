-- Which text each line is.
use Prim.Native.Nat.{ℕ, zero, suc, ◌≤◌, ◌<◌}
use mathlib.Core.Path.{◌≡◌}
use mathlib.Core.Logic.{◌≢◌}
use mathlib.Core.List.{List, [], ◌∷◌, ◌++◌, append_assoc}
use native.Mathlib.Omega.{arith}
use lib.ListN.{length, take, length-append, length-take}
use borrow.Author.Tests.{eq-eqb, ne_eqb}
use Rattle.meaning.specs.Answer.{Answer}
use Rattle.meaning.specs.Answers.{number_of_refusal, number_of_provisioned, count_of}
use Rattle.meaning.specs.Records.{decimal, prefix_text, length_text, ok_line, no_line, accepted_line, number_line, refs_line, listed_line}
use Rattle.meaning.specs.declared.Answered.{Answered}
use Rattle.meaning.specs.declared.ListedRule.{ListedRule}
use Rattle.std.specs.Prelude.{Result, Ok, Err}
use Rattle.meaning.specs.declared.Refusal.{Refusal}
use Rattle.meaning.proofs.Telling.{refusal_number}
use Rattle.text.specs.Writes.{digits_or, listed_of, ListedIn, answer_in, NumberIn, head_text}
use Rattle.text.proofs.Lines.{decimal_one, number_short}
use Rattle.text.proofs.DigitTexts.{digits_short, digits_is, prefix_is}

-- REFUSALS AND COUNTS

pub accepted_is : {p : Result Unit Refusal} → p ≡ Ok tt → 111 ∷ 107 ∷ 10 ∷ [] ≡ accepted_line (number_of_provisioned p)
unfolding ok_line
accepted_is e = rw e

pub counted_is : {a : Result ℕ Refusal} {n : ℕ} → a ≡ Ok n → (114 ∷ 101 ∷ 102 ∷ 115 ∷ 32 ∷ []) ++ (decimal n ++ 10 ∷ []) ≡ refs_line (count_of a)
unfolding refs_line
counted_is e = rw e

pub not_counted_is : {a : Result ℕ Refusal} {r : Refusal} {n : ℕ} → a ≡ Err r → n ≡ number_of_refusal r → no_line n ≡ refs_line (count_of a)
unfolding refs_line
not_counted_is {a} {r} {n} e k = rw (e, k, ne_eqb (number_of_refusal r) 0 (refusal_number r))

-- LISTED RULES

pub length_short : (l : ℕ) → l < 256 → length (length_text l ++ 32 ∷ []) ≤ 6
length_short zero h = omega arith
length_short (suc l) h = number_short (suc l) 32 (omega arith)

-- n is how many digits the prefix has
module _ (r : ListedRule) (n : ℕ) (e : n ≡ r.digits) where
  -- the first half
  pub half_short : ListedIn r → r.class < 256 → length ((decimal r.class ++ 32 ∷ []) ++ (prefix_text (take n r.prefix) ++ 32 ∷ [])) ≤ 24
  half_short i h =
      let p : List ℕ = take n r.prefix in
      omega (
        arith,
        length-append (decimal r.class ++ 32 ∷ []) (prefix_text p ++ 32 ∷ []),
        number_short r.class 32 (omega arith),
        rw prefix_is at (digits_short 42 32 p),
        length-take n r.prefix,
        i.few,
      )

  -- the two halves
  pub listed_is : {m : ℕ} → m ≡ r.set.0 → ((decimal r.class ++ 32 ∷ []) ++ (prefix_text (take n r.prefix) ++ 32 ∷ []))
      ++ ((length_text r.length ++ 32 ∷ []) ++ (decimal m ++ 10 ∷ [])) ≡ listed_line (listed_of r)
  unfolding listed_line
  listed_is q = rw (q, e) (simp append_assoc)

-- NUMBER LINES

pub refused_is : (a : Answer) → a.refusal ≢ 0 → no_line a.refusal ≡ number_line a
unfolding number_line
refused_is a n = rw (ne_eqb a.refusal 0 n)

-- the head, and the digits behind it
pub answered_is : (a : Answered) (ds : List ℕ) → NumberIn a ds → a.refusal ≡ 0
    → head_text a.outcome a.class a.response a.count ++ (digits_or 45 ds ++ 10 ∷ []) ≡ number_line (answer_in a ds)
unfolding number_line head_text
answered_is a ds i e =
    rw (digits_is ds, eq-eqb a.refusal 0 e, decimal_one a.outcome i.outcome, decimal_one a.class i.class, decimal_one a.response i.response, decimal_one a.count i.count)
