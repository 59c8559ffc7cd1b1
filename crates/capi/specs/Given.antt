-- What the reads give over C: a refusal's number or 0, and a count, in one struct.
use Rattle.std.specs.Prelude.{ℕ, ◌≡◌, List, ℤ, pos, length}
use Rattle.std.proofs.Math.Option.{Option, none, some}
use Rattle.meaning.specs.Basics.{written_over}
use Rattle.meaning.specs.Reads.{Read, Count}
use Rattle.meaning.specs.Compare.{Comparison}
use Rattle.meaning.specs.Answers.{refusal_of_written, bytes_written}
use Rattle.std.specs.Prelude.{Result, replicate}
use Rattle.meaning.specs.declared.Refusal.{Refusal}
use Rattle.meaning.specs.Ledger.{ledger_of}
use Rattle.meaning.specs.declared.ListedRule.{ListedRule}
use Rattle.meaning.specs.declared.Taken.{Taken}
use Rattle.meaning.specs.declared.Totals.{Totals}
use Rattle.buffer.specs.Slots.{flat}
use Rattle.charging.specs.Promises.{Takes}
use Rattle.capi.specs.declared.NppWritten.{NppWritten}
use Rattle.capi.specs.declared.NppCounted.{NppCounted}
use Rattle.capi.specs.declared.NppListed.{NppListed}
use Rattle.capi.specs.declared.NppCompared.{NppCompared}
use Rattle.capi.specs.declared.NppLoss.{NppLoss}

-- every field of what a call that writes gives
pub record WrittenAs (w : Result ℕ Refusal) (r : NppWritten) : Type 0 where
  pub refusal : r.refusal ≡ refusal_of_written w
  pub bytes : r.bytes ≡ bytes_written w

-- every field of what a call that counts gives
pub record CountedAs (c : Count) (r : NppCounted) : Type 0 where
  pub refusal : r.refusal ≡ c.refusal
  pub rules : r.rules ≡ c.number

-- every field of a rule of the listing, and every other field 0 where there is a refusal
abbrev pub listed_as : ℕ × Option ListedRule → NppListed
listed_as (n, none) = record { refusal = n; class = 0; digits = 0; length = 0; prefix = replicate 16 0; set = 0 }
listed_as (n, some l) = record { refusal = n; class = l.class; digits = l.digits; length = l.length; prefix = l.prefix; set = l.set.0 }

-- a read that writes: every field of its result, and what the buffer holds afterwards
pub record GivesWritten (read : Read) (out after : List ℕ) (r : NppWritten) : Type 0 where
  pub refusal : r.refusal ≡ read.refusal
  pub bytes : r.bytes ≡ length read.bytes
  pub buffer : after ≡ written_over read.bytes out

-- every field of what comparing two plans gives
pub record ComparedAs (c : Count) (r : NppCompared) : Type 0 where
  pub refusal : r.refusal ≡ c.refusal
  pub differences : r.differences ≡ c.number

-- and what the buffer holds afterwards
pub record GivesCompared (c : Comparison) (out after : List ℕ) (r : NppCompared) : Type 0 where
  pub refusal : r.refusal ≡ c.refusal
  pub differences : r.differences ≡ length c.entries
  pub buffer : after ≡ written_over (flat c.entries) out

-- every field of a loss; held is 1 where there are records, and everything else is 0 where there is none
abbrev pub loss_as : ℕ × Option (ℤ × ℤ) → NppLoss
loss_as (r, none) = record { refusal = r; held = 0; units = pos 0; cents = pos 0 }
loss_as (r, some l) = record { refusal = r; held = 1; units = l.0; cents = l.1 }

-- what taking a call record answers, with the whole's totals behind it
abbrev pub TakesWith : List ℕ → List ℕ → List ℤ → Totals → List ℕ → List ℕ → List ℤ → List ℕ → Taken → Type 0
TakesWith plan prices districts whole body out after left t = Takes plan prices (ledger_of districts whole) body out (ledger_of after t.whole) left t.answer
