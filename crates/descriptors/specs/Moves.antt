-- What is read and written at the system, as far as it can be stated: by the numbers that its calls answered. Which bytes they moved no contract can say.
use Rattle.std.specs.Prelude.{ℕ, ◌+◌, ◌-◌, ◌≤◌, ◌<◌, ◌≡◌, Bool, true, false, List, ℤ, pos, negsuc, length, take, eqb}
use Rattle.io.specs.Counts.{clamp_len}
use Rattle.descriptors.specs.Io.{Moved}
use Rattle.descriptors.specs.declared.Source.{Source}
use Rattle.descriptors.specs.declared.Sink.{Sink}
use Rattle.descriptors.specs.declared.AtHand.{AtHand}

-- the most bytes that a source or a sink counts: the largest 64-bit number
abbrev pub MOST : ℕ
MOST = 18446744073709551615

-- READING

-- nothing is read yet
abbrev pub new_source : ℤ → Source
new_source fd = record { fd = fd; given = 0; ended = false; failed = false }

-- so many bytes more; a read of none is the end of the input, and nothing else is
abbrev pub gave : Source → ℕ → Source
gave s n = record { fd = s.fd; given = s.given + n; ended = eqb n 0; failed = false }

-- a read failed
abbrev pub not_read : Source → Source
not_read s = record { fd = s.fd; given = s.given; ended = s.ended; failed = true }

-- what is at hand when a read into so many bytes, behind what is left, was answered with a number
abbrev pub at_hand : Source → ℕ → ℕ → ℤ → AtHand
at_hand s have room (pos k) = record { end = have + clamp_len (pos k) room; source = gave s (clamp_len (pos k) room) }
at_hand s have room (negsuc k) = record { end = have; source = not_read s }

-- a read is made only before the end, by a source that has not failed, with room for a byte at least
pub record Fillable (s : Source) (have : ℕ) (input : List ℕ) : Type 0 where
  pub more : have < length input
  pub not_ended : s.ended ≡ false
  pub not_failed : s.failed ≡ false
  pub counted : s.given + length input ≤ MOST

-- THE PROMISE OF A READ: what was left stays in front, and what is at hand goes by the system's answer
pub record FillPromise (s : Source) (have : ℕ) (before after : List ℕ) (h : AtHand) : Type 0 where
  pub got : ℤ
  pub moved : Moved (length before - have) got
  pub is : h ≡ at_hand s have (length before - have) got
  pub kept : take have after ≡ take have before
  pub same_size : length after ≡ length before

-- WRITING

-- nothing is written yet
abbrev pub new_sink : ℤ → Sink
new_sink fd = record { fd = fd; written = 0; failed = false }

-- a text of so many bytes was written; or the write failed, and some of it may be out
abbrev pub sent : Sink → ℕ → Bool → Sink
sent s n true = record { fd = s.fd; written = s.written + n; failed = false }
sent s n false = record { fd = s.fd; written = s.written; failed = true }

-- a text is written only if it is the first n bytes of the output, by a sink that has not failed
pub record Writable (s : Sink) (n : ℕ) (text output : List ℕ) : Type 0 where
  pub front : text ≡ take n output
  pub inside : n ≤ length output
  pub not_failed : s.failed ≡ false
  pub counted : s.written + n ≤ MOST

-- THE PROMISE OF A WRITE: it goes by the system's answer
pub record WritePromise (s : Sink) (n : ℕ) (r : Sink) : Type 0 where
  pub done : Bool
  pub is : r ≡ sent s n done
