-- By the number that the system answered.
use Prim.Native.Nat.{ℕ, ◌+◌, ◌-◌, ◌≤◌, min}
use mathlib.Core.Path.{◌≡◌, refl, sym, subst}
use mathlib.Core.Bool.{Bool, true, false, not}
use mathlib.Core.List.{List}
use lib.ListN.{length, take, drop, length-drop}
use lib.Seq.{length-take-le}
use lib.IntN.{ℤ, pos, negsuc}
use lib.Signed.{lt_z}
use mir.Syntax.{w64}
use mir.Val.{SFits, to_z, of_z}
use mir.ValLaws.{to_z-of_z}
use native.Mathlib.Omega.{arith}
use borrow.Author.Tests.{eq-eqb, ltb-true}
use Rattle.descriptors.specs.Io.{Moved}
use Rattle.io.specs.Counts.{clamp_len}
use Rattle.descriptors.specs.Moves.{gave, not_read, at_hand, FillPromise, sent}
use Rattle.descriptors.specs.declared.Source.{Source}
use Rattle.descriptors.specs.declared.Sink.{Sink}
use Rattle.descriptors.specs.declared.AtHand.{AtHand}

module _ (s : Source) (have room : ℕ) (got : ℤ) (fits : SFits w64 got) where
  pub unread : lt_z (to_z w64 (of_z w64 got)) (pos 0) ≡ true → record { end = have; source = not_read s } ≡ at_hand s have room got
  unread t = go got (rw (to_z-of_z w64 got fits) at t)
    where
      go : (got : ℤ) → lt_z got (pos 0) ≡ true → record { end = have; source = not_read s } ≡ at_hand s have room got
      go (pos k) t = absurd (omega (arith, ltb-true k 0 t))
      go (negsuc k) t = refl

  pub read_of : (n : ℕ) → lt_z (to_z w64 (of_z w64 got)) (pos 0) ≡ false → n ≡ clamp_len (to_z w64 (of_z w64 got)) room → record { end = have + n; source = gave s n } ≡ at_hand s have room got
  read_of n f e = go got (rw (to_z-of_z w64 got fits) at f) (rw (to_z-of_z w64 got fits) at e)
    where
      go : (got : ℤ) → lt_z got (pos 0) ≡ false → n ≡ clamp_len got room → record { end = have + n; source = gave s n } ≡ at_hand s have room got
      go (pos k) f e = rw e refl
      go (negsuc k) f e = absurd (let z : ◌≡◌ {A = ℕ} 0 1 = cc in omega arith)

-- a text that was written is counted, and one that was not is not
pub counted : (s : Sink) (n : ℕ) (done : Bool) → done ≡ true → record { fd = s.fd; written = s.written + n; failed = not done } ≡ sent s n done
counted s n done e = rw e refl

pub uncounted : (s : Sink) (n : ℕ) (done : Bool) → done ≡ false → record { fd = s.fd; written = s.written; failed = not done } ≡ sent s n done
uncounted s n done e = rw e refl

-- the part behind what is left
pub part_long : (have : ℕ) (xs : List ℕ) → length (take (length xs - have) (drop have xs)) ≡ length xs - have
part_long have xs = length-take-le (length xs - have) (drop have xs) (rw (length-drop have xs) (omega arith))

-- FOR CALLERS OF A READ, whatever the answer

pub record Got (s : Source) (have : ℕ) (before : List ℕ) (h : AtHand) : Type 0 where
  pub more : have ≤ h.end
  pub inside : h.end ≤ length before
  pub counted : h.source.given ≡ s.given + (h.end - have)
  -- a read of no bytes is the end
  pub none_ends : h.source.failed ≡ false → h.end ≡ have → h.source.ended ≡ true

pub got : {s : Source} {have : ℕ} {before after : List ℕ} {h : AtHand} → have ≤ length before → FillPromise s have before after h → Got s have before h
got {s} {have} {before} {after} {h} room q = subst (Got s have before) (sym q.is) (go q.got q.moved)
  where
    go : (z : ℤ) → Moved (length before - have) z → Got s have before (at_hand s have (length before - have) z)
    go (pos k) m =
        let n : min k (length before - have) ≡ k = omega (arith, m) in
        record {
          more = omega arith;
          inside = omega (arith, n, m, room);
          counted = omega arith;
          none_ends = λ f e. eq-eqb (min k (length before - have)) 0 (omega (arith, e));
        }
    go (negsuc k) m =
        record {
          more = omega arith;
          inside = room;
          counted = omega arith;
          none_ends = λ f e. absurd (let z : ◌≡◌ {A = ℕ} 0 1 = cc in omega arith);
        }
