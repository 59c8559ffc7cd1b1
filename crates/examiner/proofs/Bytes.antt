-- Lists of bytes: their parts, the slots in one, unused ones, and a two-byte number, whose bytes are found again since they are bytes.
use Prim.Native.Nat.{ℕ, ◌+◌, ◌-◌, ◌*◌, ◌/◌, ◌%◌, ◌≤◌, ◌<◌}
use mathlib.Core.Path.{◌≡◌, ap, sym, ◌∙◌}
use mathlib.Core.List.{List, ◌++◌}
use native.Mathlib.Omega.{arith}
use native.Mathlib.Nat.{div-add-mod', mod-lt}
use lib.ListN.{length, take, drop, get_or, length-drop}
use lib.Seq.{take_all, drop-drop, length-take-le}
use lib.Dec.{T, lit<}
use Rattle.meaning.specs.Basics.{all, is_zero, word, part}
use Rattle.std.specs.Simd.{first_chunks}
use Rattle.buffer.specs.Slots.{slots}
use Rattle.buffer.specs.Zeros.{zeros}
use Rattle.buffer.proofs.ListLaws.{drop_take}
use Rattle.buffer.proofs.SlotLaws.{whole_slots, slots_part}
use Rattle.buffer.proofs.ZeroLaws.{all_zeros}
use Rattle.actions.proofs.Lists.{next_two}
use Rattle.blocks.proofs.EndianLaws.{Bytes}
use Rattle.plan.specs.Layout.{word_bytes}

-- a number's two bytes are those that it was read from
pub word_again : (b : List ℕ) (at : ℕ) → at + 1 < length b → Bytes b → word_bytes (word b at) ++ drop (at + 2) b ≡ drop at b
word_again b at inside h =
    let n : ℕ = word b at in
    let low_byte : get_or b (at + 1) 0 < 256 = h (at + 1) in
    let whole : n / 256 * 256 + n % 256 ≡ n = div-add-mod' n 256 in
    let small : n % 256 < 256 = mod-lt n (lit< tt) in
    let high : n / 256 ≡ get_or b at 0 = omega arith in
    let low : n % 256 ≡ get_or b (at + 1) 0 = omega arith in
    rw (high, low) (sym (next_two b at inside))

-- a part is lent by its two ends
part_lent : (a n : ℕ) (m : List ℕ) → take (a + n - a) (drop a m) ≡ part a n m
part_lent a n m = let e : a + n - a ≡ n = omega arith in rw e

-- the chunks of the bytes of n slots, which are the first in an area of k bytes
pub part_slots : (w n a k : ℕ) (m : List ℕ) → 0 < w → w * n ≤ k → a + w * n ≤ length m
    → first_chunks w (length (take (a + w * n - a) (drop a m)) / w) (take (a + w * n - a) (drop a m)) ≡ slots w n (part a k m)
part_slots w n a k m h l inside =
    let size : length (part a (w * n) m) ≡ w * n = length-take-le (w * n) (drop a m) (rw (length-drop a m) (omega arith)) in
    let same : slots w n (part a (w * n) m) ≡ slots w n (part a k m) = slots_part w n (w * n) (drop a m) (omega arith) ∙ sym (slots_part w n k (drop a m) l) in
    rw (part_lent a (w * n) m) (whole_slots w n (part a (w * n) m) h size ∙ same)

-- the bytes behind them in the area
pub part_rest : (n a k : ℕ) (m : List ℕ) → n ≤ k → take (a + k - (a + n)) (drop (a + n) m) ≡ drop n (part a k m)
part_rest n a k m l =
    let e : a + k - (a + n) ≡ k - n = omega arith in
    rw (e, drop_take n k (drop a m) l, drop-drop n a m)

-- a part of unused bytes
pub part_zeros : (a n : ℕ) (m : List ℕ) → a + n ≤ length m → T (all is_zero (part a n m)) → part a n m ≡ zeros n
part_zeros a n m h t = all_zeros (part a n m) t ∙ ap zeros (length-take-le n (drop a m) (rw (length-drop a m) (omega arith)))

pub last_zeros : (a n : ℕ) (m : List ℕ) → length m ≡ a + n → T (all is_zero (part a n m)) → drop a m ≡ zeros n
last_zeros a n m e t =
    let long : length (drop a m) ≤ n = rw (length-drop a m) (omega arith) in
    sym (take_all n (drop a m) long) ∙ part_zeros a n m (omega arith) t
