-- The two bytes are the definition's: v is below 65,536, so v / 256 is a byte.
use Rattle.std.proofs.Common.{◌≡◌, ◌/◌, ◌%◌, arith}
use Rattle.buffer.specs.Bytes.{with_word}
use Rattle.buffer.proofs.ListLaws.{two_stores}
use Rattle.buffer.proofs.put_word.Goals as goal

pub returns : goal.returns
unfolding with_word
returns c = let a = c.args in
    let high : a.v / 256 % 256 ≡ a.v / 256 = omega (arith, c.requires.1) in
    rw (c.copy_from_slice.ensures.after, c.to_be_bytes.ensures, high) (two_stores a.b.now a.at _ _ c.requires.0)
