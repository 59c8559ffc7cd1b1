use Rattle.std.proofs.Common.{◌≡◌, ◌∙◌}
use Rattle.blocks.specs.Endian.{bytes_of}
use Rattle.blocks.proofs.EndianLaws.{eight_bytes, length_bytes}
use Rattle.blocks.proofs.put_eight.Goals as goal

pub returns : goal.returns
returns c = let x = c.args.x in
    let e : c.copy_from_slice.new.self ≡ bytes_of 8 x = c.copy_from_slice.ensures.after ∙ (c.to_le_bytes.ensures ∙ eight_bytes x) in
    rw (e, length_bytes 8 x)
