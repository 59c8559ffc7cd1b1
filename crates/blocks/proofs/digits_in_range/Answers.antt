-- The number of digits is within the bounds, so the places decide.
use Rattle.std.proofs.Common.{rules, ◌≡◌, ◌∷◌, sym, ◌∙◌}
use Rattle.blocks.proofs.RangeLaws.{range_is}
use Rattle.blocks.proofs.digits_in_range.Goals as goal

pub returns : goal.returns
returns c = let a = c.args in
    let n = c.from-n.result in
    let places = c.in-Some.places.now in
    let parts : a.s.now ≡ n ∷ places = search rules in
    c.places_pass.ensures ∙ rw parts (sym (range_is a.lo a.hi n places c.if-n-lo.false c.if-hi-n.false))
