-- The code joins the three formats from the left, the definition from the right.
use mathlib.Core.Path.{◌≡◌}
use mathlib.Core.Bool.{Bool, ◌&&◌, ◌||◌, not, and-true, and_assoc, or_assoc}
use Rattle.meaning.specs.Groups.{one_format}
use Rattle.groups.proofs.one_format.Goals as goal

formats : (cc ac sn dn zn : Bool)
    → ((zn && not cc && not ac && not sn && not dn) || (cc && dn && not zn && not ac && not sn) || (cc && ac && sn && not zn && not dn))
    ≡ one_format cc ac sn dn zn
unfolding one_format
formats cc ac sn dn zn = simp (and_assoc, or_assoc, and-true)

pub returns : goal.returns
returns c = let args = c.args in
    formats args.cc args.ac args.sn args.dn args.zn
