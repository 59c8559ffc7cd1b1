-- One after the other.
use Rattle.formatting.proofs.Tables.{has_made}
use Rattle.formatting.proofs.place_values.Goals as goal

pub returns : goal.returns
returns c = let a = c.args in
    has_made a.source.now a.cas.now a.marks.now a.served c.place_country.ensures c.place_services.ensures
