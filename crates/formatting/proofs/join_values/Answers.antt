-- Joined by the table that was made.
use Rattle.formatting.specs.Sources.{settings_in}
use Rattle.formatting.proofs.Tables.{sent_made}
use Rattle.formatting.proofs.Joining.{joins_as}
use Rattle.formatting.proofs.join_values.Goals as goal

pub returns : goal.returns
returns c = let a = c.args in
    joins_as (sent_made (settings_in a.source.now) a.source.now a.cas.now a.marks.now a.served c.place_values.ensures a.fas.now) c.join_placed.ensures
