-- The values of the source that was made.
use mathlib.Core.Path.{sym}
use Rattle.formatting.proofs.Sources.{table_made, joined_made}
use Rattle.formatting.proofs.join_outgoing.Goals as goal

pub slice_bounds-join_values-end : goal.slice_bounds-join_values-end
slice_bounds-join_values-end c = sym (table_made c.requires.0 c.copy.ensures _ c.copy-2.ensures).long

pub join_values-requires : goal.join_values-requires
join_values-requires c = (table_made c.requires.0 c.copy.ensures _ c.copy-2.ensures, c.requires.1, c.requires.2)

pub returns : goal.returns
returns c = joined_made c.requires.0 c.copy.ensures _ c.copy-2.ensures c.args.cas.now c.args.served c.args.fas.now c.join_values.ensures
