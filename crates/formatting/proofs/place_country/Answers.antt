-- CC is the default by CCDEF; every other value stays.
use mathlib.Core.Path.{sym, ◌∙◌}
use Rattle.formatting.proofs.Tables.{country_kept, country_put}
use Rattle.formatting.proofs.place_country.Goals as goal

pub returns-then-has_code : goal.returns-then-has_code
returns-then-has_code c = let default = sym c.has_code.ensures ∙ c.if-has_code.true in
    rw c.put.ensures (country_put c.requires c.args.cas.now default _ c.string_at.ensures)

pub returns-else-has_code : goal.returns-else-has_code
returns-else-has_code c = country_kept c.requires c.args.cas.now (sym c.has_code.ensures ∙ c.if-has_code.false)
