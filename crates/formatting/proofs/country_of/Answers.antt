-- The length byte is within the width, or not.
use Rattle.formatting.proofs.Conditioned.{country_some, country_full}
use Rattle.formatting.proofs.country_of.Goals as goal

pub returns-then-n-country : goal.returns-then-n-country
returns-then-n-country c = country_some c.args.settings.now _ c.from-n.ensures

pub returns : goal.returns
returns c = country_full c.args.settings.now _ c.from-n.ensures c.if-n-country.false
