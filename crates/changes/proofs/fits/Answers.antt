-- The two bytes that are read decide with the conditioning actions.
use Rattle.changes.proofs.FitLaws.{fit_bytes}
use Rattle.changes.proofs.fits.Goals as goal

pub returns : goal.returns
returns c = fit_bytes c.args.code.now c.args.content.now c.from.result c.from-2.result _ c.requires.filter_bytes
    c.from.ensures c.from-2.ensures c.fits_content.ensures
