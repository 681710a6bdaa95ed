use Rattle.opb_front.proofs.Fitting.{read_fits}
use Rattle.opb_front.proofs.laws.fits_law.Goals as goal

pub returns : goal.returns
returns c = read_fits
