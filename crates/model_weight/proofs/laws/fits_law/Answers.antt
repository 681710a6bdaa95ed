use Rattle.model_weight.proofs.WeightBounds.{weight-fits}
use Rattle.model_weight.proofs.laws.fits_law.Goals as goal

pub returns : goal.returns
returns c = weight-fits
