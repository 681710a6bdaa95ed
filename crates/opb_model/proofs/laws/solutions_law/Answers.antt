use Rattle.opb_model.proofs.Solving.{solutions_are_those}
use Rattle.opb_model.proofs.laws.solutions_law.Goals as goal

pub returns : goal.returns
returns c = solutions_are_those
