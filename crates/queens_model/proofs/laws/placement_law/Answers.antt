use Rattle.queens_model.proofs.Placing.{solutions_place_queens}
use Rattle.queens_model.proofs.laws.placement_law.Goals as goal

pub returns : goal.returns
returns c = solutions_place_queens
