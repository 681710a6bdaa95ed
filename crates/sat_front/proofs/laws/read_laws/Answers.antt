use Rattle.sat_front.proofs.Reading.{same_truth, read_in_range, read_in_order}
use Rattle.sat_front.proofs.laws.read_laws.Goals as goal

pub returns : goal.returns
returns c = record { truth = same_truth; range = read_in_range; order = read_in_order }
