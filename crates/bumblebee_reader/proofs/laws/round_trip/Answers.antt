use Rattle.bumblebee_reader.proofs.Canonical.{round_trip_lem}
use Rattle.bumblebee_reader.proofs.laws.round_trip.Goals as goal

pub returns : goal.returns
returns c = round_trip_lem
