use Rattle.literal_trail.proofs.Trails.{trail-implied, trail-chosen, trail-cut_back, room-free}
use Rattle.literal_trail.proofs.laws.move_laws.Goals as goal

pub returns-clause-implied : goal.returns-clause-implied
returns-clause-implied c = trail-implied

pub returns-clause-chosen : goal.returns-clause-chosen
returns-clause-chosen c = trail-chosen

pub returns-clause-cut_back : goal.returns-clause-cut_back
returns-clause-cut_back c = trail-cut_back

pub returns-clause-room : goal.returns-clause-room
returns-clause-room c = room-free
