use Rattle.core_occurrences.proofs.Lawful.{removed_without, removed_occurs, room_is_holders}
use Rattle.core_occurrences.proofs.laws.removed_laws.Goals as goal

pub returns-clause-without : goal.returns-clause-without
returns-clause-without c = removed_without

pub returns-clause-occurs : goal.returns-clause-occurs
returns-clause-occurs c = removed_occurs

pub returns-clause-room : goal.returns-clause-room
returns-clause-room c = room_is_holders
