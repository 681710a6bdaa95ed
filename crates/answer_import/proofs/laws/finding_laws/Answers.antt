use Rattle.answer_import.proofs.OneEnd.{shows-one, shows-or-fails, fails-once}
use Rattle.answer_import.proofs.SomeEnd.{some-end}
use Rattle.answer_import.proofs.laws.finding_laws.Goals as goal

pub returns-clause-one : goal.returns-clause-one
returns-clause-one c = shows-one c.answer_laws.ensures.proofs c.answer_laws.ensures.faults

pub returns-clause-either : goal.returns-clause-either
returns-clause-either c = shows-or-fails c.answer_laws.ensures.proofs c.answer_laws.ensures.faults

pub returns-clause-once : goal.returns-clause-once
returns-clause-once c = fails-once c.answer_laws.ensures.proofs c.answer_laws.ensures.faults

pub returns-clause-some : goal.returns-clause-some
returns-clause-some c = some-end
