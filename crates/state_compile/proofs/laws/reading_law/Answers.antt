use Rattle.state_compile.proofs.Reading.{read-atom, read-model}
use Rattle.state_compile.proofs.laws.reading_law.Goals as goal

pub returns-clause-model : goal.returns-clause-model
returns-clause-model c = read-model

pub returns-clause-atom : goal.returns-clause-atom
returns-clause-atom c = read-atom
