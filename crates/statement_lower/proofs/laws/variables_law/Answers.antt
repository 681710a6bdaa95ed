use Rattle.statement_lower.proofs.MoreVariables.{variables_law}
use Rattle.statement_lower.proofs.laws.variables_law.Goals as goal

pub returns : goal.returns
returns c = variables_law
