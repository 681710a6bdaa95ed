use Rattle.statement_lower.proofs.LineLaws.{line_law}
use Rattle.statement_lower.proofs.laws.line_law.Goals as goal

pub returns : goal.returns
returns c = line_law
