use Rattle.weight_laws.proofs.StatementLaws.{statement-sizes, statements-exact}
use Rattle.weight_laws.proofs.Statements.{statement-count}
use Rattle.weight_laws.proofs.laws.statement_law.Goals as goal

pub returns : goal.returns
returns c = record { size = statement-sizes; exact = statements-exact; cores = statement-count }
